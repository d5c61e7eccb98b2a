-- The first thing that is wrong with the parts of a certificate is one, and where there is one not all is well.
use Rattle.std.proofs.Common.{◌≡◌, ℕ, ℤ, pos, ◌<◌, ◌≤◌, ◌≤ℤ◌, ◌⊎◌, inl, inr, List, [], ◌∷◌, length, zero, suc, sym, ap, ◌∙◌, arith}
use Rattle.std.proofs.lemmas.Int.{ints}
use Rattle.std.specs.Prelude.{Some, None}
use Rattle.cover_core.specs.declared.Plan.{Plan}
use Rattle.cover_core.specs.declared.marks.Gap.{Gap}
use Rattle.cover_core.specs.declared.marks.Gap.TheVariants.{First, Next, Close}
use Rattle.cover_core.specs.Plans.{number_at}
use Rattle.mark_cover.specs.Covers.{IsFirstGap, IsGap, IsMarkCover, IsNoLater}
use Rattle.mark_cover.specs.Marking.{Marking}
use Rattle.plan_cert.specs.declared.cert.CertPart.{CertPart}
use Rattle.cert_check.specs.Judging.{Case}
use Rattle.cert_check.specs.Reasons.{AllCharged, AreCharged, AreShown, IsFirstNegative, IsFirstTooHigh, IsFirstUncovered, IsGapOf, IsNegative, NoGaps}
use Rattle.one_answer.proofs.Firsts.{one-first}

-- a class price below 0
not-charged : (part : CertPart) (class : ℕ) → AreCharged part (length part.class_prices) → IsNegative part class → ⊥
not-charged part class charged is = let least = charged class is.there in let below = is.below in omega (arith, ints)

one-class : (part : CertPart) (class class' : ℕ) → IsNegative part class → IsNegative part class' → class ≡ class'
one-class part class class' h k =
    let P : ℕ → Type 0 = λ n. pos 0 ≤ℤ number_at part.class_prices n in
    let fails : P class → ⊥ = λ least. let below = h.below in omega (arith, ints) in
    let fails' : P class' → ⊥ = λ least. let below = k.below in omega (arith, ints) in
    one-first P class class' h.first fails k.first fails'

pub no-negative : (from : ℕ) (parts : List CertPart) (pass class : ℕ) → AllCharged parts → IsFirstNegative from parts pass class → ⊥
no-negative from [] pass class charged is = is
no-negative from (part ∷ parts) pass class charged is = elim is [
  | inl later ↦ no-negative (suc from) parts pass class charged.1 later.1
  | inr here ↦ not-charged part class charged.0 here.1
]

pub one-negative : (from : ℕ) (parts : List CertPart) (pass class pass' class' : ℕ) → IsFirstNegative from parts pass class →
    IsFirstNegative from parts pass' class' → (pass ≡ pass') × (class ≡ class')
one-negative from [] pass class pass' class' h k = absurd h
one-negative from (part ∷ parts) pass class pass' class' h k = elim h [
  | inl later ↦ elim k [
    | inl later' ↦ one-negative (suc from) parts pass class pass' class' later.1 later'.1
    | inr here' ↦ absurd (not-charged part class' later.0 here'.1)
  ]
  | inr here ↦ elim k [
    | inl later' ↦ absurd (not-charged part class later'.0 here.1)
    | inr here' ↦ (here.0 ∙ sym here'.0, one-class part class class' here.1 here'.1)
  ]
]

-- of two pairs of numbers neither is after the other
same-pair : (a b a' b' : ℕ) → (a < a') ⊎ ((a ≡ a') × (b ≤ b')) → (a' < a) ⊎ ((a' ≡ a) × (b' ≤ b)) → (a ≡ a') × (b ≡ b')
same-pair a b a' b' h k = elim h [
  | inl less ↦ elim k [
    | inl more ↦ absurd (omega arith)
    | inr same ↦ let equal = same.0 in absurd (omega arith)
  ]
  | inr same ↦ elim k [
    | inl more ↦ let equal = same.0 in absurd (omega arith)
    | inr same' ↦ let low = same.1 in let high = same'.1 in (same.0, omega arith)
  ]
]

-- Of two gaps neither is after the other. Gaps are ordered in full: by kind, then by their numbers. So of two of which neither is
-- after the other both are of one kind and have the same numbers, and the first gap of a cover is one (`first-gaps`).
same-gap : (g h : Gap) → IsNoLater g h → IsNoLater h g → g ≡ h
same-gap (First class item) (First class' item') e f =
    let both = same-pair class item class' item' e f in let a = both.0 in let b = both.1 in cc
same-gap (First class item) (Next place item') e f = absurd f
same-gap (First class item) (Close place) e f = absurd f
same-gap (Next place item) (First class item') e f = absurd e
same-gap (Next place item) (Next place' item') e f =
    let both = same-pair place item place' item' e f in let a = both.0 in let b = both.1 in cc
same-gap (Next place item) (Close place') e f = absurd f
same-gap (Close place) (First class item) e f = absurd e
same-gap (Close place) (Next place' item) e f = absurd e
same-gap (Close place) (Close place') e f = let same : place ≡ place' = omega arith in ap Close same

-- a first gap is one
first-gaps : {L : Type 0} (m : Marking L) (marks : List L) (class_prices : List ℤ) (g h : Gap) → IsFirstGap m marks class_prices g →
    IsFirstGap m marks class_prices h → g ≡ h
first-gaps m marks class_prices g h one other = same-gap g h (one.first h other.is_gap) (other.first g one.is_gap)

-- a cover has no gap of any kind
cover-whole : {L : Type 0} (m : Marking L) (marks : List L) (class_prices : List ℤ) (gap : Gap) → IsMarkCover m marks class_prices →
    IsGap m marks class_prices gap → ⊥
cover-whole m marks class_prices (First class item) cover (below, b, is, none) = none (cover.starts class item b below is)
cover-whole m marks class_prices (Next place item) cover (a, at, b, is, none) = none (cover.steps a b item (place, at) is)
cover-whole m marks class_prices (Close place) cover (a, at, low) = cover.closes a (place, at) low

not-whole : (c : Case) (blocks : Plan) (pass : ℕ) (part : CertPart) (gap : Gap) → IsGapOf c blocks pass part None →
    IsGapOf c blocks pass part (Some gap) → ⊥
not-whole c blocks zero part gap cover is = cover-whole _ part.blocks.marks part.class_prices gap cover is.is_gap
not-whole c blocks (suc zero) part gap cover is = cover-whole _ part.blocks.marks part.class_prices gap cover is.is_gap
not-whole c blocks (suc (suc zero)) part gap cover is = cover-whole _ part.cover.marks part.class_prices gap cover is.is_gap
not-whole c blocks (suc (suc (suc pass))) part gap cover is = cover-whole _ part.cover.marks part.class_prices gap cover is.is_gap

one-gap : (c : Case) (blocks : Plan) (pass : ℕ) (part : CertPart) (g h : Gap) → IsGapOf c blocks pass part (Some g) →
    IsGapOf c blocks pass part (Some h) → g ≡ h
one-gap c blocks zero part g h one other = first-gaps _ part.blocks.marks part.class_prices g h one other
one-gap c blocks (suc zero) part g h one other = first-gaps _ part.blocks.marks part.class_prices g h one other
one-gap c blocks (suc (suc zero)) part g h one other = first-gaps _ part.cover.marks part.class_prices g h one other
one-gap c blocks (suc (suc (suc pass))) part g h one other = first-gaps _ part.cover.marks part.class_prices g h one other

pub no-gap : (c : Case) (blocks : Plan) (from : ℕ) (parts : List CertPart) (pass : ℕ) (gap : Gap) → NoGaps c blocks from parts →
    IsFirstUncovered c blocks from parts pass gap → ⊥
no-gap c blocks from [] pass gap none is = is
no-gap c blocks from (part ∷ parts) pass gap none is = elim is [
  | inl later ↦ no-gap c blocks (suc from) parts pass gap none.1 later.1
  | inr here ↦ not-whole c blocks from part gap none.0 here.1
]

-- Part by part: either both answers find this part without gap, and are compared behind it, or both find its first gap, which is one.
-- One cannot find a gap where the other finds a cover, as a gap denies a promise of the cover (`not-whole`). Class prices below 0 and
-- bounds that are too high are told once for the same cause (`one-negative`, `one-high`).
pub one-uncovered : (c : Case) (blocks : Plan) (from : ℕ) (parts : List CertPart) (pass pass' : ℕ) (g h : Gap) →
    IsFirstUncovered c blocks from parts pass g → IsFirstUncovered c blocks from parts pass' h → (pass ≡ pass') × (g ≡ h)
one-uncovered c blocks from [] pass pass' g h one other = absurd one
one-uncovered c blocks from (part ∷ parts) pass pass' g h one other = elim one [
  | inl later ↦ elim other [
    | inl later' ↦ one-uncovered c blocks (suc from) parts pass pass' g h later.1 later'.1
    | inr here' ↦ absurd (not-whole c blocks from part h later.0 here'.1)
  ]
  | inr here ↦ elim other [
    | inl later' ↦ absurd (not-whole c blocks from part g later'.0 here.1)
    | inr here' ↦ (here.0 ∙ sym here'.0, one-gap c blocks from part g h here.1 here'.1)
  ]
]

-- the pass and the two bounds
pub record AreSame (pass pass' print print' show show' : ℕ) : Type 0 where
  pub passes : pass ≡ pass'
  pub prints : print ≡ print'
  pub shows : show ≡ show'

pub not-high : (c : Case) (blocks : Plan) (bounds : List ℕ) (from : ℕ) (parts : List CertPart) (pass print show : ℕ) →
    AreShown c blocks bounds from parts → IsFirstTooHigh c blocks bounds from parts pass print show → ⊥
not-high c blocks bounds from [] pass print show shown is = is
not-high c blocks bounds from (part ∷ parts) pass print show shown is = elim is [
  | inl later ↦ not-high c blocks bounds (suc from) parts pass print show shown.1 later.1
  | inr here ↦ let low = shown.0 in let one = here.1.print_is in let two = here.1.show_is in let over = here.1.higher in omega arith
]

pub one-high : (c : Case) (blocks : Plan) (bounds : List ℕ) (from : ℕ) (parts : List CertPart) (pass print show pass' print' show' : ℕ) →
    IsFirstTooHigh c blocks bounds from parts pass print show → IsFirstTooHigh c blocks bounds from parts pass' print' show' →
    AreSame pass pass' print print' show show'
one-high c blocks bounds from [] pass print show pass' print' show' h k = absurd h
one-high c blocks bounds from (part ∷ parts) pass print show pass' print' show' h k = elim h [
  | inl later ↦ elim k [
    | inl later' ↦ one-high c blocks bounds (suc from) parts pass print show pass' print' show' later.1 later'.1
    | inr here' ↦
        let low = later.0 in let one = here'.1.print_is in let two = here'.1.show_is in let over = here'.1.higher in
        absurd (omega arith)
  ]
  | inr here ↦ elim k [
    | inl later' ↦
        let low = later'.0 in let one = here.1.print_is in let two = here.1.show_is in let over = here.1.higher in
        absurd (omega arith)
    | inr here' ↦ record {
      passes = here.0 ∙ sym here'.0;
      prints = here.1.print_is ∙ sym here'.1.print_is;
      shows = here.1.show_is ∙ sym here'.1.show_is;
    }
  ]
]
