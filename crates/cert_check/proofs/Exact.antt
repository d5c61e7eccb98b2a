-- An accepted plan and certificate have no reason against them.
use Rattle.std.proofs.Common.{◌≡◌, ℕ, ℤ, inl, inr, false, List, [], ◌∷◌, length, zero, suc, refl, sym, ap, ◌∙◌, subst, arith}
use Rattle.std.proofs.lemmas.Int.{ints}
use Rattle.std.specs.Prelude.{Option, Some, None, Result, Ok, Err}
use Rattle.std.proofs.lemmas.Option.{same_Some}
use Rattle.cover_core.specs.declared.Column.{Column}
use Rattle.cover_core.specs.declared.Plan.{Plan}
use Rattle.cover_core.specs.declared.marks.Gap.{Gap}
use Rattle.cover_core.specs.declared.marks.Gap.TheVariants as gaps
use Rattle.cover_core.specs.Cover.{Problem}
use Rattle.cover_core.specs.Plans.{AreColumns}
use Rattle.mark_cover.specs.Covers.{IsGap, IsMarkCover}
use Rattle.mark_cover.specs.Marking.{Marking}
use Rattle.umlauf_write.specs.declared.text.PlanText.{PlanText}
use Rattle.umlauf_write.specs.declared.text.PlanFault.TheVariants as faults
use Rattle.plan_cert.specs.declared.cert.Cert.{Cert}
use Rattle.plan_cert.specs.declared.cert.CertPart.{CertPart}
use Rattle.plan_cert.specs.declared.fault.Place.{Place as CertPlace}
use Rattle.plan_check.specs.declared.verdict.PlanVerdict.{PlanVerdict}
use Rattle.plan_check.specs.declared.verdict.PlanVerdict.TheVariants as verdicts
use Rattle.plan_check.specs.Verdicts.{IsVerdict, HaveSameLists}
use Rattle.plan_check.proofs.Lists.{plans-found}
use Rattle.table_differences.specs.declared.difference.Difference.{Difference}
use Rattle.cert_check.specs.declared.reason.Reason.TheVariants as reasons
use Rattle.cert_check.specs.Certified.{AcceptedHasNoReason}
use Rattle.cert_check.specs.Judging.{Case, blocks_in, cert_in, duties_in, duty_lists, pieces_in, text_in}
use Rattle.cert_check.specs.Reasons.{AllCharged, ArePlanAgain, AreShown, HasBlocks, HasDuties, IsFirstNegative, IsFirstTooHigh, IsFirstUncovered, IsGapOf, IsReason, NoGaps, difference_in, printed_pieces}

ok-same : {T E : Type 0} (r : Result T E) (x y : T) → r ≡ Ok x → r ≡ Ok y → x ≡ y
ok-same r x y h k = let e : Ok x ≡ Ok y = sym h ∙ k in cc

-- the worths of lists are those of the problem
one-column : (p : Problem) (l a b : Column) → l.class ≡ a.class → l.items ≡ a.items → l.class ≡ b.class → l.items ≡ b.items →
    p.worth a.class a.items ≡ Some a.worth → p.worth b.class b.items ≡ Some b.worth → a ≡ b
one-column p l a b ca ia cb ib wa wb =
    let class : a.class ≡ b.class = sym ca ∙ cb in
    let items : a.items ≡ b.items = sym ia ∙ ib in
    let worth : a.worth ≡ b.worth = same_Some a.worth b.worth
    (sym wa ∙ (ap (λ k. p.worth k a.items) class ∙ (ap (λ xs. p.worth b.class xs) items ∙ wb))) in
    let make : ℕ → ℕ → List ℕ → Column = λ c w is. record { class = c; worth = w; items = is } in
    ap (λ c. make c a.worth a.items) class ∙ (ap (λ w. make b.class w a.items) worth ∙ ap (λ is. make b.class b.worth is) items)

-- A column is its class, its items and its worth. The first two are those of the list, and the worth is what the problem gives them,
-- so two plans of the same lists agree column by column. Hence what is found is determined, which lets every reason speak of what was
-- accepted.
one-plan : (p : Problem) (lists as' bs : List Column) → HaveSameLists lists as' → HaveSameLists lists bs → AreColumns p as' →
    AreColumns p bs → as' ≡ bs
one-plan p [] [] [] h k ca cb = refl
one-plan p [] [] (b ∷ bs) h k ca cb = absurd k
one-plan p [] (a ∷ as') bs h k ca cb = absurd h
one-plan p (l ∷ ls) [] bs h k ca cb = absurd h
one-plan p (l ∷ ls) (a ∷ as') [] h k ca cb = absurd k
one-plan p (l ∷ ls) (a ∷ as') (b ∷ bs) h k ca cb =
    let rest = one-plan p ls as' bs h.2 k.2 ca.1 cb.1 in
    let head = one-column p l a b h.0 h.1 k.0 k.1 ca.0.1 cb.0.1 in
    cc

lawful-same : (p : Problem) (lists : List Column) (a b : Plan) → IsVerdict p lists (verdicts.Lawful a) →
    IsVerdict p lists (verdicts.Lawful b) → a ≡ b
lawful-same p lists a b h k =
    let same = one-plan p lists a.columns b.columns h.0 k.0 h.1.worths k.1.worths in
    let f : List Column → Plan = λ l. record { columns = l } in
    ap f same

abbrev IsLawful : PlanVerdict → Type 0
IsLawful (verdicts.Lawful plan) = Unit {0}
IsLawful (verdicts.Times item count) = ⊥
IsLawful (verdicts.Unlawful place) = ⊥
IsLawful (verdicts.Over class used) = ⊥

-- Lists that are lawful get no other verdict: of lists that are a plan all other verdicts are false (`plans-found`). It is said as a
-- property of verdicts which only a lawful one has, so that each reason that comes with another verdict is refuted by it.
only-lawful : (p : Problem) (lists : List Column) (plan : Plan) (verdict : PlanVerdict) → IsVerdict p lists (verdicts.Lawful plan) →
    IsVerdict p lists verdict → IsLawful verdict
only-lawful p lists plan verdict h k = subst IsLawful (sym (plans-found p lists plan.columns verdict h.0 h.1 k)) tt

no-negative : (from : ℕ) (parts : List CertPart) (pass class : ℕ) → AllCharged parts → IsFirstNegative from parts pass class → ⊥
no-negative from [] pass class charged is = is
no-negative from (part ∷ parts) pass class charged is = elim is [
  | inl later ↦ no-negative (suc from) parts pass class charged.1 later.1
  | inr here ↦
      let below = here.1.below in
      let least = charged.0 class here.1.there in
      omega (arith, ints)
]

-- A cover has no gap of any kind. Each kind of gap denies one of the three promises of a cover.
cover-whole : {L : Type 0} (m : Marking L) (marks : List L) (class_prices : List ℤ) (gap : Gap) → IsMarkCover m marks class_prices →
    IsGap m marks class_prices gap → ⊥
cover-whole m marks class_prices (gaps.First class item) cover (below, b, is, none) = none (cover.starts class item b below is)
cover-whole m marks class_prices (gaps.Next place item) cover (a, at, b, is, none) = none (cover.steps a b item (place, at) is)
cover-whole m marks class_prices (gaps.Close place) cover (a, at, low) = cover.closes a (place, at) low

whole-of : (c : Case) (blocks : Plan) (pass : ℕ) (part : CertPart) (gap : Gap) → IsGapOf c blocks pass part None →
    IsGapOf c blocks pass part (Some gap) → ⊥
whole-of c blocks zero part gap cover is = cover-whole _ part.blocks.marks part.class_prices gap cover is.is_gap
whole-of c blocks (suc zero) part gap cover is = cover-whole _ part.blocks.marks part.class_prices gap cover is.is_gap
whole-of c blocks (suc (suc zero)) part gap cover is = cover-whole _ part.cover.marks part.class_prices gap cover is.is_gap
whole-of c blocks (suc (suc (suc pass))) part gap cover is = cover-whole _ part.cover.marks part.class_prices gap cover is.is_gap

no-gap : (c : Case) (blocks : Plan) (from : ℕ) (parts : List CertPart) (pass : ℕ) (gap : Gap) → NoGaps c blocks from parts →
    IsFirstUncovered c blocks from parts pass gap → ⊥
no-gap c blocks from [] pass gap none is = is
no-gap c blocks from (part ∷ parts) pass gap none is = elim is [
  | inl later ↦ no-gap c blocks (suc from) parts pass gap none.1 later.1
  | inr here ↦ whole-of c blocks from part gap none.0 here.1
]

not-high : (c : Case) (blocks : Plan) (bounds : List ℕ) (from : ℕ) (parts : List CertPart) (pass print show : ℕ) →
    AreShown c blocks bounds from parts →
    IsFirstTooHigh c blocks bounds from parts pass print show → ⊥
not-high c blocks bounds from [] pass print show shown is = is
not-high c blocks bounds from (part ∷ parts) pass print show shown is = elim is [
  | inl later ↦ not-high c blocks bounds (suc from) parts pass print show shown.1 later.1
  | inr here ↦ let low = shown.0 in let one = here.1.print_is in let two = here.1.show_is in let over = here.1.higher in omega arith
]

-- the same text, blocks and duties
same-text : (c : Case) (text other : PlanText) (blocks : Plan) → HasBlocks c text blocks → (text_in c) ≡ Ok other → text ≡ other
same-text c text other blocks has said = ok-same (text_in c) text other has.said said

blocks-verdict : (c : Case) (text other : PlanText) (blocks : Plan) (verdict : PlanVerdict) → HasBlocks c text blocks →
    (text_in c) ≡ Ok other →
    IsVerdict (blocks_in c false) other.blocks.columns verdict → IsLawful verdict
blocks-verdict c text other blocks verdict has said is =
    let P : PlanText → Type 0 = λ t. IsVerdict (blocks_in c false) t.blocks.columns verdict in
    only-lawful (blocks_in c false) text.blocks.columns blocks verdict has.lawful
    (subst P (sym (same-text c text other blocks has said)) is)

same-blocks : (c : Case) (text other : PlanText) (blocks others : Plan) → HasBlocks c text blocks → HasBlocks c other others →
    blocks ≡ others
same-blocks c text other blocks others has other_has =
    let P : PlanText → Type 0 = λ t. IsVerdict (blocks_in c false) t.blocks.columns (verdicts.Lawful others) in
    lawful-same (blocks_in c false) text.blocks.columns blocks others has.lawful
    (subst P (sym (same-text c text other blocks has other_has.said)) other_has.lawful)

duties-verdict : (c : Case) (text other : PlanText) (blocks others duties : Plan) (verdict : PlanVerdict) →
    HasDuties c text blocks duties → HasBlocks c other others →
    IsVerdict (duties_in c (pieces_in c others.columns) false) (duty_lists c others.columns other) verdict → IsLawful verdict
duties-verdict c text other blocks others duties verdict has other_has is =
    let texts = same-text c text other blocks has.has_blocks other_has.said in
    let plans = same-blocks c text other blocks others has.has_blocks other_has in
    let P : PlanText → Type 0 = λ t. IsVerdict (duties_in c (pieces_in c others.columns) false) (duty_lists c others.columns t) verdict in
    let Q : Plan → Type 0 = λ b. IsVerdict (duties_in c (pieces_in c b.columns) false) (duty_lists c b.columns text) verdict in
    only-lawful (duties_in c (pieces_in c blocks.columns) false) (duty_lists c blocks.columns text) duties verdict has.lawful
    (subst Q (sym plans) (subst P (sym texts) is))

-- a record of what was found, twice, is one
record IsSame (text other : PlanText) (blocks others duties others' : Plan) : Type 0 where
  pub texts : text ≡ other
  pub plans : blocks ≡ others
  pub duty_plans : duties ≡ others'

same-duties : (c : Case) (text other : PlanText) (blocks others duties others' : Plan) → HasDuties c text blocks duties →
    HasDuties c other others others' → IsSame text other blocks others duties others'
same-duties c text other blocks others duties others' has other_has =
    let texts = same-text c text other blocks has.has_blocks other_has.has_blocks.said in
    let plans = same-blocks c text other blocks others has.has_blocks other_has.has_blocks in
    let P : PlanText → Type 0 = λ t. IsVerdict (duties_in c (pieces_in c others.columns) false) (duty_lists c others.columns t)
    (verdicts.Lawful others') in
    let Q : Plan → Type 0 = λ b. IsVerdict (duties_in c (pieces_in c b.columns) false) (duty_lists c b.columns text)
    (verdicts.Lawful others') in
    record {
      texts = texts;
      plans = plans;
      duty_plans = lawful-same (duties_in c (pieces_in c blocks.columns) false) (duty_lists c blocks.columns text) duties others'
          has.lawful (subst Q (sym plans) (subst P (sym texts) other_has.lawful));
    }

same-cert : (c : Case) (blocks others : Plan) (cert other : Cert) → blocks ≡ others →
    (cert_in c) (length (printed_pieces c blocks)) ≡ Ok cert → (cert_in c) (length (printed_pieces c others)) ≡ Ok other → cert ≡ other
same-cert c blocks others cert other plans h k =
    ok-same (cert_in c (length (printed_pieces c blocks))) cert other h (ap (λ b. (cert_in c) (length (printed_pieces c b))) plans ∙ k)

-- Each reason is taken in turn. What it says of the text, the blocks, the duties or the certificate is about the same ones that were
-- accepted, as each is determined by the tables; and there it says the contrary: another verdict, a difference, a class price below 0, a
-- gap in a cover, or a bound above the one that is shown.
pub accepted-exact : (c : Case) → AcceptedHasNoReason c
accepted-exact c text blocks duties cert accepted reason =
    let covered = accepted.is_covered in
    let charged = covered.is_charged in
    let has_cert = charged.has_cert in
    let has_tables = has_cert.has_tables in
    let has_duties = has_tables.has_duties in
    let has_blocks = has_duties.has_blocks in
    elim reason as (λ r. IsReason c r → ⊥) [
      | reasons.PlanForm table row ↦ λ is. let e : Ok text ≡ Err (faults.Form table row) = sym has_blocks.said ∙ is in cc
      | reasons.TripTimes fid times ↦ λ (other, said, item, at, verdict). blocks-verdict c text other blocks (verdicts.Times item times)
          has_blocks said verdict
      | reasons.BlockUnlawful block ↦ λ (other, said, spot, is, verdict). blocks-verdict c text other blocks (verdicts.Unlawful spot)
          has_blocks said verdict
      | reasons.PoolOver pool used cap ↦ λ (other, said, class, at, is, verdict). blocks-verdict c text other blocks
          (verdicts.Over class used) has_blocks said verdict
      | reasons.PieceTimes block index times ↦ λ (other, others, has, item, piece, at, b, i, verdict). duties-verdict c text other blocks
          others duties (verdicts.Times item times) has_duties has verdict
      | reasons.DutyUnlawful duty ↦ λ (other, others, has, spot, is, verdict). duties-verdict c text other blocks others duties
          (verdicts.Unlawful spot) has_duties has verdict
      | reasons.GroupOver group used cap ↦ λ (other, others, has, class, at, is, verdict). duties-verdict c text other blocks others
          duties (verdicts.Over class used) has_duties has verdict
      | reasons.PlanDiffers table row ↦ λ (other, others, others', has, is).
          let same = same-duties c text other blocks others duties others' has_duties has in
          elim is [
            | inl (d, found, place) ↦
                let F : PlanText → Plan → Plan → Option Difference = difference_in c in
                let e : F text blocks duties ≡ F other others others' = ap (λ t. F t blocks duties) same.texts
                ∙ (ap (λ b. F other b duties) same.plans ∙ ap (λ d. F other others d) same.duty_plans) in
                let bad : None ≡ Some d = sym has_tables.same ∙ (e ∙ found) in
                absurd (cc)
            | inr (none, no_plan, named, row_is) ↦
                let P : Plan → Type 0 = λ b. ArePlanAgain c b duties in
                let Q : Plan → Type 0 = λ d. ArePlanAgain c others d in
                no_plan (subst Q same.duty_plans (subst P same.plans has_tables.again))
          ]
      | reasons.CertForm at ↦ λ (other, others, others', has, is).
          let same = same-duties c text other blocks others duties others' has_duties has.has_duties in
          let F : Plan → Result Cert CertPlace = λ b. (cert_in c) (length (printed_pieces c b)) in
          let bad : Ok cert ≡ Err at = sym has_cert.said ∙ (ap F same.plans ∙ is) in
          cc
      | reasons.NegativeClassPrice pass class ↦ λ (other, others, others', cert', has, is).
          let same = same-duties c text other blocks others duties others' has_duties has.has_tables.has_duties in
          let certs = same-cert c blocks others cert cert' same.plans has_cert.said has.said in
          let P : Cert → Type 0 = λ k. IsFirstNegative 1 k.parts pass class in
          no-negative 1 cert.parts pass class charged.charged (subst P (sym certs) is)
      | reasons.Uncovered pass gap ↦ λ (other, others, others', cert', has, is).
          let same = same-duties c text other blocks others duties others' has_duties has.has_cert.has_tables.has_duties in
          let certs = same-cert c blocks others cert cert' same.plans has_cert.said has.has_cert.said in
          let P : Cert → Type 0 = λ k. IsFirstUncovered c others zero k.parts pass gap in
          let Q : Plan → Type 0 = λ b. IsFirstUncovered c b zero cert.parts pass gap in
          no-gap c blocks zero cert.parts pass gap covered.covered (subst Q (sym same.plans) (subst P (sym certs) is))
      | reasons.BoundTooHigh pass print show ↦ λ (other, others, others', cert', has, is).
          let same = same-duties c text other blocks others duties others' has_duties has.is_charged.has_cert.has_tables.has_duties in
          let certs = same-cert c blocks others cert cert' same.plans has_cert.said has.is_charged.has_cert.said in
          let P : Cert → Type 0 = λ k. IsFirstTooHigh c others other.bounds zero k.parts pass print show in
          let Q : Plan → Type 0 = λ b. IsFirstTooHigh c b other.bounds zero cert.parts pass print show in
          let R : PlanText → Type 0 = λ t. IsFirstTooHigh c blocks t.bounds zero cert.parts pass print show in
          not-high c blocks text.bounds zero cert.parts pass print show accepted.shown
          (subst R (sym same.texts) (subst Q (sym same.plans) (subst P (sym certs) is)))
    ]
