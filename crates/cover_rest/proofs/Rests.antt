-- A plan that keeps what has begun is a plan of the rest, written out.
use Rattle.std.proofs.Common.{◌≡◌, ◌≢◌, ◌==◌, ℕ, ◌+◌, ◌<◌, ◌≤◌, ◌&&◌, ◌||◌, Bool, true, false, cond, not, nat_le, nat_eq, zero, suc, List, [], ◌∷◌, ◌++◌, length, inl, inr, Option, Some, None, refl, sym, ap, subst, ◌∙◌, arith, slice_get}
use Rattle.std.specs.Prelude.{slice_index}
use Rattle.std.proofs.lemmas.Bool.{cases_lt}
use Rattle.std.proofs.lemmas.Bool.Decides.{nat_tests}
use Rattle.std.proofs.lemmas.Option.{slice_get_within}
use Rattle.cover_core.specs.declared.Column.{Column}
use Rattle.cover_core.specs.Cover.{Problem, AllBelow, Rises}
use Rattle.cover_core.specs.Plans.{AreColumns, HasListedColumns, IsPlan, times, all_items, all_classes}
use Rattle.cover_core.proofs.Parts.{times-append}
use Rattle.cover_core.proofs.Duality.{all_items-below}
use Rattle.cover_rest.specs.declared.begun.Begun.{Begun}
use Rattle.cover_rest.specs.Rest.{begun_lists, bodies, body_at, free_lists, has_begun, is_empty, joined, keeps_heads, may_go_on, none_below, rest_of, rest_worth, written, written_column, written_plan}
use Rattle.cover_rest.specs.Keeping.{AreHeads, BeginsWith, KeepsBegun, NoneEmpty}
use Rattle.cover_rest.specs.Laws.{IsKeptRest}
use Rattle.cover_rest.proofs.Counts.{bodies-once, once-rest, written-classes}
use Rattle.cover_rest.proofs.Lists.{parts-rest, rest-listed, some-same, true-both}
use Rattle.cover_rest.proofs.Kept.{column-there, head-body, many-bodies}
use Rattle.cover_rest.proofs.Places.{AllFree, head-below, head-rises, places, places-below, places-past, places-rise, places-written}

-- a column of the rest that a column is the writing of
pub record IsWriting (p : Problem) (heads : List Begun) (may : ℕ → List ℕ → Bool) (c : Column) : Type 0 where
  pub list : List ℕ
  pub is : written (bodies heads p.items) list ≡ c.items
  pub listed : rest_worth p heads (bodies heads p.items) may c.class list ≡ Some c.worth

-- how often an item stands in the column at a place is no more than how often it stands in all
one-column : (i : ℕ) (cs : List Column) (j : ℕ) (c : Column) → slice_get cs j ≡ Some c → times i c.items ≤ times i (all_items cs)
one-column i [] j c at = absurd (cc)
one-column i (d ∷ ds) zero c at =
    let both = times-append i d.items (all_items ds) in
    let same : times i d.items ≡ times i c.items = ap (λ (c : Column). times i c.items) (some-same d c at) in
    omega (arith, both, same)
one-column i (d ∷ ds) (suc j) c at =
    let both = times-append i d.items (all_items ds) in
    let rest = one-column i ds j c at in
    omega (arith, both, rest)

-- An item that stands in two columns stands twice in the plan; the lemmas around it say the same of one column, and of heads. They
-- turn the counts by which plans and heads are defined into the statement that two places are one.
two-columns : (i : ℕ) (cs : List Column) (j k : ℕ) (c d : Column) → slice_get cs j ≡ Some c → slice_get cs k ≡ Some d → j < k →
    1 ≤ times i c.items → 1 ≤ times i d.items → 2 ≤ times i (all_items cs)
two-columns i [] j k c d at there up h g = absurd (cc)
two-columns i (e ∷ es) j zero c d at there up h g = absurd (omega arith)
two-columns i (e ∷ es) zero (suc k) c d at there up h g =
    let both = times-append i e.items (all_items es) in
    let same : times i e.items ≡ times i c.items = ap (λ (c : Column). times i c.items) (some-same e c at) in
    let rest = one-column i es k d there in
    omega (arith, both, same, rest, h, g)
two-columns i (e ∷ es) (suc j) (suc k) c d at there up h g =
    let both = times-append i e.items (all_items es) in
    let rest = two-columns i es j k c d at there (omega arith) h g in
    omega (arith, both, rest)

one-head : (i : ℕ) (hs : List Begun) (k : ℕ) (h : Begun) → slice_get hs k ≡ Some h → times i h.items ≤ times i (joined (begun_lists hs))
one-head i [] k h at = absurd (cc)
one-head i (g ∷ gs) zero h at =
    let both = times-append i g.items (joined (begun_lists gs)) in
    let same : times i g.items ≡ times i h.items = ap (λ (h : Begun). times i h.items) (some-same g h at) in
    omega (arith, both, same)
one-head i (g ∷ gs) (suc k) h at =
    let both = times-append i g.items (joined (begun_lists gs)) in
    let rest = one-head i gs k h at in
    omega (arith, both, rest)

two-heads : (i : ℕ) (hs : List Begun) (j k : ℕ) (g h : Begun) → slice_get hs j ≡ Some g → slice_get hs k ≡ Some h → j < k →
    1 ≤ times i g.items → 1 ≤ times i h.items → 2 ≤ times i (joined (begun_lists hs))
two-heads i [] j k g h at there up a b = absurd (cc)
two-heads i (e ∷ es) j zero g h at there up a b = absurd (omega arith)
two-heads i (e ∷ es) zero (suc k) g h at there up a b =
    let both = times-append i e.items (joined (begun_lists es)) in
    let same : times i e.items ≡ times i g.items = ap (λ (h : Begun). times i h.items) (some-same e g at) in
    let rest = one-head i es k h there in
    omega (arith, both, same, rest, a, b)
two-heads i (e ∷ es) (suc j) (suc k) g h at there up a b =
    let both = times-append i e.items (joined (begun_lists es)) in
    let rest = two-heads i es j k g h at there (omega arith) a b in
    omega (arith, both, rest)

-- the head in which an item stands
find-head : (i : ℕ) (hs : List Begun) → 1 ≤ times i (joined (begun_lists hs)) →
    (k : ℕ) × (h : Begun) × (slice_get hs k ≡ Some h) × (1 ≤ times i h.items)
find-head i [] some = absurd (omega arith)
find-head i (h ∷ hs) some =
    let both = times-append i h.items (joined (begun_lists hs)) in
    elim (cases_lt 0 (times i h.items)) [
      | inl here ↦ (0, h, refl, omega (arith, here))
      | inr none ↦
          let (k, g, at, there) = find-head i hs (omega (arith, both, none)) in
          (suc k, g, at, there)
    ]

begun-some : (hs : List Begun) (i : ℕ) → has_begun hs i ≡ true → 1 ≤ times i (joined (begun_lists hs))
begun-some hs i e = each (times i (joined (begun_lists hs))) e
  where
    each : (t : ℕ) → not (t == 0) ≡ true → 1 ≤ t
    each zero e = absurd (cc)
    each (suc t) e = omega arith

begun-none : (hs : List Begun) (i : ℕ) → (1 ≤ times i (joined (begun_lists hs)) → ⊥) → has_begun hs i ≡ false
begun-none hs i none = elim (has_begun hs i) as (λ b. has_begun hs i ≡ b → has_begun hs i ≡ false) [
  | true ↦ λ is. absurd (none (begun-some hs i is))
  | false ↦ λ is. is
] refl

begun-true : (hs : List Begun) (i : ℕ) → 1 ≤ times i (joined (begun_lists hs)) → has_begun hs i ≡ true
begun-true hs i some = each (times i (joined (begun_lists hs))) some
  where
    each : (t : ℕ) → 1 ≤ t → not (t == 0) ≡ true
    each zero h = absurd (omega arith)
    each (suc t) h = let test : (suc t == 0) ≡ false = grind (arith, nat_tests) in rw test refl

abbrev first_or : ℕ → List ℕ → ℕ
first_or x [] = x
first_or x (y ∷ ys) = y

-- the first item of a list stands in an initial part of it
front-first : (xs more rest : List ℕ) (x : ℕ) → xs ≢ [] → x ∷ rest ≡ xs ++ more → 1 ≤ times x xs
front-first [] more rest x some e = absurd (some refl)
front-first (y ∷ ys) more rest x some e =
    let same : x ≡ y = ap (first_or x) e in
    let test : (x == y) ≡ true = grind (arith, nat_tests) in
    rw test (omega arith)

head-some : (hs : List Begun) (k : ℕ) (h : Begun) → NoneEmpty hs → slice_get hs k ≡ Some h → h.items ≢ []
head-some [] k h some at = absurd (cc)
head-some (g ∷ gs) zero h some at = let P : Begun → Type 0 = λ h. h.items ≢ [] in subst P (some-same g h at) some.0
head-some (g ∷ gs) (suc k) h some at = head-some gs k h some.1 at

-- two lists with a common initial part and their items
front-same : (xs ys more rest : List ℕ) → xs ≢ [] → ys ≢ [] → xs ++ more ≡ ys ++ rest → (x : ℕ) × (1 ≤ times x xs) × (1 ≤ times x ys)
front-same [] ys more rest a b e = absurd (a refl)
front-same (x ∷ xs) [] more rest a b e = absurd (b refl)
front-same (x ∷ xs) (y ∷ ys) more rest a b e =
    let same : x ≡ y = ap (first_or x) e in
    let here : (x == x) ≡ true = grind (arith, nat_tests) in
    let there : (x == y) ≡ true = grind (arith, nat_tests) in
    (x, rw here (omega arith), rw there (omega arith))

below-item : (n i : ℕ) (xs : List ℕ) → AllBelow n xs → 1 ≤ times i xs → i < n
below-item n i [] below some = absurd (omega arith)
below-item n i (x ∷ xs) below some =
    elim (i == x) as (λ b. (i == x) ≡ b → 1 ≤ cond b 1 0 + times i xs → i < n) [
      | true ↦ λ is h. let same : i ≡ x = grind (arith, nat_tests) in let there = below.0 in omega (arith, same, there)
      | false ↦ λ is h. below-item n i xs below.1 (omega (arith, h))
    ] refl some

rises-tail : (front more : List ℕ) → Rises (front ++ more) → Rises more
rises-tail [] more up = up
rises-tail (x ∷ []) [] up = tt
rises-tail (x ∷ []) (y ∷ ys) up = up.1
rises-tail (x ∷ y ∷ rest) more up = rises-tail (y ∷ rest) more up.1

not-end : (hs : List Begun) (k : ℕ) → length hs ≤ k → slice_get hs k ≡ None
not-end [] k h = refl
not-end (g ∷ gs) zero h = absurd (omega arith)
not-end (g ∷ gs) (suc k) h = not-end gs k (omega arith)

first-past : (heads : List Begun) (x : ℕ) (xs : List ℕ) → none_below (length heads) (x ∷ xs) ≡ true →
    (length heads ≤ x) × (none_below (length heads) xs ≡ true)
first-past heads x xs e =
    elim (nat_le (length heads) x) as (λ b. nat_le (length heads) x ≡ b → (b && none_below (length heads) xs) ≡ true →
    (length heads ≤ x) × (none_below (length heads) xs ≡ true)) [
      | true ↦ λ is e. (grind (arith, nat_tests), e)
      | false ↦ λ is e. absurd (cc)
    ] refl e

free-keeps : (heads : List Begun) (bs : List (List ℕ)) (may : ℕ → List ℕ → Bool) (class : ℕ) (list : List ℕ) → list ≢ [] →
    none_below (length heads) list ≡ true →
    may class (written bs list) ≡ true → keeps_heads heads bs may class list ≡ true
free-keeps heads bs may class [] some past goes = absurd (some refl)
free-keeps heads bs may class (x ∷ xs) some past goes =
    let (at, rest) = first-past heads x xs past in
    let none = not-end heads x at in
    let P : Option Begun → Type 0 = λ o. may_go_on may class o xs (written bs (x ∷ xs)) ≡ true in
    true-both (none_below (length heads) xs) (may_go_on may class (slice_get heads x) xs (written bs (x ∷ xs)))
    rest (subst P (sym none) goes)

ends-or : (f : Bool) (xs : List ℕ) → (f ≡ true → xs ≡ []) → (not f || is_empty xs) ≡ true
ends-or true xs e = ap is_empty (e refl)
ends-or false xs e = refl

head-keeps : (heads : List Begun) (bs : List (List ℕ)) (may : ℕ → List ℕ → Bool) (class k : ℕ) (h : Begun) (xs : List ℕ) →
    slice_get heads k ≡ Some h →
    none_below (length heads) xs ≡ true → class ≡ h.class → (h.finished ≡ true → xs ≡ []) → keeps_heads heads bs may class (k ∷ xs) ≡ true
head-keeps heads bs may class k h xs at past same ends =
    let test : nat_eq h.class class ≡ true = grind (arith, nat_tests) in
    let P : Option Begun → Type 0 = λ o. may_go_on may class o xs (written bs (k ∷ xs)) ≡ true in
    true-both (none_below (length heads) xs) (may_go_on may class (slice_get heads k) xs (written bs (k ∷ xs))) past
    (subst P (sym at) (true-both (nat_eq h.class class) (not h.finished || is_empty xs) test (ends-or h.finished xs ends)))

places-some : (heads : List Begun) (xs : List ℕ) → xs ≢ [] → places heads xs ≢ []
places-some heads [] some = absurd (some refl)
places-some heads (x ∷ xs) some = λ e. let full : List ℕ → Bool = λ l. is_empty l in let bad : false ≡ true = ap full e in cc

module _ (p : Problem) (listed : HasListedColumns p) (heads : List Begun) (may : ℕ → List ℕ → Bool)
    (are : AreHeads p heads) (columns : List Column)
    (plan : IsPlan p columns) (keeps : KeepsBegun heads may columns) where
  abbrev bs : List (List ℕ)
  bs = bodies heads p.items

  -- an item stands in one column alone
  same-column : (i j k : ℕ) (c d : Column) → i < p.items → slice_get columns j ≡ Some c → slice_get columns k ≡ Some d →
      1 ≤ times i c.items → 1 ≤ times i d.items → j ≡ k
  same-column i j k c d there at behind h g =
      let once = plan.once i there in
      elim (cases_lt j k) [
        | inl less ↦ let two = two-columns i columns j k c d at behind less h g in absurd (omega (arith, once, two))
        | inr past ↦ elim (cases_lt k j) [
          | inl more ↦ let two = two-columns i columns k j d c behind at more g h in absurd (omega (arith, once, two))
          | inr same ↦ omega (arith, past, same)
        ]
      ]

  same-head : (i j k : ℕ) (g h : Begun) → slice_get heads j ≡ Some g → slice_get heads k ≡ Some h → 1 ≤ times i g.items →
      1 ≤ times i h.items → j ≡ k
  same-head i j k g h at behind a b =
      let once = are.once i in
      elim (cases_lt j k) [
        | inl less ↦ let two = two-heads i heads j k g h at behind less a b in absurd (omega (arith, once, two))
        | inr past ↦ elim (cases_lt k j) [
          | inl more ↦ let two = two-heads i heads k j h g behind at more b a in absurd (omega (arith, once, two))
          | inr same ↦ omega (arith, past, same)
        ]
      ]

  there-items : (j : ℕ) (c : Column) → slice_get columns j ≡ Some c → AllBelow p.items c.items
  there-items j c at = let is = column-there p columns j c plan.worths at in (listed c.class c.items c.worth is.1).2

  -- An item of a head in a column: the head is what the column begins with. The head is kept by some column, which has all its
  -- items; and an item stands in one column alone, so it is this one.
  begins-here : (i k j : ℕ) (h : Begun) (c : Column) → slice_get heads k ≡ Some h → slice_get columns j ≡ Some c → 1 ≤ times i h.items →
      1 ≤ times i c.items → BeginsWith h c
  begins-here i k j h c at there a b =
      let (l, d, behind, begins) = keeps.kept k h at in
      let both = times-append i h.items begins.more in
      let same : times i d.items ≡ times i (h.items ++ begins.more) = ap (times i) begins.items in
      let one = same-column i j l c d (below-item p.items i c.items (there-items j c there) b) there behind b
      (omega (arith, both, same, a)) in
      let P : ℕ → Type 0 = λ j. slice_get columns j ≡ Some c in
      let is : c ≡ d = some-same c d (sym (subst P one there) ∙ behind) in
      let Q : Column → Type 0 = λ c. BeginsWith h c in
      subst Q (sym is) begins

  -- What follows a head is in no head. Otherwise the column would begin with that head too; of two heads with which one list begins
  -- the first item is the same, so they are one head, and the item would stand in the column twice.
  follows-free : (k j : ℕ) (h : Begun) (c : Column) → slice_get heads k ≡ Some h → slice_get columns j ≡ Some c →
      (begins : BeginsWith h c) → AllFree heads p.items begins.more
  follows-free k j h c at there begins = λ i some.
      let both = times-append i h.items begins.more in
      let same : times i c.items ≡ times i (h.items ++ begins.more) = ap (times i) begins.items in
      let in_column : 1 ≤ times i c.items = omega (arith, both, same, some) in
      let below = below-item p.items i c.items (there-items j c there) in_column in (
        begun-none heads i (λ found.
            let (l, g, behind, stands) = find-head i heads found in
            let other = begins-here i l j g c behind there stands in_column in
            let (x, a, b) = front-same g.items h.items other.more begins.more (head-some heads l g are.some behind)
            (head-some heads k h are.some at) (sym other.items ∙ begins.items) in
            let one = same-head x l k g h behind at a b in
            let P : ℕ → Type 0 = λ l. slice_get heads l ≡ Some g in
            let is : g ≡ h = some-same g h (sym (subst P one behind) ∙ at) in
            let alike : times i g.items ≡ times i h.items = ap (λ (h : Begun). times i h.items) is in
            let once = plan.once i below in
            let few = one-column i columns j c there in
            absurd (omega (arith, both, same, some, alike, stands, once, few))),
        below,
      )

  with-head : (k j : ℕ) (h : Begun) (c : Column) → slice_get heads k ≡ Some h → slice_get columns j ≡ Some c →
      BeginsWith h c → IsWriting p heads may c
  with-head k j h c at there begins =
      let free = follows-free k j h c at there begins in
      let within = slice_get_within heads k h at in
      let many = many-bodies heads (free_lists heads p.items 0) in
      let is = column-there p columns j c plan.worths there in
      let P : List ℕ → Type 0 = λ l. Rises l in
      let up : Rises begins.more = rises-tail h.items begins.more (subst P begins.items (listed c.class c.items c.worth is.1).1) in
      let list : List ℕ = k ∷ places heads begins.more in
      let shown : written bs list ≡ c.items =
      ap (λ b. b ++ written bs (places heads begins.more)) (head-body heads (free_lists heads p.items 0) k h at)
      ∙ ap (λ l. h.items ++ l) (places-written heads p.items begins.more free) ∙ sym begins.items in
      record {
        list = list;
        is = shown;
        listed = parts-rest p heads bs may c.class list c.worth (record {
          rises = head-rises heads p.items k begins.more within free up;
          below = head-below heads p.items k begins.more (omega (arith, within, many)) free;
          keeps = head-keeps heads bs may c.class k h (places heads begins.more) at (places-past heads p.items begins.more) begins.class
              (λ f. ap (places heads) (begins.finished f));
          same = ap (p.worth c.class) shown ∙ is.1;
        });
      }

  without-head : (j : ℕ) (c : Column) → slice_get columns j ≡ Some c →
      ((k : ℕ) (h : Begun) → slice_get heads k ≡ Some h → BeginsWith h c → ⊥) → IsWriting p heads may c
  without-head j c there none =
      let is = column-there p columns j c plan.worths there in
      let fits = listed c.class c.items c.worth is.1 in
      let free : AllFree heads p.items c.items =
      λ i some. (
        begun-none heads i (λ found. let (l, g, behind, stands) = find-head i heads found in
            none l g behind (begins-here i l j g c behind there stands some)),
        below-item p.items i c.items (there-items j c there) some,
      ) in
      let shown = places-written heads p.items c.items free in
      let P : List ℕ → Type 0 = λ l. may c.class l ≡ true in
      record {
        list = places heads c.items;
        is = shown;
        listed = parts-rest p heads bs may c.class (places heads c.items) c.worth (record {
          rises = places-rise heads p.items c.items free fits.1;
          below = places-below heads p.items c.items free;
          keeps = free-keeps heads bs may c.class (places heads c.items) (places-some heads c.items fits.0)
              (places-past heads p.items c.items) (subst P (sym shown) (keeps.others j c there none));
          same = ap (p.worth c.class) shown ∙ is.1;
        });
      }

  -- Each column of a plan that keeps the heads is a list of the rest, written out. Whether its first item is in a head decides:
  -- then it begins with that head, and the list is the head's number followed by the places of the free items; or it begins with
  -- none, and all its items are free. In both cases the list rises, as places of free items come in the order of the items, behind
  -- all heads.
  pub writing : (j : ℕ) (c : Column) → slice_get columns j ≡ Some c → IsWriting p heads may c
  writing j c there = by c.items refl
    where
      fits : (c.items ≢ []) × Rises c.items × AllBelow p.items c.items
      fits = let is = column-there p columns j c plan.worths there in listed c.class c.items c.worth is.1

      by : (list : List ℕ) → c.items ≡ list → IsWriting p heads may c
      by [] e = absurd (fits.0 e)
      by (x ∷ xs) e =
          let same : (x == x) ≡ true = grind (arith, nat_tests) in
          let full : 1 ≤ times x (x ∷ xs) = rw same (omega arith) in
          let P : List ℕ → Type 0 = λ l. 1 ≤ times x l in
          let some : 1 ≤ times x c.items = subst P (sym e) full in
          elim (has_begun heads x) as (λ b. has_begun heads x ≡ b → IsWriting p heads may c) [
            | true ↦ λ found.
                let (k, h, at, stands) = find-head x heads (begun-some heads x found) in
                with-head k j h c at there (begins-here x k j h c at there stands some)
            | false ↦ λ free. without-head j c there (λ k h at begins.
                let stands = front-first h.items begins.more xs x (head-some heads k h are.some at) (sym e ∙ begins.items) in
                let in_head = one-head x heads k h at in
                let is = begun-true heads x (omega (arith, stands, in_head)) in
                let bad : false ≡ true = sym free ∙ is in
                cc)
          ] refl

-- columns of the rest that columns are the writings of
record IsPlanWriting (p : Problem) (heads : List Begun) (may : ℕ → List ℕ → Bool) (columns : List Column) : Type 0 where
  pub rest : List Column
  pub are : AreColumns (rest_of p heads may) rest
  pub is : written_plan (bodies heads p.items) rest ≡ columns

all-writings : (p : Problem) (heads : List Begun) (may : ℕ → List ℕ → Bool) (columns : List Column) → AreColumns p columns →
    ((j : ℕ) (c : Column) → slice_get columns j ≡ Some c → IsWriting p heads may c) → IsPlanWriting p heads may columns
all-writings p heads may [] are each = record { rest = []; are = tt; is = refl }
all-writings p heads may (c ∷ cs) are each =
    let first = each 0 c refl in
    let others = all-writings p heads may cs are.1 (λ j d at. each (suc j) d at) in
    let one : Column = record { class = c.class; worth = c.worth; items = first.list } in
    let shown : written_column (bodies heads p.items) one ≡ c =
    ap (λ (l : List ℕ). record { class = c.class; worth = c.worth; items = l }) first.is in
    record {
      rest = one ∷ others.rest;
      are = ((are.0.0, first.listed), others.are);
      is = ap (λ d. d ∷ written_plan (bodies heads p.items) others.rest) shown ∙ ap (λ ds. c ∷ ds) others.is;
    }

-- each item of the rest stands for some item
record StandsFor (bs : List (List ℕ)) (n x : ℕ) : Type 0 where
  pub item : ℕ
  pub there : item < n
  pub stands : 1 ≤ times item (body_at bs x)

free-stands : (heads : List Begun) (n k x : ℕ) → x < length (free_lists heads n k) → StandsFor (free_lists heads n k) (k + n) x
free-stands heads zero k x within = absurd (omega arith)
free-stands heads (suc n) k x within =
    let same : suc k + n ≡ k + suc n = omega arith in
    let moved : (y : ℕ) → y < length (free_lists heads n (suc k)) → StandsFor (free_lists heads n (suc k)) (k + suc n) y =
    λ y h. let P : ℕ → Type 0 = λ m. StandsFor (free_lists heads n (suc k)) m y in subst P same (free-stands heads n (suc k) y h) in
    elim (has_begun heads k) as (λ b. x < length (cond b (free_lists heads n (suc k)) ((k ∷ []) ∷ free_lists heads n (suc k))) →
    StandsFor (cond b (free_lists heads n (suc k)) ((k ∷ []) ∷ free_lists heads n (suc k))) (k + suc n) x) [
      | true ↦ λ within. moved x within
      | false ↦ λ within. at x moved within
    ] within
  where
    at : (x : ℕ) → ((y : ℕ) → y < length (free_lists heads n (suc k)) → StandsFor (free_lists heads n (suc k)) (k + suc n) y) →
        x < length ((k ∷ []) ∷ free_lists heads n (suc k)) → StandsFor ((k ∷ []) ∷ free_lists heads n (suc k)) (k + suc n) x
    at zero moved within = let same : (k == k) ≡ true = grind (arith, nat_tests) in
        record { item = k; there = omega arith; stands = rw same (omega arith) }
    at (suc x) moved within =
        let rest = moved x (omega (arith, within)) in record { item = rest.item; there = rest.there; stands = rest.stands }

-- Each item of the rest stands for some item of the problem, as no head is empty. It is what lets a count of the problem's items
-- say something of every item of the rest.
body-stands : (heads : List Begun) (more : List (List ℕ)) (n x : ℕ) → NoneEmpty heads → AllBelow n (joined (begun_lists heads)) →
    x < length (begun_lists heads ++ more) →
    ((y : ℕ) → y < length more → StandsFor more n y) → StandsFor (begun_lists heads ++ more) n x
body-stands [] more n x some below within free = free x within
body-stands (h ∷ hs) more n zero some below within free =
    let (i, stands) = one h.items some.0 in
    let both = times-append i h.items (joined (begun_lists hs)) in
    record { item = i; there = below-item n i (h.items ++ joined (begun_lists hs)) below (omega (arith, both, stands)); stands = stands }
  where
    one : (xs : List ℕ) → xs ≢ [] → (i : ℕ) × (1 ≤ times i xs)
    one [] full = absurd (full refl)
    one (x ∷ xs) full = let same : (x == x) ≡ true = grind (arith, nat_tests) in (x, rw same (omega arith))
body-stands (h ∷ hs) more n (suc x) some below within free =
    let rest = body-stands hs more n x some.1 (below-rest h.items (joined (begun_lists hs)) below) (omega (arith, within)) free in
    record { item = rest.item; there = rest.there; stands = rest.stands }
  where
    below-rest : (xs ys : List ℕ) → AllBelow n (xs ++ ys) → AllBelow n ys
    below-rest [] ys below = below
    below-rest (x ∷ xs) ys below = below-rest xs ys below.1

-- The main theorem of this file, and the other half of the bijection: each plan that keeps the heads is a plan of the rest, written
-- out. Every column is a writing; and each item of the rest stands once in them, since an item that it stands for does. So the rest
-- leaves out no plan: the least cost and the bounds of the rest are those of all plans that keep what has begun.
pub kept-is-rest : (p : Problem) → HasListedColumns p → IsKeptRest p
kept-is-rest p listed heads may are columns plan keeps =
    let bs : List (List ℕ) = bodies heads p.items in
    let all = all-writings p heads may columns plan.worths (writing p listed heads may are columns plan keeps) in
    let below : AllBelow (length bs) (all_items all.rest) =
    all_items-below (rest_of p heads may) all.rest (rest-listed p heads may) all.are in
    let classes : all_classes columns ≡ all_classes all.rest = ap all_classes (sym all.is) ∙ written-classes bs all.rest in (
      all.rest,
      record {
        worths = all.are;
        once = λ x within.
            let same : 0 + p.items ≡ p.items = omega arith in
            let free : (y : ℕ) → y < length (free_lists heads p.items 0) → StandsFor (free_lists heads p.items 0) p.items y =
            λ y h. let P : ℕ → Type 0 = λ m. StandsFor (free_lists heads p.items 0) m y in subst P same (free-stands heads p.items 0 y h) in
            let some = body-stands heads (free_lists heads p.items 0) p.items x are.some are.below within free in
            once-rest bs all.rest x some.item below within some.stands (bodies-once heads p.items some.item some.there (are.once some.item))
            (ap (λ cs. times some.item (all_items cs)) all.is ∙ plan.once some.item some.there);
        caps = λ class there. let P : List ℕ → Type 0 = λ l. times class l ≤ slice_index p.caps class in
            subst P classes (plan.caps class there);
      },
      all.is,
    )
