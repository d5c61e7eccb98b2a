-- Rounding gives a plan, or an item that has no place.
use Rattle.std.proofs.Common.{◌≡◌, ◌≢◌, ◌==◌, ℕ, ◌<◌, ◌≤◌, true, false, cond, ◌&&◌, zero, suc, List, [], ◌∷◌, ◌++◌, length, get_or, Option, Some, None, refl, sym, ap, ◌∙◌, inl, inr, arith}
use Rattle.std.specs.Prelude.{nat_lt, slice_index}
use Rattle.std.proofs.lemmas.Bool.{cases_eq, cases_lt, and_parts}
use Rattle.std.proofs.lemmas.Bool.Decides.{nat_tests}
use Rattle.cover_core.specs.declared.Column.{Column}
use Rattle.cover_core.specs.Cover.{Problem, Rises}
use Rattle.cover_core.specs.Plans.{HasListedColumns, IsColumn, AreColumns, times, all_items, all_classes}
use Rattle.cover_core.specs.Parts.{IsPart, has_place, is_free, no_column}
use Rattle.cover_core.proofs.Parts.{held-push, placed-push, AreColumns-push, whole_part, Rises-once}
use Rattle.plan_round.specs.declared.choice.Choice.{Choice}
use Rattle.plan_round.specs.declared.choice.Spot.{Spot}
use Rattle.plan_round.specs.declared.choice.Spot.TheVariants.{Into, New}
use Rattle.plan_round.specs.Rounding.{all_free, taken, put_in, choice_for, into_columns, into_classes, first_cheapest, choices, Rounded, whole, left, with_choice, round_item, round_items}
use Rattle.plan_round.specs.Laws.{IsStuck, IsRounding, RoundsToPlan}
use Rattle.plan_round.proofs.Puts.{IsAllowed, IfChosen, choices-allowed, first_cheapest-each, first_cheapest-none, put_at-puts, put_at-part}

-- an item of a list of free items is free
pub all_free-at : (columns : List Column) (xs : List ℕ) (j : ℕ) → all_free columns xs ≡ true → 0 < times j xs →
    times j (all_items columns) ≡ 0
all_free-at columns [] j e h = absurd (omega arith)
all_free-at columns (x ∷ xs) j e h =
    let both = and_parts (is_free columns x) (all_free columns xs) e in
    elim (cases_eq j x) [
      | inl same ↦
          let free : (times x (all_items columns) == 0) ≡ true = both.0 in
          let none : times x (all_items columns) ≡ 0 = grind (arith, nat_tests) in
          ap (λ n. times n (all_items columns)) same ∙ none
      | inr apart ↦
          let test : (j == x) ≡ false = grind (arith, nat_tests) in
          let some = rw test at h in
          all_free-at columns xs j both.1 (omega arith)
    ]

-- A column whose items are free and whose class has a place goes on with a part. So rounding may take columns from the pool in any
-- order: what it has is a part of a plan, and stays one as long as it takes only what fits. No item stands twice, as a column's own
-- list rises.
pub part-push : (p : Problem) (columns : List Column) (c : Column) → HasListedColumns p → IsColumn p c →
    (all_free columns c.items && has_place p columns c.class) ≡ true → IsPart p columns → IsPart p (columns ++ c ∷ [])
part-push p columns c listed is test part =
    let both = and_parts (all_free columns c.items) (has_place p columns c.class) test in
    let rises : Rises c.items = (listed c.class c.items c.worth is.1).1 in
    record {
      worths = AreColumns-push p columns c part.worths is;
      once = λ j.
          let sum = held-push j columns c in
          let own : times j c.items ≤ 1 = Rises-once j c.items rises in
          let before : times j (all_items columns) ≤ 1 = part.once j in
          elim (cases_lt 0 (times j c.items)) [
            | inl some ↦ let free : times j (all_items columns) ≡ 0 = all_free-at columns c.items j both.0 some in omega arith
            | inr none ↦ omega arith
          ];
      caps = λ other below.
          let at_most : times other (all_classes columns) ≤ slice_index p.caps other = part.caps other below in
          let more = placed-push other columns c in
          elim (cases_eq other c.class) [
            | inl same ↦
                let room : times other (all_classes columns) < slice_index p.caps other =
                (let has : nat_lt (times other (all_classes columns)) (slice_index p.caps other) ≡ true =
                ap (λ n. has_place p columns n) same ∙ both.1 in grind (arith, nat_tests)) in
                let same_test : (other == c.class) ≡ true = grind (arith, nat_tests) in
                let sum = rw same_test at more in
                omega arith
            | inr apart ↦
                let same_test : (other == c.class) ≡ false = grind (arith, nat_tests) in
                let sum = rw same_test at more in
                omega arith
          ];
    }

pub taken-part : (p : Problem) (columns pool : List Column) → HasListedColumns p → AreColumns p pool → IsPart p columns →
    IsPart p (taken p columns pool)
taken-part p columns [] listed are part = part
taken-part p columns (c ∷ cs) listed are part =
    taken-part p (cond (all_free columns c.items && has_place p columns c.class) (columns ++ c ∷ []) columns) cs listed are.1
    (elim (all_free columns c.items && has_place p columns c.class) as (λ b. (all_free columns c.items && has_place p columns c.class) ≡ b →
    IsPart p (cond b (columns ++ c ∷ []) columns)) [
      | true ↦ λ test. part-push p columns c listed are.0 test part
      | false ↦ λ test. part
    ] refl)

pub no_columns : (p : Problem) → IsPart p []
no_columns p = record { worths = tt; once = λ j. omega arith; caps = λ class below. omega arith }

-- the items below n stand once, and the others as often as at the start
pub record IsFilled (p : Problem) (start : List Column) (n : ℕ) (columns : List Column) : Type 0 where
  pub part : IsPart p columns
  pub below : (j : ℕ) → j < n → times j (all_items columns) ≡ 1
  pub above : (j : ℕ) → n ≤ j → times j (all_items columns) ≡ times j (all_items start)

abbrev pub IsFilledOr : (p : Problem) → List Column → ℕ → Rounded → Type 0
IsFilledOr p start n (whole columns) = IsFilled p start n columns
IsFilledOr p start n (left item columns) = IsStuck p item columns

-- no choice is left for an item
choice_for-none : (before : ℕ) (spot : Spot) (o : Option ℕ) → choice_for before spot o ≡ [] → o ≡ None
choice_for-none before spot None e = refl
choice_for-none before spot (Some w) e = cc

append-left : (xs ys : List Choice) → xs ++ ys ≡ [] → xs ≡ []
append-left [] ys e = refl
append-left (x ∷ xs) ys e = cc

append-right : (xs ys : List Choice) → xs ++ ys ≡ [] → ys ≡ []
append-right [] ys e = e
append-right (x ∷ xs) ys e = cc

no-column : (p : Problem) (item place : ℕ) (cs : List Column) → into_columns p item place cs ≡ [] → (k : ℕ) → k < length cs →
    p.worth (get_or cs k no_column).class (put_in item (get_or cs k no_column).items) ≡ None
no-column p item place [] e k h = absurd (omega arith)
no-column p item place (c ∷ cs) e zero h =
    choice_for-none c.worth (Into place) (p.worth c.class (put_in item c.items)) (append-left _ (into_columns p item (suc place) cs) e)
no-column p item place (c ∷ cs) e (suc k) h =
    no-column p item (suc place) cs (append-right (choice_for c.worth (Into place) (p.worth c.class (put_in item c.items))) _ e)
    k (omega arith)

no-class-here : (p : Problem) (item : ℕ) (columns : List Column) (class worth : ℕ) → p.worth class (item ∷ []) ≡ Some worth →
    cond (has_place p columns class) (choice_for 0 (New class) (p.worth class (item ∷ []))) [] ≡ [] → has_place p columns class ≡ false
no-class-here p item columns class worth has e =
    elim (has_place p columns class) as (λ b. cond b (choice_for 0 (New class) (p.worth class (item ∷ []))) [] ≡ [] → b ≡ false) [
      | true ↦ λ none. absurd (let gone : p.worth class (item ∷ []) ≡ None =
          choice_for-none 0 (New class) (p.worth class (item ∷ [])) none in cc)
      | false ↦ λ none. refl
    ] e

no-class : (p : Problem) (item : ℕ) (columns : List Column) (n : ℕ) → into_classes p item columns n ≡ [] → (class worth : ℕ) → class < n →
    p.worth class (item ∷ []) ≡ Some worth → has_place p columns class ≡ false
no-class p item columns zero e class worth h has = absurd (omega arith)
no-class p item columns (suc n) e class worth h has =
    elim (cases_eq class n) [
      | inl same ↦
          let there : p.worth n (item ∷ []) ≡ Some worth = ap (λ k. p.worth k (item ∷ [])) (sym same) ∙ has in
          ap (λ k. has_place p columns k) same
          ∙ no-class-here p item columns n worth there (append-right (into_classes p item columns n) _ e)
      | inr apart ↦ no-class p item columns n (append-left (into_classes p item columns n) _ e) class worth (omega arith) has
    ]

module _ (p : Problem) (start : List Column) where
  -- The item with the choice that was found. If there is no choice, the item is stuck, for the choices are all there are: each
  -- column it could go into and each class with a place. If there is one, the item stands once from then on, the smaller ones still
  -- do, and the greater ones are as they were at the start.
  with_choice-filled : (item : ℕ) (columns : List Column) (o : Option Choice) → item < p.items → IfChosen (IsAllowed p item columns) o →
      (o ≡ None → choices p item columns ≡ []) → IsFilled p start item columns → times item (all_items columns) ≡ 0 →
      IsFilledOr p start (suc item) (with_choice item columns o)
  with_choice-filled item columns None there allowed none filled free =
      let nothing = none refl in
      record {
        there = there;
        part = filled.part;
        lacks = free;
        full = λ class worth below has. no-class p item columns (length p.caps)
            (append-right (into_columns p item 0 columns) (into_classes p item columns (length p.caps)) nothing) class worth below has;
        none_takes = λ place below. no-column p item 0 columns
            (append-left (into_columns p item 0 columns) (into_classes p item columns (length p.caps)) nothing) place below;
      }
  with_choice-filled item columns (Some c) there allowed none filled free =
      let puts = put_at-puts p item columns c.rise c.worth c.spot allowed in
      record {
        part = put_at-part p item columns c.rise c.worth c.spot allowed filled.part free;
        below = λ j h.
            elim (cases_eq j item) [
              | inl same ↦
                  let test : (j == item) ≡ true = grind (arith, nat_tests) in
                  let none_yet : times j (all_items columns) ≡ 0 = ap (λ n. times n (all_items columns)) same ∙ free in
                  let sum = rw test at (puts.holds j) in
                  omega arith
              | inr apart ↦
                  let test : (j == item) ≡ false = grind (arith, nat_tests) in
                  let one : times j (all_items columns) ≡ 1 = filled.below j (omega arith) in
                  let sum = rw test at (puts.holds j) in
                  omega arith
            ];
        above = λ j h.
            let test : (j == item) ≡ false = grind (arith, nat_tests) in
            let kept : times j (all_items columns) ≡ times j (all_items start) = filled.above j (omega arith) in
            let sum = rw test at (puts.holds j) in
            omega arith;
      }

  round_item-filled : (item : ℕ) (r : Rounded) → item < p.items → IsFilledOr p start item r →
      IsFilledOr p start (suc item) (round_item p item r)
  round_item-filled item (left other columns) there h = h
  round_item-filled item (whole columns) there h =
      elim (is_free columns item) as (λ b. is_free columns item ≡ b →
      IsFilledOr p start (suc item) (cond b (with_choice item columns (first_cheapest None (choices p item columns))) (whole columns))) [
        | true ↦ λ test.
            let free : times item (all_items columns) ≡ 0 =
            (let t : (times item (all_items columns) == 0) ≡ true = test in grind (arith, nat_tests)) in
            with_choice-filled item columns (first_cheapest None (choices p item columns)) there
            (first_cheapest-each (IsAllowed p item columns) None (choices p item columns) tt (choices-allowed p item columns))
            (first_cheapest-none (choices p item columns)) h free
        | false ↦ λ test. record {
          part = h.part;
          below = λ j lt.
              elim (cases_eq j item) [
                | inl same ↦
                    let t : (times item (all_items columns) == 0) ≡ false = test in
                    let some : times item (all_items columns) ≢ 0 = grind (arith, nat_tests) in
                    let most : times item (all_items columns) ≤ 1 = h.part.once item in
                    let one : times item (all_items columns) ≡ 1 = omega arith in
                    ap (λ n. times n (all_items columns)) same ∙ one
                | inr apart ↦ h.below j (omega arith)
              ];
          above = λ j le. h.above j (omega arith);
        }
      ] refl

  -- The invariant of the second half of rounding, by induction over the items: those below n stand once, and those from n on as
  -- often as when it began; or some item is stuck, and stays so. The second part is what lets the code mark free items once, before
  -- it fills them in.
  pub round_items-filled : (n : ℕ) → n ≤ p.items → IsPart p start → IsFilledOr p start n (round_items p n start)
  round_items-filled zero h part = record { part = part; below = λ j lt. absurd (omega arith); above = λ j le. refl }
  round_items-filled (suc n) h part = round_item-filled n (round_items p n start) (omega arith) (round_items-filled n (omega arith) part)

  filled-rounding : (r : Rounded) → IsFilledOr p start p.items r → IsRounding p r
  filled-rounding (whole columns) h = whole_part p columns h.part h.below
  filled-rounding (left item columns) h = h

  pub items-rounding : IsPart p start → IsRounding p (round_items p p.items start)
  items-rounding part = filled-rounding (round_items p p.items start) (round_items-filled p.items (omega arith) part)

-- The main theorem of this file: rounding columns in any order gives a plan, or an item that no column takes and no class has a
-- place for, beside a part of a plan. The columns taken are a part; filling in makes every item stand once; and a part in which
-- each item stands is a plan.
pub rounds_to_plan : (p : Problem) → HasListedColumns p → RoundsToPlan p
rounds_to_plan p listed ordered are = items-rounding p (taken p [] ordered) (taken-part p [] ordered listed are (no_columns p))
