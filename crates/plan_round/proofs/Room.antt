-- Where each item has room of its own none is left.
use Rattle.std.proofs.Common.{◌≡◌, ◌==◌, ℕ, ℤ, pos, ◌*ℤ◌, ◌+ℤ◌, ◌≤ℤ◌, ◌+◌, ◌<◌, ◌≤◌, true, false, cond, zero, suc, List, [], ◌∷◌, ◌++◌, length, refl, ap, ◌∙◌, subst, inl, inr, arith, length-append}
use Rattle.std.specs.Prelude.{nat_lt, slice_index}
use Rattle.std.proofs.lemmas.Int.{ints}
use Rattle.std.proofs.lemmas.Bool.{cases_eq, cases_lt}
use Rattle.std.proofs.lemmas.Bool.Decides.{nat_tests}
use Rattle.cover_core.specs.declared.Column.{Column}
use Rattle.cover_core.specs.Cover.{Problem, AllBelow}
use Rattle.cover_core.specs.Plans.{HasListedColumns, AreColumns, times, all_items, all_classes}
use Rattle.cover_core.proofs.Sums.{sum_first, sum_each, sum_first-mono, sum_each-times}
use Rattle.cover_core.proofs.Duality.{all_items-below}
use Rattle.plan_round.specs.Laws.{IsStuck, IsRounding, HasOwnRoom, HasRoomForEach, LeavesNone}
use Rattle.plan_round.proofs.Rounds.{rounds_to_plan}

-- one for each
abbrev one_each : ℕ → ℤ
one_each i = pos 1

one_each-length : (xs : List ℕ) → sum_each one_each xs ≡ pos (length xs)
one_each-length [] = refl
one_each-length (x ∷ xs) = omega (arith, ints, one_each-length xs)

-- one for each but this one
abbrev one_but : ℕ → ℕ → ℤ
one_but item i = pos (cond (i == item) 0 1)

one_but-at_most : (item n : ℕ) → sum_first (one_but item) n ≤ℤ pos n
one_but-at_most item zero = omega (arith, ints)
one_but-at_most item (suc n) =
    let rest : sum_first (one_but item) n ≤ℤ pos n = one_but-at_most item n in
    elim (cases_eq n item) [
      | inl same ↦ let test : (n == item) ≡ true = grind (arith, nat_tests) in rw test (omega (arith, ints))
      | inr apart ↦ let test : (n == item) ≡ false = grind (arith, nat_tests) in rw test (omega (arith, ints))
    ]

one_but-less : (item n : ℕ) → item < n → (sum_first (one_but item) n +ℤ pos 1) ≤ℤ pos n
one_but-less item zero h = absurd (omega arith)
one_but-less item (suc n) h =
    elim (cases_lt item n) [
      | inl below ↦
          let rest : (sum_first (one_but item) n +ℤ pos 1) ≤ℤ pos n = one_but-less item n below in
          let test : (n == item) ≡ false = grind (arith, nat_tests) in
          rw test (omega (arith, ints))
      | inr last ↦
          let rest : sum_first (one_but item) n ≤ℤ pos n = one_but-at_most item n in
          let test : (n == item) ≡ true = grind (arith, nat_tests) in
          rw test (omega (arith, ints))
    ]

-- A counting lemma: a list of items below n, none twice and one of them not at all, is shorter than n. Each item is counted by how
-- often it stands there, at most once, and one of the n items adds nothing.
shorter : (item n : ℕ) (xs : List ℕ) → item < n → AllBelow n xs → ((j : ℕ) → times j xs ≤ 1) → times item xs ≡ 0 → length xs < n
shorter item n xs there below once lacks =
    let spread : sum_each one_each xs ≡ sum_first (λ i. pos (times i xs) *ℤ one_each i) n = sum_each-times one_each n xs below in
    let most : sum_first (λ i. pos (times i xs) *ℤ one_each i) n ≤ℤ sum_first (one_but item) n =
    sum_first-mono _ _ n (λ j h.
    elim (cases_eq j item) [
      | inl same ↦
          let test : (j == item) ≡ true = grind (arith, nat_tests) in
          let none : times j xs ≡ 0 = ap (λ k. times k xs) same ∙ lacks in
          rw (test, none) (omega (arith, ints))
      | inr apart ↦
          let test : (j == item) ≡ false = grind (arith, nat_tests) in
          let one : times j xs ≤ 1 = once j in
          rw test (omega (arith, ints))
    ]) in
    omega (arith, ints, one_each-length xs, one_but-less item n there)

not_empty : (xs : List ℕ) → (xs ≡ [] → ⊥) → 1 ≤ length xs
not_empty [] h = absurd (h refl)
not_empty (x ∷ xs) h = omega arith

fewer_columns : (p : Problem) (columns : List Column) → HasListedColumns p → AreColumns p columns →
    length columns ≤ length (all_items columns)
fewer_columns p [] listed h = omega arith
fewer_columns p (c ∷ cs) listed h =
    let some = not_empty c.items (listed c.class c.items c.worth h.0.1).0 in
    let rest = fewer_columns p cs listed h.1 in
    let both : length (c.items ++ all_items cs) ≡ length c.items + length (all_items cs) = length-append c.items (all_items cs) in
    omega arith

times-length : (class : ℕ) (columns : List Column) → times class (all_classes columns) ≤ length columns
times-length class [] = omega arith
times-length class (c ∷ cs) =
    let rest : times class (all_classes cs) ≤ length cs = times-length class cs in
    elim (class == c.class) as (λ b. cond b 1 0 + times class (all_classes cs) ≤ suc (length cs)) [
      | true ↦
          omega arith
      | false ↦ omega arith
    ]

-- A part that lacks an item leaves room in each class with as many places as items. An item is stuck only where its classes are
-- full. Where a class has as many places as there are items, a full one has as many columns, none of them empty, so as many items
-- as there are, none twice; but this item is not among them. So where each item has such a class rounding leaves none: with it made
-- days and roomy days are never refused for want of places.
pub not_stuck : (p : Problem) (item : ℕ) (columns : List Column) → HasListedColumns p → HasRoomForEach p → IsStuck p item columns → ⊥
not_stuck p item columns listed room stuck =
    let own : HasOwnRoom p item = room item stuck.there in
    let full : nat_lt (times own.class (all_classes columns)) (slice_index p.caps own.class) ≡ false =
    stuck.full own.class own.worth own.there own.alone in
    let many : slice_index p.caps own.class ≤ times own.class (all_classes columns) = grind (arith, nat_tests) in
    let few : length (all_items columns) < p.items =
    shorter item p.items (all_items columns) stuck.there (all_items-below p columns listed stuck.part.worths) stuck.part.once stuck.lacks in
    let wide : p.items ≤ slice_index p.caps own.class = own.wide in
    omega (arith, times-length own.class columns, fewer_columns p columns listed stuck.part.worths)

pub leaves_none : (p : Problem) → HasListedColumns p → LeavesNone p
leaves_none p listed room ordered are item columns is =
    not_stuck p item columns listed room (subst (IsRounding p) is (rounds_to_plan p listed ordered are))
