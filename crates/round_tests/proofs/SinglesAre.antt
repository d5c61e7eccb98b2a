-- The pricer that tests use finds first leasts.
use Rattle.std.proofs.Common.{◌≡◌, ℕ, ℤ, pos, neg_ℤ, ◌+◌, ◌*◌, ◌%◌, ◌<◌, ◌≤ℤ◌, ◌==◌, nat_lt, true, List, [], ◌∷◌, ◌++◌, Some, refl, sym, ap, ◌∙◌, subst, arith}
use Rattle.std.proofs.lemmas.Int.{ints}
use Rattle.std.proofs.lemmas.Bool.Decides.{nat_tests}
use Rattle.std.proofs.lemmas.Cmp.{tied_itself}
use Rattle.std.specs.Ordering.{is_gt}
use Rattle.std.specs.Cmp.{IsTotalOrder}
use Rattle.plan_core.specs.declared.Price.{Price}
use Rattle.cover_core.specs.declared.Column.{Column}
use Rattle.cover_core.specs.Plans.{value_of}
use Rattle.cover_core.specs.FirstLeast.{backward_cmp, InGroup, IsFirstLeast, IsNotAfter, AllWithin}
use Rattle.cover_core.specs.Best.{best_of, within}
use Rattle.cover_core.specs.Laws.{BestIsFirstLeast}
use Rattle.round_tests.specs.Singles.{single_worth, singles, none_is, worth_is}

-- a list of a group with a worth is the group's first item
list_is : (items class group worth : ℕ) (list : List ℕ) → single_worth items class list ≡ Some worth → InGroup group list →
    (list ≡ 16 * group ∷ []) × (worth ≡ class + 1)
list_is items class group worth [] h g = absurd g
list_is items class group worth (x ∷ []) h g =
    let w = worth_is items class x worth h in
    let first : x ≡ 16 * group = (let m = w.1 in omega arith) in
    (ap (λ (n : ℕ). n ∷ []) first, w.2)
list_is items class group worth (x ∷ y ∷ rest) h g = absurd (none_is ⊥ worth h)

-- A group has at most one list with a worth, its first item alone (`list_is`); so that list is least and first without a comparison.
-- The pricer of these tests may thus answer without a search and still keep the contract that rounds ask of pricers.
pub single_first : (items : ℕ) (prices : List Price) (class group : ℕ) (column : Column) → IsTotalOrder backward_cmp → class < 2 →
    16 * group < items → column.class ≡ class → column.worth ≡ class + 1 → column.items ≡ 16 * group ∷ []
    → IsFirstLeast (singles items) prices class group column
single_first items prices class group column order low small class_is worth_at items_at = record {
  listed = (
    (let e = class_is in omega arith),
    ap (single_worth items column.class) items_at ∙ (listed_worth ∙ ap (λ n. Some (n + 1)) class_is ∙ ap Some (sym worth_at)),
  );
  of_class = class_is;
  of_group = subst (λ (l : List ℕ). InGroup group l) (sym items_at) (omega arith);
  least = λ list worth is in_group.
      let l = list_is items class group worth list is in_group in
      same_value (value_of prices column.worth column.items) (value_of prices worth list)
      (ap (λ n. value_of prices n column.items) (worth_at ∙ sym l.1) ∙ ap (value_of prices worth) (items_at ∙ sym l.0));
  first = λ list worth is in_group same.
      let l = list_is items class group worth list is in_group in
      subst (λ (k : List ℕ). IsNotAfter column.items k) (items_at ∙ sym l.0) (ap is_gt (tied_itself order column.items));
}
  where
    listed_worth : single_worth items column.class (16 * group ∷ []) ≡ Some (column.class + 1)
    listed_worth =
        let below : nat_lt (16 * group) items ≡ true = grind (arith, nat_tests) in
        let whole : (16 * group % 16 == 0) ≡ true = (let z : 16 * group % 16 ≡ 0 = omega arith in grind (arith, nat_tests)) in
        rw (below, whole) refl

    same_value : (a b : ℤ) → a ≡ b → a ≤ℤ b
    same_value a b e = omega (arith, ints)

-- and what it gives within a limit is what the best column gives
pub single_best : (items : ℕ) (prices : List Price) (class group : ℕ) (limit : ℤ) (column : Column) → BestIsFirstLeast (singles items) →
    IsTotalOrder backward_cmp → class < 2 → 16 * group < items
    → column.class ≡ class → column.worth ≡ class + 1 → column.items ≡ 16 * group ∷ [] →
    within limit prices (Some column) ≡ within limit prices (best_of (singles items) prices class group)
single_best items prices class group limit column best order low small class_is worth_is items_is =
    ap (within limit prices)
    (sym ((best prices class group low).only column
    (single_first items prices class group column order low small class_is worth_is items_is)))

-- prices within bounds, with one more
pub AllWithin-push : (n : ℕ) (prices : List Price) (price : Price) → AllWithin n prices → neg_ℤ (pos n) ≤ℤ price.0 → price.0 ≤ℤ pos n →
    AllWithin n (prices ++ price ∷ [])
AllWithin-push n [] price h low high = (low, high, tt)
AllWithin-push n (x ∷ xs) price h low high = (h.0, h.1, AllWithin-push n xs price h.2 low high)
