-- Numbers in order: a list that ascends is told by how often each number stands in it.
use Rattle.std.proofs.Common.{◌≡◌, ◌==◌, ℕ, ◌+◌, ◌<◌, Bool, true, false, cond, suc, List, [], ◌∷◌, get_or, length, IsPermutation, IsSortedBy, refl, sym, ap, ◌∙◌, subst, arith}
use Rattle.std.specs.Cmp.{IsStrictWeakOrder, IsTotalOrder}
use Rattle.std.specs.List.{sum_by}
use Rattle.std.specs.FinMap.{nat_cmp-IsAntisymmetric}
use Rattle.std.specs.Ordering.{nat_cmp, int_cmp, then_cmp, on, is_lt, ordering_then, ordering_reverse}
use Rattle.std.specs.declared.cmp.Ordering.{Ordering}
use Rattle.std.specs.declared.cmp.Ordering.TheVariants.{Less, Equal, Greater}
use Rattle.std.proofs.lemmas.Bool.Decides.{nat_tests}
use Rattle.std.proofs.lemmas.Cmp.{then_total, on_total, nat_cmp_total, int_cmp_total}
use Rattle.std.proofs.lemmas.List.Sorted.{ranks_by, sum_by-IsPermutation}
use Rattle.std.proofs.lemmas.List.Sums.{sum_by-cons}
use Rattle.plan_core.specs.declared.Price.{Price}
use Rattle.cover_core.specs.declared.Column.{Column}
use Rattle.cover_core.specs.Plans.{times}
use Rattle.cover_core.specs.Parts.{column_at}
use Rattle.cover_core.specs.FirstLeast.{value}
use Rattle.column_pool.specs.Pools.{places_from, comes_before, IsByValue}

-- no number is below the one before it
abbrev pub Ascends : (ℕ → ℕ → Bool) → List ℕ → Type 0
Ascends lt [] = Unit {0}
Ascends lt (x ∷ []) = Unit {0}
Ascends lt (x ∷ y ∷ rest) = (lt y x ≡ false) × Ascends lt (y ∷ rest)

from_sorted : (lt : ℕ → ℕ → Bool) (xs : List ℕ) → IsSortedBy lt xs → Ascends lt xs
from_sorted lt [] h = tt
from_sorted lt (x ∷ []) h = tt
from_sorted lt (x ∷ y ∷ rest) h = (
  h 0 x (omega arith) (omega arith),
  from_sorted lt (y ∷ rest) (λ k d low below.
      let e : suc (k + 1) ≡ suc k + 1 = omega arith in
      ap (λ (i : ℕ). lt (get_or (x ∷ y ∷ rest) i d) (get_or (y ∷ rest) k d)) e ∙ h (suc k) d (omega arith) (omega arith)),
)

ascends_tail : (lt : ℕ → ℕ → Bool) (x : ℕ) (xs : List ℕ) → Ascends lt (x ∷ xs) → Ascends lt xs
ascends_tail lt x [] h = tt
ascends_tail lt x (y ∷ ys) h = h.1

times_self : (x : ℕ) (xs : List ℕ) → 0 < times x (x ∷ xs)
times_self x xs = let one : (x == x) ≡ true = grind (arith, nat_tests) in rw one (omega arith)

tail_same : (e x y : ℕ) (xs ys : List ℕ) → x ≡ y → times e (x ∷ xs) ≡ times e (y ∷ ys) → times e xs ≡ times e ys
tail_same e x y xs ys same h =
    let P : ℕ → Type 0 = λ w. times e (x ∷ xs) ≡ times e (w ∷ ys) in
    let both : times e (x ∷ xs) ≡ times e (x ∷ ys) = subst P (sym same) h in
    go (cond (e == x) 1 0) (times e xs) (times e ys) both
  where
    go : (n a b : ℕ) → n + a ≡ n + b → a ≡ b
    go n a b h = omega arith

module _ (lt : ℕ → ℕ → Bool) (order : IsStrictWeakOrder lt) (apart : (x y : ℕ) → lt x y ≡ false → lt y x ≡ false → x ≡ y) where
  itself : (x : ℕ) → lt x x ≡ false
  itself x = elim (lt x x) as (λ b. lt x x ≡ b → lt x x ≡ false) [ true ↦ λ e. order.one_way x x e | false ↦ λ e. e ] refl

  behind : (x : ℕ) (xs : List ℕ) (z : ℕ) → Ascends lt (x ∷ xs) → 0 < times z xs → lt z x ≡ false
  behind x [] z up there = absurd (omega arith)
  behind x (y ∷ rest) z up there =
      elim (z == y) as (λ b. (z == y) ≡ b → lt z x ≡ false) [
        | true ↦ λ e. (let same : z ≡ y = grind (arith, nat_tests) in ap (λ (w : ℕ). lt w x) same ∙ up.0)
        | false ↦ λ e. (let t = rw e at there in let more : 0 < times z rest =
            omega arith in order.chain z y x (behind y rest z up.1 more) up.0)
      ] refl

  within : (x y : ℕ) (ys : List ℕ) → Ascends lt (y ∷ ys) → 0 < times x (y ∷ ys) → lt x y ≡ false
  within x y ys up there =
      elim (x == y) as (λ b. (x == y) ≡ b → lt x y ≡ false) [
        | true ↦ λ e. (let same : x ≡ y = grind (arith, nat_tests) in ap (λ (w : ℕ). lt w y) same ∙ itself y)
        | false ↦ λ e. (let t = rw e at there in let more : 0 < times x ys = omega arith in behind y ys x up more)
      ] refl

  -- A list that ascends is told by how often each number stands in it: the first of each list is in the other too, so neither is
  -- less than the other, and they are one number; the rest follows by induction. So a sort that only promises a permutation in
  -- order has one result.
  pub one_order : (xs ys : List ℕ) → Ascends lt xs → Ascends lt ys → ((e : ℕ) → times e xs ≡ times e ys) → xs ≡ ys
  one_order [] [] a b same = refl
  one_order [] (y ∷ ys) a b same = absurd (let t = times_self y ys in let s : 0 ≡ times y (y ∷ ys) = same y in omega arith)
  one_order (x ∷ xs) [] a b same = absurd (let t = times_self x xs in let s : times x (x ∷ xs) ≡ 0 = same x in omega arith)
  one_order (x ∷ xs) (y ∷ ys) a b same =
      let P : ℕ → Type 0 = λ n. 0 < n in
      let here : 0 < times x (y ∷ ys) = subst P (same x) (times_self x xs) in
      let there : 0 < times y (x ∷ xs) = subst P (sym (same y)) (times_self y ys) in
      let head : x ≡ y = apart x y (within x y ys b here) (within y x xs a there) in
      ap (λ (z : ℕ). z ∷ xs) head
      ∙ ap (λ (l : List ℕ). y ∷ l)
      (one_order xs ys (ascends_tail lt x xs a) (ascends_tail lt y ys b) (λ e. tail_same e x y xs ys head (same e)))

times_sum : (e : ℕ) (xs : List ℕ) → times e xs ≡ sum_by (λ x. cond (e == x) 1 0) xs
times_sum e [] = refl
times_sum e (x ∷ xs) = omega (arith, times_sum e xs, sum_by-cons (λ (x : ℕ). cond (e == x) 1 0) x xs)

moved_times : (xs ys : List ℕ) (e : ℕ) → IsPermutation xs ys → times e xs ≡ times e ys
moved_times xs ys e moved = times_sum e xs ∙ (sym (sum_by-IsPermutation (λ (x : ℕ). cond (e == x) 1 0) xs ys moved) ∙ sym (times_sum e ys))

pub then_equal : (a b : Ordering) → ordering_then a b ≡ Equal → (a ≡ Equal) × (b ≡ Equal)
then_equal Less b h = absurd (cc)
then_equal Equal b h = (refl, h)
then_equal Greater b h = absurd (cc)

pub reversed_greater : (x y : Ordering) → x ≡ ordering_reverse y → y ≡ Greater → x ≡ Less
reversed_greater x y h e = h ∙ ap ordering_reverse e

-- places by value
module _ (prices : List Price) (pool : List Column) where
  abbrev place_cmp : ℕ → ℕ → Ordering
  place_cmp = then_cmp (on (λ k. value prices (column_at pool k)) int_cmp) nat_cmp

  place_total : IsTotalOrder place_cmp
  place_total = then_total (on_total (λ (k : ℕ). value prices (column_at pool k)) int_cmp_total) nat_cmp_total

  places_apart : (x y : ℕ) → comes_before prices pool x y ≡ false → comes_before prices pool y x ≡ false → x ≡ y
  places_apart x y h k = go (place_cmp y x) refl
    where
      go : (o : Ordering) → place_cmp y x ≡ o → x ≡ y
      go Less e = absurd (let t : is_lt (place_cmp y x) ≡ true = ap is_lt e in cc)
      go Equal e = sym (nat_cmp-IsAntisymmetric y x
          (then_equal (int_cmp (value prices (column_at pool y)) (value prices (column_at pool x))) (nat_cmp y x) e).1)
      go Greater e = absurd (let t : is_lt (place_cmp x y) ≡ true =
          ap is_lt (reversed_greater (place_cmp x y) (place_cmp y x) (place_total.antisymm x y) e) in cc)

  -- The places of a pool by value and place are one list, as no two places compare alike. So a step of the method may go through
  -- columns by value without saying how they are sorted.
  pub one_by_value : (a b : List ℕ) → IsByValue prices pool a → IsByValue prices pool b → a ≡ b
  one_by_value a b one other =
      one_order (comes_before prices pool) (ranks_by place_total (λ (k : ℕ). k)) places_apart a b
      (from_sorted (comes_before prices pool) a one.sorted) (from_sorted (comes_before prices pool) b other.sorted)
      (λ e. sym (moved_times (places_from (length pool) 0) a e one.each) ∙ moved_times (places_from (length pool) 0) b e other.each)
