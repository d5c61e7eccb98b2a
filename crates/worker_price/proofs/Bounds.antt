-- Least values are not far below 0.
use Rattle.std.proofs.Common.{◌≡◌, ⊎_elim, ℕ, ℤ, pos, neg_ℤ, zero, suc, ◌+◌, ◌-◌, ◌*◌, ◌<◌, ◌≤◌, ◌≤ℤ◌, ◌+ℤ◌, ◌-ℤ◌, List, [], ◌∷◌, Some, sym, subst, arith}
use Rattle.std.proofs.lemmas.Int.{ints}
use Rattle.plan_core.specs.declared.Price.{Price}
use Rattle.cover_core.specs.declared.Column.{Column}
use Rattle.cover_core.specs.Cover.{Problem, Rises, AllBelow}
use Rattle.cover_core.specs.Plans.{price_at, price_of}
use Rattle.cover_core.specs.FirstLeast.{value, AllWithin}
use Rattle.cover_core.specs.Best.{best_of}
use Rattle.cover_core.specs.Laws.{BestIsFirstLeast, BestIsFitting}
use Rattle.worker_price.specs.Priced.{groups_of, least_of, LeastIsBounded}
use Rattle.worker_price.proofs.Limits.{least_over}

zero_low : (n : ℕ) → pos 0 ≤ℤ pos n
zero_low n = omega (arith, ints)

price_at_high : (n : ℕ) (prices : List Price) (i : ℕ) → AllWithin n prices → price_at prices i ≤ℤ pos n
price_at_high n [] i h = zero_low n
price_at_high n (x ∷ xs) zero h = h.1
price_at_high n (x ∷ xs) (suc i) h = price_at_high n xs i h.2

-- the first item, if there is one, is at least a
abbrev From : ℕ → List ℕ → Type 0
From a [] = Unit {0}
From a (x ∷ xs) = a ≤ x

rises_from : (x : ℕ) (xs : List ℕ) → Rises (x ∷ xs) → Rises xs × From (x + 1) xs
rises_from x [] h = (tt, tt)
rises_from x (y ∷ ys) h = (h.1, (let l = h.0 in omega arith))

add_high : (a b : ℤ) (n x k : ℕ) → a ≤ℤ pos 10000000000000 → b ≤ℤ pos (10000000000000 * (n - (x + 1))) → k ≤ x → x < n →
    (a +ℤ b) ≤ℤ pos (10000000000000 * (n - k))
add_high a b n x k h l low high = omega (arith, ints)

-- a list that rises costs no more than all items from its first one on
price_high : (prices : List Price) (n k : ℕ) (xs : List ℕ) → AllWithin 10000000000000 prices → Rises xs → AllBelow n xs → From k xs →
    price_of prices xs ≤ℤ pos (10000000000000 * (n - k))
price_high prices n k [] within rises below from = zero_low (10000000000000 * (n - k))
price_high prices n k (x ∷ xs) within rises below from =
    let r = rises_from x xs rises in
    add_high (price_at prices x) (price_of prices xs) n x k (price_at_high 10000000000000 prices x within)
    (price_high prices n (x + 1) xs within r.0 below.1 r.1) from below.0

from_none : (xs : List ℕ) → From 0 xs
from_none [] = tt
from_none (x ∷ xs) = omega arith

low_where : (worth n : ℕ) (z : ℤ) → n ≤ 3000 → z ≤ℤ pos (10000000000000 * (n - 0)) →
    neg_ℤ (pos 30000000000000000) ≤ℤ (pos (1000 * worth) -ℤ z)
low_where worth n z few high = omega (arith, ints)

below_zero : neg_ℤ (pos 30000000000000000) ≤ℤ pos 0
below_zero = omega (arith, ints)

-- No least value is far below 0: a list rises, so it has each item once at most, and its prices come to no more than those of 3,000
-- items. It keeps the arithmetic on values within 64 bits.
pub least_is_bounded : (p : Problem) → BestIsFirstLeast p → BestIsFitting p → LeastIsBounded p
least_is_bounded p best fitting prices class few within low =
    ⊎_elim (λ (z : least_of p prices class ≡ pos 0). subst (λ (l : ℤ). neg_ℤ (pos 30000000000000000) ≤ℤ l) (sym z) below_zero)
    (λ (r : (g : ℕ) × (c : Column) × (g < groups_of p.items) × (best_of p prices class g ≡ Some c)
    × (value prices c ≡ least_of p prices class)).
    let fit = fitting prices class r.0 r.1 ((best prices class r.0 low).is_first_least r.1 r.3) in
    subst (λ (l : ℤ). neg_ℤ (pos 30000000000000000) ≤ℤ l) r.4
    (low_where r.1.worth p.items (price_of prices r.1.items) few
    (price_high prices p.items 0 r.1.items within fit.rises fit.items (from_none r.1.items))))
    (least_over prices (best_of p prices class) (groups_of p.items)).reached
