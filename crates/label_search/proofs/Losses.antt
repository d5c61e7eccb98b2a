-- The items after an item take no more off a value than its rest.
use Rattle.std.proofs.Common.{◌≡◌, ℕ, ℤ, pos, negsuc, ◌-ℤ◌, ◌≤ℤ◌, ◌<◌, ◌≤◌, ◌*◌, zero, suc, List, [], ◌∷◌, length, drop, get_or, refl, arith, neg_ℤ}
use Rattle.std.proofs.lemmas.Int.{ints}
use Rattle.plan_core.specs.declared.Price.{Price}
use Rattle.cover_core.specs.Plans.{price_at, number_at}
use Rattle.cover_core.specs.FirstLeast.{AllWithin}
use Rattle.label_search.specs.Rests.{gain_of, loss, rests_of, AreRests}

pub gain-least : (z : ℤ) → (z ≤ℤ gain_of z) × (pos 0 ≤ℤ gain_of z)
gain-least (pos n) = (omega (arith, ints), omega (arith, ints))
gain-least (negsuc n) = (omega (arith, ints), omega (arith, ints))

pub gain-most : (z : ℤ) → z ≤ℤ pos 10000000000000 → gain_of z ≤ℤ pos 10000000000000
gain-most (pos n) h = omega (arith, ints)
gain-most (negsuc n) h = omega (arith, ints)

pub loss-at_most : (prices : List Price) → loss prices ≤ℤ pos 0
loss-at_most [] = omega (arith, ints)
loss-at_most (x ∷ xs) = let own = gain-least x.0 in let least = own.1 in omega (arith, ints, loss-at_most xs)

pub loss-at_least : (prices : List Price) → AllWithin 10000000000000 prices → neg_ℤ (pos (10000000000000 * length prices)) ≤ℤ loss prices
loss-at_least [] h = omega (arith, ints)
loss-at_least (x ∷ xs) h = let own = gain-most x.0 h.1 in omega (arith, ints, loss-at_least xs h.2)

-- no rest is above 0
pub rest-at_most : (prices : List Price) (k : ℕ) → number_at (rests_of prices) k ≤ℤ pos 0
rest-at_most [] k = omega (arith, ints)
rest-at_most (x ∷ xs) zero = loss-at_most xs
rest-at_most (x ∷ xs) (suc k) = rest-at_most xs k

loss-below : (prices : List Price) (k : ℕ) → k < length prices → loss prices ≤ℤ (number_at (rests_of prices) k -ℤ price_at prices k)
loss-below [] k h = absurd (omega arith)
loss-below (x ∷ xs) zero h = let own = gain-least x.0 in let least = own.0 in omega (arith, ints)
loss-below (x ∷ xs) (suc k) h = let own = gain-least x.0 in let least = own.1 in omega (arith, ints, loss-below xs k (omega arith))

-- The rest of an item is minus all prices above 0 of the items behind it: no list that goes on takes more off a value, since it can
-- have each item once. Going on with a later item takes its price off and leaves the rest behind that; both together are part of
-- what the earlier item's rest has counted. So a value with its rest is a completion bound, and all that it needs is prices.
pub rest-steps : (prices : List Price) (j k : ℕ) → j < k → k < length prices →
    number_at (rests_of prices) j ≤ℤ (number_at (rests_of prices) k -ℤ price_at prices k)
rest-steps [] j k h below = absurd (omega arith)
rest-steps (x ∷ xs) zero zero h below = absurd (omega arith)
rest-steps (x ∷ xs) zero (suc k) h below = loss-below xs k (omega arith)
rest-steps (x ∷ xs) (suc j) zero h below = absurd (omega arith)
rest-steps (x ∷ xs) (suc j) (suc k) h below = rest-steps xs j k (omega arith) (omega arith)

pub rest-at_least : (prices : List Price) (k : ℕ) → AllWithin 10000000000000 prices →
    neg_ℤ (pos (10000000000000 * length prices)) ≤ℤ number_at (rests_of prices) k
rest-at_least [] k h = omega (arith, ints)
rest-at_least (x ∷ xs) zero h = omega (arith, ints, loss-at_least xs h.2)
rest-at_least (x ∷ xs) (suc k) h = omega (arith, ints, rest-at_least xs k h.2)

pub loss-drop : (prices : List Price) (k : ℕ) → k < length prices →
    loss (drop k prices) ≡ loss (drop (suc k) prices) -ℤ gain_of (price_at prices k)
loss-drop [] k h = absurd (omega arith)
loss-drop (x ∷ xs) zero h = refl
loss-drop (x ∷ xs) (suc k) h = loss-drop xs k (omega arith)

pub rests-drop : (prices : List Price) (k : ℕ) → k < length prices →
    rests_of (drop k prices) ≡ loss (drop (suc k) prices) ∷ rests_of (drop (suc k) prices)
rests-drop [] k h = absurd (omega arith)
rests-drop (x ∷ xs) zero h = refl
rests-drop (x ∷ xs) (suc k) h = rests-drop xs k (omega arith)

length-drop-le : (prices : List Price) (k : ℕ) → length (drop k prices) ≤ length prices
length-drop-le [] zero = omega arith
length-drop-le [] (suc k) = omega arith
length-drop-le (x ∷ xs) zero = omega arith
length-drop-le (x ∷ xs) (suc k) = omega (arith, length-drop-le xs k)

within-drop : (prices : List Price) (k : ℕ) → AllWithin 10000000000000 prices → AllWithin 10000000000000 (drop k prices)
within-drop [] zero h = h
within-drop [] (suc k) h = tt
within-drop (x ∷ xs) zero h = h
within-drop (x ∷ xs) (suc k) h = within-drop xs k h.2

-- the losses so far are moderate
pub loss-range : (prices : List Price) (k : ℕ) → length prices ≤ 3000 → AllWithin 10000000000000 prices →
    (neg_ℤ (pos 30000000000000000) ≤ℤ loss (drop k prices)) × (loss (drop k prices) ≤ℤ pos 0)
loss-range prices k few h =
    let few' = length-drop-le prices k in
    let low = loss-at_least (drop k prices) (within-drop prices k h) in
    (omega (arith, ints), loss-at_most (drop k prices))

pub number-get : (xs : List ℤ) (k : ℕ) → k < length xs → get_or xs k (pos 0) ≡ number_at xs k
number-get [] k h = absurd (omega arith)
number-get (x ∷ xs) zero h = refl
number-get (x ∷ xs) (suc k) h = number-get xs k (omega arith)

pub number-none : (xs : List ℤ) (k : ℕ) → length xs ≤ k → pos 0 ≡ number_at xs k
number-none [] k h = refl
number-none (x ∷ xs) zero h = absurd (omega arith)
number-none (x ∷ xs) (suc k) h = number-none xs k (omega arith)

pub rests-are : (prices : List Price) → length prices ≤ 3000 → AllWithin 10000000000000 prices → AreRests (rests_of prices)
rests-are prices few w = record {
  low = λ k. let least = rest-at_least prices k w in omega (arith, ints);
  high = λ k. rest-at_most prices k;
}
