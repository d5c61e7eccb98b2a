-- Promise: what the items after each item can take off a value at most.
use Rattle.std.specs.Prelude.{ℕ, ℤ, pos, negsuc, neg_ℤ, ◌-ℤ◌, ◌≤ℤ◌, List, [], ◌∷◌}
use Rattle.cover_core.specs.Plans.{number_at}
use Rattle.plan_core.specs.declared.Price.{Price}

-- a price, where it is above 0
abbrev pub gain_of : ℤ → ℤ
gain_of (pos n) = pos n
gain_of (negsuc n) = pos 0

-- minus the prices above 0
abbrev pub loss : List Price → ℤ
loss [] = pos 0
loss (x ∷ xs) = loss xs -ℤ gain_of x.0

-- the loss of the items after each item
abbrev pub rests_of : List Price → List ℤ
rests_of [] = []
rests_of (x ∷ xs) = loss xs ∷ rests_of xs

-- each rest is from -30,000,000,000,000,000 to 0
pub record AreRests (rests : List ℤ) : Type 0 where
  pub low : (k : ℕ) → neg_ℤ (pos 30000000000000000) ≤ℤ number_at rests k
  pub high : (k : ℕ) → number_at rests k ≤ℤ pos 0
