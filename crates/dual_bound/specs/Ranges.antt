-- Promise: ranges of least values and class prices.
use Rattle.std.specs.Prelude.{ℤ, ◌≤ℤ◌, List, [], ◌∷◌}

-- each number is at least a given one
abbrev pub AreAtLeast : ℤ → List ℤ → Type 0
AreAtLeast low [] = Unit {0}
AreAtLeast low (z ∷ zs) = (low ≤ℤ z) × AreAtLeast low zs
