-- Inner: numbers that no later rest less its price is lower than.
use Rattle.std.specs.Prelude.{ℕ, ℤ, ◌<◌, ◌≤◌, ◌-ℤ◌, ◌≤ℤ◌, List}
use Rattle.plan_core.specs.declared.Price.{Price}
use Rattle.cover_core.specs.Plans.{number_at, price_at}

-- of the trips from one on and before an end none has a rest less its price that is lower than a number
abbrev pub IsLowOver : List Price → List ℤ → ℕ → ℕ → ℤ → Type 0
IsLowOver prices rests from end low = (u : ℕ) → from ≤ u → u < end → low ≤ℤ (number_at rests u -ℤ price_at prices u)

-- for each trip from one on and before an end a number that is so over the trips from it on
abbrev pub AreLows : List Price → List ℤ → List ℤ → ℕ → ℕ → Type 0
AreLows prices rests lows from end = (u : ℕ) → from ≤ u → u < end → IsLowOver prices rests u end (number_at lows u)
