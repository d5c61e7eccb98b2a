-- Promise: offers of prices: their class prices, their bounds, and which of two is kept.
use Rattle.std.specs.Prelude.{ℕ, ℤ, nat_lt, cond, List}
use Rattle.plan_core.specs.declared.Price.{Price}
use Rattle.cover_core.specs.Plans.{bound_of}
use Rattle.cover_core.specs.FirstLeast.{class_prices_of}
use Rattle.dual_bound.specs.declared.kept.Kept.{Kept}

-- an offer: prices, the class prices that least values make, and the bound of both
abbrev pub offer_of : List Price → List ℤ → List ℕ → Kept
offer_of prices least caps = record {
  prices = record { items = prices };
  class_prices = class_prices_of least;
  bound = bound_of prices (class_prices_of least) caps;
}

-- what is kept after one more offer: the new one where its bound is greater, else the old one
abbrev pub kept_after : Kept → Kept → Kept
kept_after old new = cond (nat_lt old.bound new.bound) new old
