-- Promise: the four passes of a certificate: how many items they have, and the numbers of their classes.
use Rattle.std.specs.Prelude.{ℕ, ◌≤◌, List, length, map}
use Rattle.plan_params.specs.declared.rows.group.Group.{Group}
use Rattle.plan_params.specs.declared.rows.pool.Pool.{Pool}
use Rattle.day_model.specs.Facts.{DayFacts}
use Rattle.plan_cert.specs.declared.cert.Pass.{Pass}
use Rattle.plan_cert.specs.declared.cert.Pass.TheVariants.{BlockNumber, BlockCost, DutyNumber, DutyCost}
use Rattle.plan_cert.specs.declared.shape.ClassNumbers.{ClassNumbers}
use Rattle.plan_cert.specs.declared.shape.Shape.{Shape}

-- HOF_NR of the pools, in their order
abbrev pub pool_numbers_of : DayFacts → List ℕ
pool_numbers_of day = map (λ (pool : Pool). pool.number) day.params.pools

-- GRUPPE_NR of the groups of drivers, in their order
abbrev pub group_numbers_of : DayFacts → List ℕ
group_numbers_of day = map (λ (group : Group). group.number) day.params.groups

abbrev pub class_numbers_of : DayFacts → ClassNumbers
class_numbers_of day = record { pools = pool_numbers_of day; groups = group_numbers_of day }

-- the trips and classes of a day, and so many pieces
abbrev pub shape_of : DayFacts → ℕ → Shape
shape_of day pieces = record { trips = length day.trips; pieces = pieces; classes = class_numbers_of day }

-- how many items a pass has
abbrev pub items_of : Shape → Pass → ℕ
items_of s BlockNumber = s.trips
items_of s BlockCost = s.trips
items_of s DutyNumber = s.pieces
items_of s DutyCost = s.pieces

-- the numbers of its classes, in their order
abbrev pub numbers_in : ClassNumbers → Pass → List ℕ
numbers_in c BlockNumber = c.pools
numbers_in c BlockCost = c.pools
numbers_in c DutyNumber = c.groups
numbers_in c DutyCost = c.groups

-- at most 32 pools and 32 groups
pub record HaveFew (c : ClassNumbers) : Type 0 where
  pub pools : length c.pools ≤ 32
  pub groups : length c.groups ≤ 32
