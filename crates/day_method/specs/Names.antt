-- Promise: the names of the sides of a plan.
use Rattle.std.specs.Prelude.{ℕ, List, codes}
use Rattle.day_method.specs.declared.side.Side.{Side}
use Rattle.day_method.specs.declared.side.Side.TheVariants as sides

abbrev pub name_of : Side → List ℕ
name_of sides.Vehicles = codes "vehicles"
name_of sides.Drivers = codes "drivers"
