-- Promise: the points of a variant of a line, in their order.
use Rattle.std.specs.Prelude.{List, [], ◌∷◌}
use Rattle.plan_core.specs.declared.types.Point.{Point}

-- the last point of a stop sequence that begins at a point
abbrev pub last_from : Point → List Point → Point
last_from at [] = at
last_from at (next ∷ course) = last_from next course

-- the points of a stop sequence that begins at a point, but for the last one
abbrev pub before_last : Point → List Point → List Point
before_last at [] = []
before_last at (next ∷ course) = at ∷ before_last next course
