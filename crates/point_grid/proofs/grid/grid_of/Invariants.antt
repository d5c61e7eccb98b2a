use Rattle.std.proofs.Common.{◌≡◌, map, take}
use Rattle.point_grid.specs.Grid.{times_of, told}
use Rattle.point_grid.proofs.grid.grid_of.Given as goal

-- the rows that are passed stand there
abbrev pub invariant-loop-from : goal.invariant-loop-from
invariant-loop-from g l = map told l.cells ≡ times_of (g.T.PointTimes.times l.times) (take l.from-index l.rows) l.columns
