use Rattle.std.proofs.Common.{◌≡◌, ◌++◌, map, take}
use Rattle.point_grid.specs.Grid.{told}
use Rattle.point_grid.proofs.grid.add_row.Given as goal

-- the times to the points that are passed stand behind the others
abbrev pub invariant-loop-to : goal.invariant-loop-to
invariant-loop-to g l =
    map told l.cells ≡ map told l.initial.cells ++ map (λ to. g.T.PointTimes.times l.times l.from to) (take l.to-index l.columns)
