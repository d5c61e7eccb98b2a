use Rattle.std.proofs.Common.{◌≡◌, slice_index}
use Rattle.path_cover.specs.Augmenting.{IsFramed, IsWalkOf}
use Rattle.path_cover.proofs.augment.augment.Given as goal

-- The walk back: the hole is a column with a free place, the row is the one that reached it, and only rows seen in this search have
-- moved. The row's depth falls at each step, as rows hang on columns that were reached from rows nearer to the root.
abbrev pub invariant-loop-row : goal.invariant-loop-row
invariant-loop-row g l = (l.row ≡ slice_index l.growth.via.items l.hole) × (l.n ≡ (g.A.Arcs.net l.arcs).nodes)
    × IsWalkOf (g.A.Arcs.net l.arcs) l.falls l.target l.growth l.placing l.hole
    × IsFramed (g.A.Arcs.net l.arcs).nodes l.target l.fn.placing.to.items l.placing.to.items

-- the walk comes nearer to the root
abbrev pub decreases-loop-row : goal.decreases-loop-row
decreases-loop-row g l = slice_index l.growth.depth.items l.row
