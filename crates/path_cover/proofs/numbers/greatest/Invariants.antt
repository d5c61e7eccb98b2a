use Rattle.path_cover.specs.Searching.{HasPlaces}
use Rattle.path_cover.specs.Sweeps.{AreHigh, gap}
use Rattle.path_cover.proofs.numbers.greatest.Given as goal

abbrev pub invariant-loop : goal.invariant-loop
invariant-loop g l = record {
  places : HasPlaces (g.A.Arcs.net l.arcs).nodes l.numbers;
  high : AreHigh (g.A.Arcs.net l.arcs) l.placing l.numbers;
}

-- numbers come nearer to the floor
abbrev pub decreases-loop : goal.decreases-loop
decreases-loop g l = gap l.numbers
