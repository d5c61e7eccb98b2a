use Rattle.path_cover.specs.Scans.{IsBest}
use Rattle.path_cover.proofs.growth.nearest.Given as goal

abbrev pub invariant-loop-v : goal.invariant-loop-v
invariant-loop-v l = IsBest l.growth.columns.items l.growth.least.items l.v l.best
