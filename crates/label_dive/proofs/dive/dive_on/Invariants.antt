use Rattle.label_dive.specs.Reached.{IsReached}
use Rattle.label_dive.proofs.dive.dive_on.Given as goal

-- where the dive is now is sound
abbrev pub invariant-loop : goal.invariant-loop
invariant-loop g l = IsReached (g.W.Labels.sound l.labels) l.at
