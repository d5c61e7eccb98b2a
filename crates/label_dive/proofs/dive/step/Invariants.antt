use Rattle.std.proofs.Common.{IfSome}
use Rattle.label_dive.specs.Reached.{IsReached}
use Rattle.label_dive.proofs.dive.step.Given as goal

-- the best so far is sound
abbrev pub invariant-loop-item : goal.invariant-loop-item
invariant-loop-item g l = IfSome l.best (IsReached (g.W.Labels.sound l.labels))
