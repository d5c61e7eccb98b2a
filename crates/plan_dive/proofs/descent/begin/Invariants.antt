use Rattle.plan_dive.specs.Descents.{IsDescent}
use Rattle.plan_dive.proofs.descent.begin.Given as goal

abbrev pub invariant-loop-column : goal.invariant-loop-column
invariant-loop-column g l = IsDescent (g.C.Columns.problem l.problem) l.descent
