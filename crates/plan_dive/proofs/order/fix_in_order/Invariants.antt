use Rattle.plan_dive.specs.Descents.{IsDescent}
use Rattle.plan_dive.proofs.order.fix_in_order.Given as goal

abbrev pub invariant-loop-key : goal.invariant-loop-key
invariant-loop-key g l = IsDescent (g.C.Columns.problem l.problem) l.descent
