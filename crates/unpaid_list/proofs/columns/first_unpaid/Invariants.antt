use Rattle.unpaid_list.specs.Unpaid.{AreClassesPaid}
use Rattle.unpaid_list.proofs.columns.first_unpaid.Given as goal

abbrev pub invariant-loop-class : goal.invariant-loop-class
invariant-loop-class g l = AreClassesPaid (g.C.Columns.problem l.columns) (g.M.Marks.prices l.m) l.class_prices l.class
