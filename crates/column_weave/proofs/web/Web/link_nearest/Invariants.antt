use Rattle.column_weave.specs.Webs.{IsWeb}
use Rattle.column_weave.proofs.web.Web.link_nearest.Given as goal

abbrev pub invariant-loop-class : goal.invariant-loop-class
invariant-loop-class g l = IsWeb (g.C.Columns.problem l.problem) l.self
