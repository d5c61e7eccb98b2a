use Rattle.column_weave.specs.Webs.{IsWeb}
use Rattle.column_weave.proofs.web.Web.link_all.Given as goal

abbrev pub invariant-loop-column : goal.invariant-loop-column
invariant-loop-column g l = IsWeb (g.C.Columns.problem l.problem) l.self
