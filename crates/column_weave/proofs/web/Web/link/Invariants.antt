use Rattle.column_weave.specs.Webs.{IsWeb}
use Rattle.column_weave.proofs.web.Web.link.Given as goal

abbrev pub invariant-loop-place : goal.invariant-loop-place
invariant-loop-place g l = IsWeb (g.C.Columns.problem l.problem) l.self
