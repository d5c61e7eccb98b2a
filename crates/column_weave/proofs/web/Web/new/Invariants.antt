use Rattle.column_weave.specs.Webs.{IsWeb}
use Rattle.column_weave.proofs.web.Web.new.Given as goal

abbrev pub invariant-loop-from : goal.invariant-loop-from
invariant-loop-from g l = IsWeb (g.C.Columns.problem l.problem) l.web
