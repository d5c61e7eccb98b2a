use Rattle.plan_dive.specs.Grounds.{IsCourse, IsStock}
use Rattle.plan_dive.proofs.diving.explore.Given as goal

abbrev pub invariant-loop-done : goal.invariant-loop-done
invariant-loop-done g l = record {
  course : IsCourse (g.P.Columns.problem l.problem) l.course;
  stock : IsStock (g.P.Columns.problem l.problem) l.stock;
}
