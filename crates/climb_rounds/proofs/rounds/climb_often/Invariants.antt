use Rattle.plan_dive.specs.Grounds.{IsCourse, IsStock}
use Rattle.climb_rounds.proofs.rounds.climb_often.Given as goal

abbrev pub invariant-loop-climb : goal.invariant-loop-climb
invariant-loop-climb g l = record {
  course : IsCourse (g.C.Columns.problem l.problem) l.course;
  stock : IsStock (g.C.Columns.problem l.problem) l.stock;
}
