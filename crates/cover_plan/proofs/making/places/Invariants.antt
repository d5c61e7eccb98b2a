use Rattle.std.proofs.Common.{◌≡◌, ◌≤◌, ◌*◌, take, sum}
use Rattle.cover_plan.proofs.making.places.Given as goal

abbrev pub invariant-loop-class : goal.invariant-loop-class
invariant-loop-class g l = record {
  all : l.sum ≡ sum (take l.class (g.C.Columns.problem l.columns).caps);
  small : l.sum ≤ 10000 * l.class;
}
