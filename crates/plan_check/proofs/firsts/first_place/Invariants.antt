use Rattle.std.proofs.Common.{◌≡◌, drop}
use Rattle.plan_check.specs.Judged.{first_worthless}
use Rattle.plan_check.proofs.firsts.first_place.Given as goal

-- the lists so far have worths
abbrev pub invariant-loop-place : goal.invariant-loop-place
invariant-loop-place g l =
    first_worthless (g.C.Columns.problem l.columns) 0 l.lists
    ≡ first_worthless (g.C.Columns.problem l.columns) l.place (drop l.place l.lists)
