use Rattle.std.proofs.Common.{◌≡◌, ◌++◌, map, drop}
use Rattle.plan_check.specs.Judged.{first_worthless, with_worth}
use Rattle.plan_check.proofs.check.find_worths.Given as goal

-- the lists so far have worths
abbrev pub invariant-loop-place : goal.invariant-loop-place
invariant-loop-place g l = record {
  first : first_worthless (g.C.Columns.problem l.columns) 0 l.lists
      ≡ first_worthless (g.C.Columns.problem l.columns) l.place (drop l.place l.lists);
  found : l.found ++ map (with_worth (g.C.Columns.problem l.columns)) (drop l.place l.lists)
      ≡ map (with_worth (g.C.Columns.problem l.columns)) l.lists;
}
