use Rattle.std.proofs.Common.{◌≡◌, ◌≤◌}
use Rattle.label_search.specs.Levels.{level_so_far}
use Rattle.label_search.specs.Limits.{limited}
use Rattle.label_search.proofs.levels.extend_all.Given as goal

abbrev pub invariant-loop-place : goal.invariant-loop-place
invariant-loop-place g l =
    let w = g.W.Labels in
    record {
      after : l.fn.from ≤ l.place;
      order : l.place ≤ l.level.end;
      kept : l.stock.kept ≡ l.fn.stock.kept;
      made : l.stock.made ≡ level_so_far (limited (w.labelling l.labels) (w.may_close l.labels l.fn.limit)) (w.good l.labels)
          (w.value_at l.labels) l.fn.stock.kept l.item l.place;
    }
