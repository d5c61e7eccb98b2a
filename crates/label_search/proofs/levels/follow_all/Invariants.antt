use Rattle.std.proofs.Common.{◌≡◌, ◌≤◌, length, drop}
use Rattle.label_search.specs.Levels.{AreLevels, level_so_far}
use Rattle.label_search.specs.Limits.{limited}
use Rattle.label_search.proofs.levels.follow_all.Given as goal

abbrev pub invariant-loop-level : goal.invariant-loop-level
invariant-loop-level g l =
    let w = g.W.Labels in
    record {
      order : l.level-index ≤ length l.levels;
      there : l.from ≤ length l.fn.stock.kept;
      levels : AreLevels (w.sound l.labels) (w.last l.labels) (w.value_at l.labels) l.from (drop l.from l.fn.stock.kept)
          (drop l.level-index l.levels);
      kept : l.stock.kept ≡ l.fn.stock.kept;
      made : l.stock.made ≡ level_so_far (limited (w.labelling l.labels) (w.may_close l.labels l.fn.limit)) (w.good l.labels)
          (w.value_at l.labels) l.fn.stock.kept l.item l.from;
    }
