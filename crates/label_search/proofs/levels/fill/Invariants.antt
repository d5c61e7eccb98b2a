use Rattle.std.proofs.Common.{◌≡◌, ◌<◌, [], length}
use Rattle.label_search.specs.Levels.{AllAtLeast, AreLevels}
use Rattle.label_search.specs.Limits.{limited}
use Rattle.label_search.specs.Nodes.{nodes_below, values_of}
use Rattle.label_search.proofs.levels.fill.Given as goal

abbrev pub invariant-loop-item : goal.invariant-loop-item
invariant-loop-item g l =
    let w = g.W.Labels in
    record {
      few : length l.nodes.stock.kept < 4294967295;
      nodes : l.nodes.stock.kept ≡ nodes_below (limited (w.labelling l.labels) (w.may_close l.labels l.fn.limit)) (w.good l.labels)
          (w.value_at l.labels) l.item;
      least : AllAtLeast (w.value_at l.labels) l.nodes.least l.nodes.stock.kept;
      levels : AreLevels (w.sound l.labels) (w.last l.labels) (w.value_at l.labels) 0 l.nodes.stock.kept l.nodes.levels.items;
      values : l.nodes.values.items ≡ values_of (w.value_at l.labels) l.nodes.stock.kept;
      empty : l.nodes.stock.made ≡ [];
    }
