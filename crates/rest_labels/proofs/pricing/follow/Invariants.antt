use Rattle.std.proofs.Common.{◌≡◌, drop, IfSome}
use Rattle.cover_core.specs.Labels.{label_after}
use Rattle.label_search.specs.Limits.{limited}
use Rattle.rest_labels.proofs.pricing.follow.Given as goal

-- the label is sound, and with the items that are left it comes to that of all
abbrev pub invariant-loop-item : goal.invariant-loop-item
invariant-loop-item g l =
    let w = limited (g.W.Labels.labelling l.labels) (g.W.Labels.may_close l.labels l.limit) in
    record {
      sound : IfSome l.at (g.W.Labels.sound l.labels);
      same : label_after w l.at (drop l.item-index l.items) ≡ label_after w l.fn.label l.items;
    }
