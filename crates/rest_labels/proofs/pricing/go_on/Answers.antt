use Rattle.std.proofs.Common.{w64}
use Rattle.std.proofs.lemmas.Int.{to_z-of_z}
use Rattle.rest_labels.proofs.Limited.{gone-on-with}
use Rattle.rest_labels.proofs.Steps.{tail-is}
use Rattle.rest_labels.proofs.pricing.go_on.Goals as goal

pub returns-in-len1-up : goal.returns-in-len1-up
returns-in-len1-up g c =
    let l = c.args.labels.now in
    let list = c.args.items.now in
    let some = c.in-len1-up.len_at_least in
    let limit = to_z-of_z w64 c.args.limit c.ranges.limit in
    gone-on-with (g.W.Labels.labelling l) (g.W.Labels.good l) (g.W.Labels.close_of l) (g.W.Labels.sound l) (g.W.Labels.may_close l)
    (g.met.W.Labels.safe l) (g.met.W.Labels.hides_none l) c.args.limit
    c.args.label.now list _ c.extend.result c.follow.result c.requires.sound some (tail-is list some) (rw limit at c.extend.ensures)
    (rw limit at c.follow.ensures)
