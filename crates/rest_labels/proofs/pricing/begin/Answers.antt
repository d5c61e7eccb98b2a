use Rattle.std.proofs.Common.{w64}
use Rattle.std.proofs.lemmas.Int.{to_z-of_z}
use Rattle.rest_labels.proofs.Limited.{begun-with}
use Rattle.rest_labels.proofs.Steps.{tail-is}
use Rattle.rest_labels.proofs.pricing.begin.Goals as goal

pub returns-in-len1-up : goal.returns-in-len1-up
returns-in-len1-up g c =
    let l = c.args.labels.now in
    let list = c.args.list.now in
    let some = c.in-len1-up.len_at_least in
    let limit = to_z-of_z w64 c.args.limit c.ranges.limit in
    begun-with (g.W.Labels.labelling l) (g.W.Labels.good l) (g.W.Labels.close_of l) (g.W.Labels.sound l) (g.W.Labels.may_close l)
    (g.met.W.Labels.safe l) (g.met.W.Labels.hides_none l) c.args.limit
    list _ c.start.result c.follow.result some (tail-is list some) (rw limit at c.start.ensures) (rw limit at c.follow.ensures)
