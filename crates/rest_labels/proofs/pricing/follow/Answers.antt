use Rattle.std.proofs.Common.{drop, w64}
use Rattle.std.proofs.lemmas.Int.{to_z-of_z}
use Rattle.label_search.specs.Limits.{limited}
use Rattle.rest_labels.proofs.Steps.{at-end, below-at, none-left}
use Rattle.rest_labels.proofs.pricing.follow.Goals as goal

pub returns-in-None : goal.returns-in-None
returns-in-None g c =
    let l = c.args.labels.now in
    none-left (limited (g.W.Labels.labelling l) (g.W.Labels.may_close l c.args.limit)) c.loop-item.at
    (drop c.loop-item.item-index c.args.items.now) _ c.in-None.is
    (rw (to_z-of_z w64 c.args.limit c.ranges.limit) at c.loop-item.invariant.same)

pub extend-at-requires-clause-item : goal.extend-at-requires-clause-item
extend-at-requires-clause-item g c =
    below-at (g.W.Labels.count c.args.labels.now) c.args.items.now c.loop-item.item-index c.requires.items c.loop-item-test.true

pub returns : goal.returns
returns g c =
    let l = c.args.labels.now in
    at-end (limited (g.W.Labels.labelling l) (g.W.Labels.may_close l c.args.limit)) c.loop-item.at c.args.items.now
    c.loop-item.item-index _ c.loop-item-test.false
    (rw (to_z-of_z w64 c.args.limit c.ranges.limit) at c.loop-item.invariant.same)
