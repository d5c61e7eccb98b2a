use Rattle.std.proofs.Common.{◌≤ℤ◌, ◌-ℤ◌, pos, w64, arith}
use Rattle.std.proofs.lemmas.Int.{ints, to_z-of_z}
use Rattle.cover_core.specs.Cover.{AllBelow}
use Rattle.label_search.specs.Answers.{IsLeastClosed}
use Rattle.label_search.proofs.Rising.{below-more}
use Rattle.tie_search.specs.Before.{before}
use Rattle.tie_search.proofs.Early.{if-found, least-before}
use Rattle.tie_search.proofs.search.search_early.Goals as goal

pub returns-clause-found : goal.returns-clause-found
returns-clause-found g c =
    let s = c.args.labels.now in
    let e = c.args.early.now in
    let w = g.W.Labels in
    let laws = g.met.W.Labels in
    let limit = to_z-of_z w64 c.args.value c.ranges.value in
    if-found c.search.result (λ found. IsLeastClosed (before (w.labelling e) c.args.end) (w.close_of e) found.list found.value)
    (λ found. found.value ≤ℤ c.args.value)
    (λ found. IsLeastClosed (w.labelling s) (w.close_of s) found.list found.value)
    (λ found is low.
    least-before (w.labelling s) (w.labelling e) (w.close_of s) (w.close_of e) (w.count s) (w.count e) (w.last s) (w.last e)
    (laws.stepwise s) (laws.stepwise e) c.args.end found.list found.value
    (c.args.value -ℤ pos 1) c.requires.same c.requires.close c.requires.least is (omega (arith, ints)))
    c.search.ensures.found (rw limit at c.search.ensures.within)

pub returns-clause-items : goal.returns-clause-items
returns-clause-items g c =
    if-found c.search.result (λ found. AllBelow c.args.end found.list) (λ found. AllBelow c.args.end found.list)
    (λ found. AllBelow (g.W.Labels.count c.args.labels.now) found.list)
    (λ found below same. below-more c.args.end (g.W.Labels.count c.args.labels.now) found.list c.requires.end below)
    c.search.ensures.items c.search.ensures.items
