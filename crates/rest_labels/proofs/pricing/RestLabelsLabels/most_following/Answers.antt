use Rattle.std.proofs.Common.{length, w64}
use Rattle.std.proofs.lemmas.Int.{to_z-of_z}
use Rattle.rest_labels.proofs.Limited.{if-none, if-some, none-extends}
use Rattle.rest_labels.proofs.Steps.{ends-with}
use Rattle.rest_labels.specs.Labels.{is_set, more_after}
use Rattle.rest_labels.proofs.pricing.RestLabelsLabels.most_following.Goals as goal

pub returns-in-len1-up-body-clause-none : goal.returns-in-len1-up-body-clause-none
returns-in-len1-up-body-clause-none g c =
    let s = c.args.self.now in
    let l = s.labels.now in
    let limit = to_z-of_z w64 c.args.limit c.ranges.limit in
    if-none c.most_following.result _ _
    (λ none a fits last.
    let ends = ends-with s.bodies.now a.item c.args.before (g.W.Labels.last l a.label) c.body.result.now c.body.ensures.body last
    c.in-len1-up.len_at_least fits.ends in
    none-extends (g.W.Labels.labelling l) (g.W.Labels.good l) (g.W.Labels.close_of l) (g.W.Labels.sound l) (g.W.Labels.may_close l)
    (g.met.W.Labels.safe l) (g.met.W.Labels.hides_none l) c.args.limit
    s.bodies.now (length s.ended.now) (is_set s.starts.now) (more_after s.ended.now) a c.args.item c.body-in-len1-up.result.now
    c.body-in-len1-up.ensures.body fits.fits
    c.in-len1-up-body.len_at_least (rw limit at (none a.label fits.fits ends)))
    c.most_following.ensures.none

pub returns-in-len1-up-body-clause-most : goal.returns-in-len1-up-body-clause-most
returns-in-len1-up-body-clause-most g c =
    let s = c.args.self.now in
    let l = s.labels.now in
    let limit = to_z-of_z w64 c.args.limit c.ranges.limit in
    if-some c.most_following.result _ _
    (λ most none a fits last above.
    let ends = ends-with s.bodies.now a.item c.args.before (g.W.Labels.last l a.label) c.body.result.now c.body.ensures.body last
    c.in-len1-up.len_at_least fits.ends in
    none-extends (g.W.Labels.labelling l) (g.W.Labels.good l) (g.W.Labels.close_of l) (g.W.Labels.sound l) (g.W.Labels.may_close l)
    (g.met.W.Labels.safe l) (g.met.W.Labels.hides_none l) c.args.limit
    s.bodies.now (length s.ended.now) (is_set s.starts.now) (more_after s.ended.now) a c.args.item c.body-in-len1-up.result.now
    c.body-in-len1-up.ensures.body fits.fits
    c.in-len1-up-body.len_at_least (rw limit at (none a.label fits.fits ends above)))
    c.most_following.ensures.most
