use Rattle.std.proofs.Common.{◌∙◌, List, ap, map}
use Rattle.plan_params.specs.declared.rows.group.Group.{Group}
use Rattle.duty_network.proofs.Laid.{laid_out}
use Rattle.duty_network.proofs.layout.layout_of.Goals as goal

pub returns : goal.returns
returns c =
    laid_out c.args.pieces.now c.args.params.now c.in_ok-begins.begins c.in_ok-ends.ends c.in_ok-between.between
    c.in_ok-outward.outward c.in_ok-inward.inward
    c.as_slice.result.now c.as_slice-2.result.now c.as_slice-homes.result.now c.as_slice-from.result.now c.as_slice-to.result.now
    (c.as_slice.ensures.value ∙ c.in_ok-firsts.ensures)
    (c.as_slice-2.ensures.value ∙ c.in_ok-lasts.ensures)
    (c.as_slice-homes.ensures.value ∙ c.in_ok-places.ensures
    ∙ ap (λ (groups : List Group). map (λ (group : Group). group.home) groups) c.groups.ensures.rows)
    c.as_slice-from.ensures c.as_slice-to.ensures
    c.in_ok-begins.ensures c.in_ok-ends.ensures c.in_ok-between.ensures c.in_ok-outward.ensures c.in_ok-inward.ensures
