use Rattle.chart_page.proofs.PageLemmas.{flat_step, then_ok, two_steps}
use Rattle.std.specs.List.{enumerate_from}
use Rattle.chart_page.specs.Blocks.{block_at, leg_parts}
use Rattle.chart_page.proofs.blocks.push_lanes.Goals as goal

pub returns : goal.returns
returns c =
    let sheet = c.args.sheet.now in
    then_ok c.push_blocks.result _ _
    (λ last. two_steps _ _ _ _ _ _ (flat_step c.args.table.now (leg_parts sheet.trips c.args.lanes.now)
    sheet.legs _ _ (rw (c.as_slice-trips.ensures, c.as_slice-legs.ensures) at c.in_ok-push_legs.ensures))
    (two_steps _ _ _ _ _ _ (rw c.len.ensures at c.in_ok-push_scale.ensures)
    (flat_step c.args.table.now (block_at sheet.vehicles c.args.lanes.now)
    (enumerate_from 0 sheet.blocks) _ _ (rw (c.as_slice.ensures, c.as_slice-2.ensures) at last)))) c.push_blocks.ensures
