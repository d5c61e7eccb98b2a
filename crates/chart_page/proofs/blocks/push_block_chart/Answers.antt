use Rattle.chart_page.proofs.PageLemmas.{then_ok, two_steps}
use Rattle.chart_page.proofs.blocks.push_block_chart.Goals as goal

pub returns : goal.returns
returns c =
    then_ok c.push_parts.result _ _
    (λ last. two_steps _ _ _ _ _ _ (rw c.len.ensures at c.in_ok-push_frame.ensures)
    (two_steps _ _ _ _ _ _ (rw (c.as_slice.ensures, c.in_ok-lanes.ensures) at c.in_ok-push_lanes.ensures) last)) c.push_parts.ensures
