use Rattle.chart_page.proofs.PageLemmas.{then_ok, two_steps}
use Rattle.chart_page.proofs.blocks.push_leg.Goals as goal

pub returns : goal.returns
returns c =
    then_ok c.push_leg_label.result _ _
    (λ last. two_steps _ _ _ _ _ _ (rw c.leg_bar.ensures at c.in_ok-push_parts.ensures)
    (two_steps _ _ _ _ _ _ c.in_ok-push_leg_name.ensures
    (two_steps _ _ _ _ _ _ c.in_ok-push_ends.ensures (two_steps _ _ _ _ _ _ c.in_ok-push_leg_place.ensures last)))) c.push_leg_label.ensures
