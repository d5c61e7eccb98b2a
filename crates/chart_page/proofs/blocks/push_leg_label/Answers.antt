use Rattle.chart_page.proofs.PageLemmas.{then_ok, two_steps}
use Rattle.chart_page.proofs.blocks.push_leg_label.Goals as goal

pub returns-in_ok-push_label_open-in-Some : goal.returns-in_ok-push_label_open-in-Some
returns-in_ok-push_label_open-in-Some c =
    rw c.in-Some.is
    (then_ok c.push_trip_label.result _ _
    (λ last. two_steps _ _ _ _ _ _ (rw c.lane_at-lane.ensures at c.in_ok-push_label_open-in-Some.ensures) (rw c.trip_at.ensures at last))
    c.push_trip_label.ensures)
