use Rattle.chart_page.proofs.PageLemmas.{then_ok, two_steps}
use Rattle.chart_page.proofs.duties.push_piece.Goals as goal

pub returns : goal.returns
returns c =
    then_ok c.push_piece_label.result _ _
    (λ last. two_steps _ _ _ _ _ _ c.in_ok-push_piece_name.ensures
    (two_steps _ _ _ _ _ _ c.in_ok-push_ends.ensures
    (two_steps _ _ _ _ _ _ c.in_ok-push_piece_driving.ensures
    (two_steps _ _ _ _ _ _ (rw c.lane_at.ensures at c.in_ok-push_label_open.ensures) last)))) c.push_piece_label.ensures
