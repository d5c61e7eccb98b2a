use Rattle.chart_page.proofs.PageLemmas.{flat_step, then_ok, two_steps}
use Rattle.std.specs.List.{enumerate_from}
use Rattle.chart_page.specs.Duties.{name_at}
use Rattle.chart_page.proofs.duties.push_lanes.Goals as goal

pub returns : goal.returns
returns c =
    then_ok c.push_lane_names.result _ _
    (λ last. two_steps _ _ _ _ _ _ c.in_ok-push_bars.ensures
    (two_steps _ _ _ _ _ _ (rw c.len.ensures at c.in_ok-push_scale.ensures)
    (flat_step c.args.table.now (name_at c.args.lanes.now) (enumerate_from 0 c.args.sheet.now.duties) _ _ (rw c.as_slice.ensures at last))))
    c.push_lane_names.ensures
