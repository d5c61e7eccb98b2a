use Rattle.chart_page.proofs.PageLemmas.{flat_step, then_ok, two_steps}
use Rattle.chart_page.specs.Frame.{grid_line}
use Rattle.chart_page.proofs.frame.push_frame.Goals as goal

pub returns : goal.returns
returns c =
    then_ok c.push_grid.result _ _
    (λ last. two_steps _ _ _ _ _ _ c.in_ok-push_open.ensures
    (two_steps _ _ _ _ _ _ c.in_ok-push_lanes.ensures (flat_step c.args.table.now (grid_line c.args.rows) c.args.starts.now _ _ last)))
    c.push_grid.ensures
