use Rattle.chart_page.proofs.PageLemmas.{flat_step, then_ok, two_steps}
use Rattle.chart_page.specs.Frame.{hour_name}
use Rattle.chart_page.proofs.frame.push_scale.Goals as goal

pub returns : goal.returns
returns c =
    then_ok c.push_names_open.result _ _
    (λ last. two_steps _ _ _ _ _ _ c.in_ok-push_hours_open.ensures
    (two_steps _ _ _ _ _ _ (flat_step c.args.table.now (hour_name c.args.hours.first) c.args.starts.now _ _ c.in_ok-push_hours.ensures)
    last))
    c.push_names_open.ensures
