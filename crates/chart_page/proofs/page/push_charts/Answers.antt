use Rattle.chart_page.proofs.PageLemmas.{then_ok, two_steps}
use Rattle.chart_page.proofs.page.push_charts.Goals as goal

pub returns : goal.returns
returns c =
    then_ok c.push_duty_chart.result _ _ (λ last. two_steps _ _ _ _ _ _ c.in_ok-push_block_chart.ensures
    (two_steps _ _ _ _ _ _ c.in_ok-push_parts.ensures last)) c.push_duty_chart.ensures
