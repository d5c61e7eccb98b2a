use Rattle.chart_page.proofs.PageLemmas.{then_ok, two_steps}
use Rattle.chart_page.proofs.page.push_page.Goals as goal

pub returns : goal.returns
returns c =
    then_ok c.push_parts.result _ _ (λ last. two_steps _ _ _ _ _ _ c.in_ok-push_head.ensures
    (two_steps _ _ _ _ _ _ c.in_ok-push_charts.ensures last)) c.push_parts.ensures
