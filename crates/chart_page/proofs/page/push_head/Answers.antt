use Rattle.chart_page.proofs.PageLemmas.{flat_step, then_ok, two_steps}
use Rattle.chart_page.specs.Page.{bound_parts}
use Rattle.chart_page.proofs.page.push_head.Goals as goal

pub returns : goal.returns
returns c =
    then_ok c.push_parts-2.result _ _
    (λ last. two_steps _ _ _ _ _ _ c.in_ok-push_parts.ensures
    (two_steps _ _ _ _ _ _ (flat_step c.args.table.now bound_parts
    c.args.sheet.now.duties.bounds _ _ (rw c.as_slice.ensures at c.in_ok-push_bounds.ensures)) last)) c.push_parts-2.ensures
