use Rattle.std.proofs.Common.{◌∙◌}
use Rattle.chart_page.proofs.OverLemmas.{page_so}
use Rattle.chart_page.proofs.page.page.Goals as goal

pub returns : goal.returns
returns c =
    page_so c.args.table.now c.args.sheet.now c.hours_of-hours.result c.as_slice.result.now _ c.hours_of-hours.ensures.value
    (c.as_slice.ensures.value ∙ c.in_ok-starts.ensures) (rw c.new-out.ensures.items at c.in_ok-push_page.ensures)
