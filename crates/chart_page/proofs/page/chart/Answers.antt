use Rattle.std.proofs.Common.{◌∙◌}
use Rattle.chart_page.proofs.BarLemmas.{drawn_of}
use Rattle.chart_page.proofs.page.chart.Goals as goal

pub returns-clause-drawn : goal.returns-clause-drawn
returns-clause-drawn c =
    drawn_of c.args.tables.now c.in-Ok.table.now c.in_ok-sheet.sheet _ c.in-Ok.ensures c.in_ok-sheet.ensures
    (c.from_vec.ensures ∙ c.in_ok-page.ensures)
