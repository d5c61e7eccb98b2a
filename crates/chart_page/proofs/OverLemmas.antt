-- A page over the hours of its sheet.
use Rattle.std.proofs.Common.{◌≡◌, ℕ, List, ap, ◌∙◌}
use Rattle.vdv451_text.specs.declared.table.Table.{Table}
use Rattle.plan_rows.specs.declared.sheet.Sheet.{Sheet}
use Rattle.chart_page.specs.declared.layout.Hours.{Hours}
use Rattle.chart_page.specs.Frame.{starts_of}
use Rattle.chart_page.specs.Layout.{hours_of}
use Rattle.chart_page.specs.Page.{page_over, page_parts}
use Rattle.chart_page.specs.Parts.{written}

pub page_so : (table : Table) (sheet : Sheet) (hours : Hours) (starts out : List ℕ) → hours ≡ hours_of sheet → starts ≡ starts_of hours →
    out ≡ written table (page_over sheet hours starts) → out ≡ written table (page_parts sheet)
page_so table sheet hours starts out same begins is =
    is ∙ ap (λ (s : List ℕ). written table (page_over sheet hours s)) begins
    ∙ ap (λ (h : Hours). written table (page_over sheet h (starts_of h))) same
