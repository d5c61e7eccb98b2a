use Rattle.std.proofs.Common.{◌≡◌, ◌++◌, drop}
use Rattle.std.specs.List.{flat_map}
use Rattle.chart_page.specs.Parts.{written}
use Rattle.chart_page.specs.Page.{bound_parts}
use Rattle.chart_page.proofs.page.push_bounds.Given as goal

-- what is written so far and what is left to write are the whole
abbrev pub invariant-loop-row : goal.invariant-loop-row
invariant-loop-row l = l.out.items ++ flat_map (λ row. written l.table (bound_parts row)) (drop l.row-index l.bounds) ≡ l.initial.out.items
    ++ flat_map (λ row. written l.table (bound_parts row)) l.bounds
