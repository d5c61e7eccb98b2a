use Rattle.std.proofs.Common.{◌≡◌, ◌++◌, drop}
use Rattle.std.specs.List.{flat_map}
use Rattle.chart_page.specs.Parts.{written}
use Rattle.chart_page.specs.Frame.{grid_line}
use Rattle.chart_page.proofs.frame.push_grid.Given as goal

-- what is written so far and what is left to write are the whole
abbrev pub invariant-loop-hour : goal.invariant-loop-hour
invariant-loop-hour l = l.out.items ++ flat_map (λ hour. written l.table (grid_line l.rows hour)) (drop l.hour-index l.hours)
    ≡ l.initial.out.items ++ flat_map (λ hour. written l.table (grid_line l.rows hour)) l.hours
