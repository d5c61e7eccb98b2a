use Rattle.std.proofs.Common.{◌≡◌, ◌++◌, drop}
use Rattle.std.specs.List.{flat_map, enumerate_from}
use Rattle.chart_page.specs.Parts.{written}
use Rattle.chart_page.specs.Duties.{name_at}
use Rattle.chart_page.proofs.duties.push_lane_names.Given as goal

-- what is written so far and what is left to write are the whole
abbrev pub invariant-loop-place : goal.invariant-loop-place
invariant-loop-place l = l.out.items ++ flat_map (λ e. written l.table (name_at l.lanes e)) (enumerate_from l.place (drop l.place l.duties))
    ≡ l.initial.out.items ++ flat_map (λ e. written l.table (name_at l.lanes e)) (enumerate_from 0 l.duties)
