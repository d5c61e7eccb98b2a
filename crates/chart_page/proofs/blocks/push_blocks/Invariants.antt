use Rattle.std.proofs.Common.{◌≡◌, ◌++◌, drop}
use Rattle.std.specs.List.{flat_map, enumerate_from}
use Rattle.chart_page.specs.Parts.{written}
use Rattle.chart_page.specs.Blocks.{block_at}
use Rattle.chart_page.proofs.blocks.push_blocks.Given as goal

-- what is written so far and what is left to write are the whole
abbrev pub invariant-loop-place : goal.invariant-loop-place
invariant-loop-place l =
    l.out.items ++ flat_map (λ e. written l.table (block_at l.vehicles l.lanes e)) (enumerate_from l.place (drop l.place l.blocks))
    ≡ l.initial.out.items ++ flat_map (λ e. written l.table (block_at l.vehicles l.lanes e)) (enumerate_from 0 l.blocks)
