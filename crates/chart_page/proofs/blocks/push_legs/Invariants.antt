use Rattle.std.proofs.Common.{◌≡◌, ◌++◌, drop}
use Rattle.std.specs.List.{flat_map}
use Rattle.chart_page.specs.Parts.{written}
use Rattle.chart_page.specs.Blocks.{leg_parts}
use Rattle.chart_page.proofs.blocks.push_legs.Given as goal

-- what is written so far and what is left to write are the whole
abbrev pub invariant-loop-leg : goal.invariant-loop-leg
invariant-loop-leg l = l.out.items ++ flat_map (λ leg. written l.table (leg_parts l.trips l.lanes leg)) (drop l.leg-index l.legs)
    ≡ l.initial.out.items ++ flat_map (λ leg. written l.table (leg_parts l.trips l.lanes leg)) l.legs
