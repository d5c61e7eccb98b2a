use Rattle.std.proofs.Common.{◌≡◌, ◌++◌, drop}
use Rattle.std.specs.List.{flat_map}
use Rattle.chart_page.specs.Parts.{spelled}
use Rattle.chart_page.proofs.parts.push_parts.Given as goal

-- what is written so far and what is left to write are the whole
abbrev pub invariant-loop-part : goal.invariant-loop-part
invariant-loop-part l =
    l.out.items ++ flat_map (spelled l.table) (drop l.part-index l.parts) ≡ l.initial.out.items ++ flat_map (spelled l.table) l.parts
