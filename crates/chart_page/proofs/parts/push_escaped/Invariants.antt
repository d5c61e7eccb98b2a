use Rattle.std.proofs.Common.{◌≡◌, ◌++◌, drop}
use Rattle.std.specs.List.{flat_map}
use Rattle.chart_page.specs.Parts.{escaped_byte}
use Rattle.chart_page.proofs.parts.push_escaped.Given as goal

-- what is written so far and what is left to write are the whole
abbrev pub invariant-loop-byte : goal.invariant-loop-byte
invariant-loop-byte l =
    l.out.items ++ flat_map escaped_byte (drop l.byte-index l.text) ≡ l.initial.out.items ++ flat_map escaped_byte l.text
