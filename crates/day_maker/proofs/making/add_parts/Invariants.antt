use Rattle.std.proofs.Common.{◌≡◌, ◌++◌, drop, map}
use Rattle.day_maker.specs.Made.{part_table}
use Rattle.day_maker.proofs.making.add_parts.Given as goal

-- the tables so far stand before those of the parts left
abbrev pub invariant-loop-part : goal.invariant-loop-part
invariant-loop-part l = l.fn.tables ++ map part_table l.parts ≡ l.tables ++ map part_table (drop l.part-index l.parts)
