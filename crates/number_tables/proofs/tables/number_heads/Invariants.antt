use Rattle.std.proofs.Common.{◌≡◌, ◌++◌, drop, map}
use Rattle.number_tables.specs.Numbers.{number_head, texts}
use Rattle.number_tables.proofs.tables.number_heads.Given as goal

-- the columns so far and those of the names left are all columns
abbrev pub invariant-loop-name : goal.invariant-loop-name
invariant-loop-name l = l.heads ++ map number_head (texts (drop l.name-index l.names)) ≡ map number_head (texts l.names)
