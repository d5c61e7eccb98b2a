use Rattle.std.proofs.Common.{◌≡◌, ◌++◌, drop, map}
use Rattle.day_maker.specs.Made.{head_of, texts}
use Rattle.day_maker.proofs.tables.heads.Given as goal

-- the columns so far and those of the names left are all columns
abbrev pub invariant-loop-name : goal.invariant-loop-name
invariant-loop-name l = l.heads ++ map head_of (texts (drop l.name-index l.names)) ≡ map head_of (texts l.names)
