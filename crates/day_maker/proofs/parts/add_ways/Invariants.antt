use Rattle.std.proofs.Common.{◌≡◌, ◌++◌, drop}
use Rattle.day_maker.specs.Made.{rows_of, way_rows}
use Rattle.day_maker.proofs.parts.add_ways.Given as goal

-- the rows so far stand before those of the ways left
abbrev pub invariant-loop-to : goal.invariant-loop-to
invariant-loop-to l = l.fn.rows ++ rows_of (way_rows l.deadhead l.from l.tos)
    ≡ l.rows ++ rows_of (way_rows l.deadhead l.from (drop l.to-index l.tos))
