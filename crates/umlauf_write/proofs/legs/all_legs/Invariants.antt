use Rattle.std.proofs.Common.{◌≡◌, ◌+◌, ◌++◌, drop}
use Rattle.number_tables.specs.Signed.{signed_rows}
use Rattle.umlauf_write.specs.Answers.{all_rows, leg_rows}
use Rattle.umlauf_write.proofs.legs.all_legs.Given as goal

-- the rows so far stand before those of the other blocks
abbrev pub invariant-loop-block : goal.invariant-loop-block
invariant-loop-block l =
    signed_rows (all_rows (leg_rows l.trips) 1 l.blocks)
    ≡ l.rows ++ signed_rows (all_rows (leg_rows l.trips) (1 + l.block) (drop l.block l.blocks))
