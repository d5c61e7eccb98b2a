use Rattle.std.proofs.Common.{◌≡◌, ◌++◌, drop}
use Rattle.duty_rest.specs.Heads as spec
use Rattle.duty_rest.proofs.earlier.begun_pieces.Given as goal

-- what is there and what is left are all
abbrev pub invariant-loop-piece : goal.invariant-loop-piece
invariant-loop-piece l = record {
  count : l.number ≡ l.piece-index;
  pieces : l.pieces ++ spec.begun_from (drop l.piece-index l.begun) l.parts l.number ≡ spec.begun_from l.begun l.parts 0;
}
