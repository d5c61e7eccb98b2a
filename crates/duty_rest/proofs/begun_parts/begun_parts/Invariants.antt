use Rattle.std.proofs.Common.{◌≡◌, ◌++◌, drop}
use Rattle.duty_rest.specs.Heads as spec
use Rattle.duty_rest.proofs.begun_parts.begun_parts.Given as goal

-- what is there and what is left are all
abbrev pub invariant-loop-piece : goal.invariant-loop-piece
invariant-loop-piece l = l.parts ++ spec.begun_parts l.blocks l.earlier l.moment (drop l.piece-index l.pieces)
    ≡ spec.begun_parts l.blocks l.earlier l.moment l.pieces
