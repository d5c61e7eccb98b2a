use Rattle.std.proofs.Common.{◌≡◌, drop}
use Rattle.duty_rest.specs.Heads as spec
use Rattle.duty_rest.proofs.earlier.has_begun.Given as goal

-- what is there and what is left are all
abbrev pub invariant-loop-piece : goal.invariant-loop-piece
invariant-loop-piece l = spec.has_begun l.begun l.part ≡ spec.has_begun (drop l.piece-index l.begun) l.part
