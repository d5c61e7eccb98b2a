use Rattle.std.proofs.Common.{◌≡◌, ◌+◌, drop}
use Rattle.duty_rest.specs.Heads as spec
use Rattle.duty_rest.proofs.begun_parts.block_with.Given as goal

-- what is there and what is left are all
abbrev pub invariant-loop-block : goal.invariant-loop-block
invariant-loop-block l = record {
  count : l.number ≡ l.block-index + 1;
  left : spec.block_with l.blocks 1 l.trip ≡ spec.block_with (drop l.block-index l.blocks) l.number l.trip;
}
