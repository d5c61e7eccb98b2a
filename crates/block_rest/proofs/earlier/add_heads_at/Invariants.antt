use Rattle.std.proofs.Common.{◌≡◌, ◌++◌, drop}
use Rattle.block_rest.specs.Heads as spec
use Rattle.block_rest.proofs.earlier.add_heads_at.Given as goal

abbrev pub invariant-loop-block : goal.invariant-loop-block
invariant-loop-block l = l.heads ++ spec.heads_at l.day l.moment (drop l.block-index l.blocks) l.first
    ≡ l.fn.heads ++ spec.heads_at l.day l.moment l.blocks l.first
