use Rattle.std.proofs.Common.{◌≡◌, ◌++◌, ◌-◌, length}
use Rattle.block_rest.specs.Heads as spec
use Rattle.block_rest.proofs.earlier.heads.Given as goal

abbrev pub invariant-loop-first : goal.invariant-loop-first
invariant-loop-first l =
    l.heads ++ spec.heads_from l.day l.moment l.blocks (length l.day.trips - l.first) l.first ≡ spec.heads_of l.day l.moment l.blocks
