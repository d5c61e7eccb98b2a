use Rattle.std.proofs.Common.{◌≡◌, ◌++◌, drop, map}
use Rattle.cover_core.specs.FirstLeast.{AreCheap}
use Rattle.plan_command.specs.Flow.{block_column}
use Rattle.plan_command.proofs.flow.path_blocks.Given as goal

-- the columns so far stand before those of the other paths, and each is cheap
abbrev pub invariant-loop-path : goal.invariant-loop-path
invariant-loop-path l =
    (map (block_column l.net.day) l.paths ≡ l.columns ++ map (block_column l.net.day) (drop l.path-index l.paths)) × AreCheap l.columns
