use Rattle.std.proofs.Common.{◌≡◌, ◌+◌, ◌-◌, ◌<◌, ◌≤◌, ◌++◌, List, ℕ, drop, length, IfSome, vec_len}
use Rattle.input_files.proofs.transfer.read_pieces.Given as goal

-- what is read so far and what stands behind it are what the file holds
abbrev pub invariant-loop-count : goal.invariant-loop-count
invariant-loop-count g l = record {
  bound : vec_len l.bytes ≤ l.most;
  front : IfSome (g.F.Files.held l.fn.files l.name) (λ held. l.bytes.items ++ drop (vec_len l.bytes) held ≡ held);
  later : (other : List ℕ) → g.F.Files.faults l.fn.files other ≤ g.F.Files.faults l.files other;
  same : (other : List ℕ) → g.F.Files.held l.files other ≡ g.F.Files.held l.fn.files other;
  quiet : (other : List ℕ) → g.F.Files.faults l.files other ≡ g.F.Files.faults l.fn.files other;
  buffer : 0 < length l.buffer;
}

abbrev pub decreases-loop-count : goal.decreases-loop-count
decreases-loop-count g l = l.most + 1 - vec_len l.bytes
