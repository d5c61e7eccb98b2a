use Rattle.std.proofs.Common.{◌≡◌, ◌≤◌, ℕ, suc, length, take}
use Rattle.cover_core.specs.Parts.{column_at}
use Rattle.column_pool.specs.Pools.{is_known}
use Rattle.column_pool.specs.Buckets.{bucket_in}
use Rattle.column_pool.proofs.buckets.is_known.Given as goal

abbrev pub invariant-loop-place : goal.invariant-loop-place
invariant-loop-place l = record {
  bound : l.place ≤ length l.columns;
  here : (k : ℕ) → l.place ≡ suc k → bucket_in (column_at l.columns k) ≡ bucket_in l.column;
  rest : is_known l.columns l.column ≡ is_known (take l.place l.columns) l.column;
}

abbrev pub decreases-loop-place : goal.decreases-loop-place
decreases-loop-place l = l.place
