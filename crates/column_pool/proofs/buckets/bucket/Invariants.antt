use Rattle.std.proofs.Common.{◌≡◌, ◌<◌, ◌^◌, take, fold}
use Rattle.column_pool.specs.Buckets.{mixed}
use Rattle.column_pool.proofs.buckets.bucket.Given as goal

abbrev pub invariant-loop-item : goal.invariant-loop-item
invariant-loop-item l = record {
  hash : l.hash ≡ fold mixed l.class (take l.item-index l.list);
  small : l.hash < 2 ^ 32;
}
