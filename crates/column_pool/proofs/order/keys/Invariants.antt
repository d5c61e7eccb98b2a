use Rattle.std.proofs.Common.{◌≡◌, ◌++◌, drop}
use Rattle.column_pool.specs.Keys.{keys_from, keys_of}
use Rattle.column_pool.proofs.order.keys.Given as goal

abbrev pub invariant-loop-place : goal.invariant-loop-place
invariant-loop-place l = keys_of l.prices.items l.pool ≡ l.keys.items ++ keys_from l.prices.items l.place (drop l.place l.pool)
