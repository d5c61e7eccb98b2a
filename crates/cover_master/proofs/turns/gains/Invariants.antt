use Rattle.std.proofs.Common.{◌≡◌, ◌++◌, drop}
use Rattle.std.specs.Prelude.{filter}
use Rattle.cover_master.specs.Method.{keys_from, keys_of}
use Rattle.cover_master.specs.Fitting.{is_gain}
use Rattle.cover_master.proofs.turns.gains.Given as goal

abbrev pub invariant-loop-place : goal.invariant-loop-place
invariant-loop-place l =
    filter is_gain (keys_of l.prices.items l.pool) ≡ l.keys.items ++ filter is_gain (keys_from l.prices.items l.place (drop l.place l.pool))
