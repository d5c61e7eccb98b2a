use Rattle.std.proofs.Common.{◌≡◌, ◌≤◌, ℕ, List, length}
use Rattle.std.specs.Prelude.{Some, slice_get}
use Rattle.duty_network.specs.Followers.{facts}
use Rattle.duty_network.specs.Pauses.{IsPauseRow}
use Rattle.duty_network.proofs.pauses.pauses_of.Given as goal

-- the pauses before each of the pieces so far are there
abbrev pub invariant-loop-q : goal.invariant-loop-q
invariant-loop-q l = record {
  within : l.q ≤ length l.pieces;
  count : length l.rows.items ≡ l.q;
  each : (q : ℕ) (row : List ℕ) → slice_get l.rows.items q ≡ Some row → IsPauseRow (facts l.pieces l.params) q row;
}
