use Rattle.std.proofs.Common.{◌≡◌, ◌≤◌, ◌<◌, ℕ, length}
use Rattle.duty_network.specs.Duties.{pause_at}
use Rattle.duty_network.specs.Followers.{entry_at, facts}
use Rattle.duty_network.specs.Pauses.{told}
use Rattle.duty_network.proofs.pauses.row_of.Given as goal

-- the pauses of the pieces so far are there
abbrev pub invariant-loop-p : goal.invariant-loop-p
invariant-loop-p l = record {
  within : l.p ≤ l.q;
  count : length l.row ≡ l.p;
  each : (k : ℕ) → k < l.p → told (entry_at l.row k) ≡ pause_at (facts l.pieces l.params) k l.q;
}
