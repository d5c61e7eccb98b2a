use Rattle.std.proofs.Common.{◌≡◌, ◌<◌, ℕ, false, length}
use Rattle.std.specs.Prelude.{slice_index_or}
use Rattle.cover_core.specs.Parts.{has_place}
use Rattle.tail_exchange.proofs.exchange.rooms.Given as goal

abbrev pub invariant-loop-class : goal.invariant-loop-class
invariant-loop-class g l = record {
  len : length l.rooms ≡ l.class;
  shown : (k : ℕ) → k < l.class → slice_index_or l.rooms k false ≡ has_place (g.C.Columns.problem l.columns) l.plan k;
}
