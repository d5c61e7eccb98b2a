use Rattle.std.proofs.Common.{◌≡◌, ◌<◌, Some, drop, length, slice_get}
use Rattle.plan_core.specs.declared.types.Piece.{Piece}
use Rattle.duty_network.specs.Courses.{IsTallying, drive_of}
use Rattle.duty_network.proofs.net.DutyNet.add_after.Given as goal

-- the drives of the pieces that are passed are in the tally
abbrev pub invariant-loop-next : goal.invariant-loop-next
invariant-loop-next l = record {
  limits : l.tally.limits ≡ l.initial.tally.limits;
  there : l.last < length l.self.pieces;
  tallying : (p : Piece) → slice_get l.self.pieces l.first ≡ Some p →
      IsTallying l.self l.first l.rest (drive_of 0 p) l.last (drop l.next-index l.rest) l.tally;
}
