use Rattle.std.proofs.Common.{◌≡◌, [], ℕ, Some, drop, length}
use Rattle.cover_core.specs.Labels.{label_after}
use Rattle.duty_network.specs.Marks.{marking}
use Rattle.duty_network.specs.Ranges.{MarkFits}
use Rattle.duty_rest.proofs.walk.mark_with_pieces.Given as goal

-- the pieces that are passed are walked
abbrev pub invariant-loop-piece : goal.invariant-loop-piece
invariant-loop-piece l = record {
  fits : MarkFits (length l.net.pieces) l.open;
  walked : (class : ℕ) → label_after (marking l.net [] class l.group) (Some l.fn.first) l.rest
      ≡ label_after (marking l.net [] class l.group) (Some l.open) (drop l.piece-index l.rest);
}
