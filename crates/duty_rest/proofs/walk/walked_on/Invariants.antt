use Rattle.std.proofs.Common.{◌≡◌, [], ℕ, Some, drop, length}
use Rattle.cover_core.specs.Labels.{label_after}
use Rattle.cover_rest.specs.Rest.{written}
use Rattle.duty_network.specs.Marks.{marking}
use Rattle.duty_network.specs.Ranges.{MarkFits}
use Rattle.duty_rest.proofs.walk.walked_on.Given as goal

-- the items that are passed are walked
abbrev pub invariant-loop-item : goal.invariant-loop-item
invariant-loop-item l = record {
  fits : MarkFits (length l.net.pieces) l.open;
  walked : (class : ℕ) → label_after (marking l.net [] class l.group) (Some l.fn.first) (written l.bodies l.rest) ≡
      label_after (marking l.net [] class l.group) (Some l.open) (written l.bodies (drop l.item-index l.rest));
}
