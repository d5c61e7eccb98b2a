use Rattle.std.proofs.Common.{◌≡◌, length, take}
use Rattle.label_region.proofs.block.copy_labels.Given as goal

abbrev pub invariant-loop-index : goal.invariant-loop-index
invariant-loop-index g l = record { same : take l.index l.to ≡ take l.index l.from; count : length l.to ≡ length l.initial.to }
