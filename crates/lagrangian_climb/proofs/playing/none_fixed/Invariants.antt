use Rattle.std.proofs.Common.{◌≡◌, drop}
use Rattle.lagrangian_climb.specs.Choices.{none_fixed}
use Rattle.lagrangian_climb.proofs.playing.none_fixed.Given as goal

abbrev pub invariant-loop-item : goal.invariant-loop-item
invariant-loop-item l = none_fixed l.fixed l.list ≡ none_fixed l.fixed (drop l.item-index l.list)
