use Rattle.std.proofs.Common.{◌≡◌, length}
use Rattle.lagrangian_climb.specs.Choices.{AreAsked}
use Rattle.climb_rounds.proofs.start.nothing_asked.Given as goal

abbrev pub invariant-loop-class : goal.invariant-loop-class
invariant-loop-class l = record {
  len : length l.asked ≡ l._class;
  asked : AreAsked l.asked;
}
