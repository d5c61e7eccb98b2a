use Rattle.std.proofs.Common.{◌≤◌, length}
use Rattle.offer_estimate.specs.Scales.{IsScale}
use Rattle.offer_estimate.specs.Estimates.{IsFirstGreatest, guesses}
use Rattle.offer_estimate.proofs.guessing.best_guess.Given as goal

abbrev pub invariant-loop-class : goal.invariant-loop-class
invariant-loop-class l = record {
  order : l.class ≤ length l.caps;
  best : IsFirstGreatest (guesses l.sum l.least l.worths l.caps l.class) l.best;
  scale : IsScale l.best.scale;
}
