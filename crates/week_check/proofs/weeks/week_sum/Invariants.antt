use Rattle.std.proofs.Common.{◌≡◌, ◌≤◌, ◌*◌, take}
use Rattle.std.specs.Prelude.{sum_by}
use Rattle.week_check.specs.Denials.{driving_in}
use Rattle.week_check.proofs.weeks.week_sum.Given as goal

-- the driving of the duties so far
abbrev pub invariant-loop-turn : goal.invariant-loop-turn
invariant-loop-turn l = record {
  sum : l.sum ≡ sum_by (driving_in l.monday) (take l.turn-index l.turns);
  few : l.sum ≤ 172800 * l.turn-index;
}
