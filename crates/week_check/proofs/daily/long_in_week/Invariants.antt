use Rattle.std.proofs.Common.{◌≡◌, ◌≤◌, take, length, filter}
use Rattle.week_check.specs.Denials.{is_long_in}
use Rattle.week_check.proofs.daily.long_in_week.Given as goal

-- the duties of the week so far that have more than nine hours
abbrev pub invariant-loop-turn : goal.invariant-loop-turn
invariant-loop-turn l = record {
  count : l.count ≡ length (filter (is_long_in l.monday) (take l.turn-index l.turns));
  few : l.count ≤ l.turn-index;
}
