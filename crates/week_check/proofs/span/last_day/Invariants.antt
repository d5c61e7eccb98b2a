use Rattle.std.proofs.Common.{◌≡◌, ◌≤ℤ◌, All, true, take}
use Rattle.std.specs.Prelude.{◌==◌}
use Rattle.std.specs.List.{list_any}
use Rattle.week_check.specs.declared.turn.Turn.{Turn}
use Rattle.week_check.specs.Days.{IsDutyDay, number_of}
use Rattle.week_check.proofs.span.last_day.Given as goal

-- the day of a duty that is not before those of the duties so far
abbrev pub invariant-loop-turn : goal.invariant-loop-turn
invariant-loop-turn l = record {
  day : IsDutyDay l.last;
  greatest : All (λ (t : Turn). number_of t.day ≤ℤ number_of l.last) (take l.turn-index l.turns);
  there : list_any (λ (t : Turn). t.day == l.last) l.turns ≡ true;
}
