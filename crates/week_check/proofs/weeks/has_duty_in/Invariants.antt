use Rattle.std.proofs.Common.{◌≡◌, take, false}
use Rattle.std.specs.List.{list_any}
use Rattle.week_check.specs.Denials.{is_in_week}
use Rattle.week_check.proofs.weeks.has_duty_in.Given as goal

-- no duty so far is in the week
abbrev pub invariant-loop-turn : goal.invariant-loop-turn
invariant-loop-turn l = list_any (is_in_week l.monday) (take l.turn-index l.turns) ≡ false
