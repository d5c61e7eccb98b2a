use Rattle.std.proofs.Common.{[], drop, take}
use Rattle.week_check.specs.Denials.{weeks_from}
use Rattle.week_check.proofs.Adding.{Leads}
use Rattle.week_check.proofs.weeks.add_weeks.Given as goal

-- what is denied so far and what is left to look at are the whole
abbrev pub invariant-loop-place : goal.invariant-loop-place
invariant-loop-place l =
    Leads l.initial.out.items l.out.items (weeks_from l.turns (take l.place l.turns) (drop l.place l.turns)) (weeks_from l.turns [] l.turns)
