use Rattle.std.proofs.Common.{[], drop, take}
use Rattle.week_check.specs.Denials.{rests_from}
use Rattle.week_check.proofs.Adding.{Leads}
use Rattle.week_check.proofs.rests.add_rests.Given as goal

-- what is denied so far and what is left to look at are the whole
abbrev pub invariant-loop-place : goal.invariant-loop-place
invariant-loop-place l =
    Leads l.initial.out.items l.out.items (rests_from l.driver (take l.place l.rests) (drop l.place l.rests))
    (rests_from l.driver [] l.rests)
