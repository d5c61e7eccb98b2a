use Rattle.std.proofs.Common.{◌≤◌, All, drop, length}
use Rattle.std.specs.List.{flat_map}
use Rattle.week_check.specs.Denials.{findings_of}
use Rattle.week_check.specs.Duties.{IsTurn, drivers_lists, lists_from}
use Rattle.week_check.proofs.Adding.{Leads}
use Rattle.week_check.proofs.drivers.add_drivers.Given as goal

-- what is denied so far and what is left to look at are the whole; the driver's duties so far are of the roster
abbrev pub invariant-loop-turn : goal.invariant-loop-turn
invariant-loop-turn l = record {
  leads : Leads l.initial.out.items l.out.items (flat_map findings_of (lists_from l.current.items (drop l.turn-index l.ordered)))
      (flat_map findings_of (drivers_lists l.ordered));
  each : All IsTurn l.current.items;
  few : length l.current.items ≤ l.turn-index;
}
