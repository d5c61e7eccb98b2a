use Rattle.std.proofs.Common.{sym, ◌∙◌}
use Rattle.planner_run.proofs.TripLemmas.{none_behind}
use Rattle.planner_run.proofs.trips.trips_place.Goals as goal

pub unreachable-requires : goal.unreachable-requires
unreachable-requires c =
    c.requires (sym c.loop-place.invariant.left ∙ none_behind _ c.args.tables.now c.loop-place.place c.loop-place-test.false)
