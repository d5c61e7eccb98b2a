use Rattle.std.proofs.Common.{ℕ, ◌<◌, List, length, sym, subst, slice_index_or}
use Rattle.day_model.specs.Facts.{DayFacts}
use Rattle.cover_rest.specs.Rest.{body_at}
use Rattle.rest_labels.proofs.Stands.{body-below}
use Rattle.replan_command.specs.Steps.{items_of_blocks}
use Rattle.replan_command.proofs.Problems.{first-there}
use Rattle.replan_command.proofs.blocks.trip_name.Goals as goal

pub trip-requires : goal.trip-requires
trip-requires c =
    let rest = c.args.rest.now in
    let items = items_of_blocks rest in
    let n = length rest.day.trips in
    let P : List ℕ → Type 0 = λ trips. slice_index_or trips 0 0 < n in
    let Q : DayFacts → Type 0 = λ day. slice_index_or c.trips_of.result.now 0 0 < length day.trips in
    subst Q (sym c.day.ensures)
    (subst P (sym c.trips_of.ensures)
    (first-there n (body_at items c.args.item) (body-below n items c.args.item c.requires.stand.below)
    (c.requires.stand.some c.args.item c.requires.item)))
