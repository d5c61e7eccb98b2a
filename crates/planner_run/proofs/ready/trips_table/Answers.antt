use Rattle.std.proofs.Common.{◌≡◌, Some, List, ap, subst, ◌∙◌, slice_index_or}
use Rattle.std.proofs.lemmas.Option.{get_or_from_slice_get}
use Rattle.vdv451_text.specs.declared.table.Table.{Table}
use Rattle.vdv452_rows.specs.Schema as schema
use Rattle.vdv452_rows.specs.Rows.{table_of}
use Rattle.planner_run.proofs.TripLemmas.{all_trips_there, not_missing}
use Rattle.planner_run.proofs.ready.trips_table.Goals as goal

pub trips_place-place-requires : goal.trips_place-place-requires
trips_place-place-requires c =
    let there = all_trips_there c.args.tables c.requires in rw c.as_slice.ensures (not_missing c.args.tables there.0 there.1)

pub returns : goal.returns
returns c =
    let table = c.only_table.result in
    let P : List Table → Type 0 = λ ts. table_of schema.trips ts ≡ Some (slice_index_or ts c.trips_place-place.result table) in
    subst P c.as_slice.ensures (c.trips_place-place.ensures.found table)
    ∙ ap (λ t. Some t) (get_or_from_slice_get c.args.tables c.trips_place-place.result table table c.only_table.ensures)
