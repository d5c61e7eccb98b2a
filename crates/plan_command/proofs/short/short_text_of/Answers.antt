use Rattle.std.proofs.Common.{List, [], ◌∷◌, length, arith, ap, ◌∙◌}
use Rattle.plan_core.specs.declared.types.Piece.{Piece}
use Rattle.trip_times.specs.declared.trip.Trip.{Trip}
use Rattle.vdv451_text.specs.declared.table.Table.{Table}
use Rattle.block_cut.specs.Cuts.{pieces_of_plan}
use Rattle.plan_command.specs.Planning.{side_of}
use Rattle.plan_command.specs.ShortText.{count_table, short_tables}
use Rattle.plan_command.proofs.Printing.{few_duties, text_of_tables}
use Rattle.plan_command.proofs.short.short_text_of.Goals as goal

pub count_table-requires-clause-duties : goal.count_table-requires-clause-duties
count_table-requires-clause-duties c =
    let few = few_duties c.args.model.now c.args.plan.blocks.plan.columns c.args.plan.duties.plan.columns c.requires.printable.few_pieces
    c.requires.printable.duties_are in
    let count = c.len-3.ensures in
    omega (arith, few, count)

pub returns : goal.returns
returns c =
    let facts = c.args.model.now in
    let blocks = side_of c.args.plan.blocks in
    let duties = side_of c.args.plan.duties in
    let pieces = length (pieces_of_plan facts blocks.columns) in
    let counts = c.in_ok-counts.ensures.table
    ∙ ap (λ n. count_table n c.len.result c.len-2.result c.len-3.result) (ap (λ (trips : List Trip). length trips) c.trips.ensures.trips)
    ∙ ap (λ n. count_table (length facts.trips) n c.len-2.result c.len-3.result) c.len.ensures
    ∙ ap (λ n. count_table (length facts.trips) (length blocks.columns) n c.len-3.result)
    (c.len-2.ensures ∙ ap (λ (pieces : List Piece). length pieces) c.requires.pieces)
    ∙ ap (λ n. count_table (length facts.trips) (length blocks.columns) pieces n) c.len-3.ensures in
    text_of_tables c.write_tables.result (c.in_ok-counts.counts ∷ c.in_ok-bounds.bounds ∷ []) (short_tables facts blocks duties)
    c.write_tables.ensures.spelling
    (ap (λ (table : Table). table ∷ c.in_ok-bounds.bounds ∷ []) counts
    ∙ ap (λ (table : Table). count_table (length facts.trips) (length blocks.columns) pieces (length duties.columns) ∷ table ∷ [])
    c.in_ok-bounds.ensures.table)
