use Rattle.std.proofs.Common.{◌≡◌, ap, ◌∙◌, rules}
use Rattle.vdv451_text.specs.declared.table.Table.{Table}
use Rattle.vdv451_text.specs.Plain.{is_plain_table}
use Rattle.umlauf_write.specs.Trips.{found_table}
use Rattle.umlauf_write.proofs.FoundPlain.{found_table_plain}
use Rattle.umlauf_write.proofs.trips.found_table.Goals as goal

pub returns-clause-plain : goal.returns-clause-plain
returns-clause-plain c =
    let made : Table = record {
      name = c.in_ok-clone.field-0;
      columns = c.in_ok-copied_columns.field-0;
      rows =
          c.in_ok-found_rows.field-0;
    } in
    let is : made ≡ found_table c.args.day.now c.args.table.now c.args.blocks.now = search rules in
    ap is_plain_table is ∙ found_table_plain c.args.day.now c.args.table.now c.args.blocks.now c.requires.plain
    c.requires.few c.requires.one
