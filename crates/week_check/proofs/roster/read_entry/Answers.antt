use Rattle.std.proofs.Common.{◌≡◌, Some, None, not, sym, ap, ◌∙◌}
use Rattle.vdv452_rows.specs.Rows.{fault}
use Rattle.week_check.specs.declared.entry.Entry.{Entry}
use Rattle.week_check.specs.Roster.{RowFields, columns, entry_of, field_of, fields_at, is_right, kind_of, name_of, roster_name, value_faults, wrong_column}
use Rattle.week_check.proofs.RosterFaults.{first_faulty, none_faulty, refused_at}
use Rattle.week_check.proofs.roster.read_entry.Goals as goal

pub returns-in-Some-clause-wrong : goal.returns-in-Some-clause-wrong
returns-in-Some-clause-wrong c =
    let fields : RowFields = fields_at c.args.places.now c.args.row.now in
    let is : wrong_column (entry_of (fields_at c.args.places.now c.args.row.now)) ≡ Some c.in-Some.column =
    ap (λ (e : Entry). wrong_column e) (sym c.entry_at-entry.ensures) ∙ sym c.wrong_column.ensures ∙ c.in-Some.is in
    let given = rw (c.kind_at-kind.ensures, c.column_name.ensures) at c.fault_of.ensures in
    refused_at (value_faults c.args.number (fields_at c.args.places.now c.args.row.now)) _ c.fault_of.result
    (first_faulty (λ column. not (is_right (entry_of fields) column))
    (λ column. fault (kind_of (field_of fields column)) roster_name (name_of column) c.args.number) columns c.in-Some.column is) given

pub returns-in-None-clause-right : goal.returns-in-None-clause-right
returns-in-None-clause-right c =
    let fields : RowFields = fields_at c.args.places.now c.args.row.now in
    let is : wrong_column (entry_of (fields_at c.args.places.now c.args.row.now)) ≡ None =
    ap (λ (e : Entry). wrong_column e) (sym c.entry_at-entry.ensures) ∙ sym c.wrong_column.ensures ∙ c.in-None.is in
    none_faulty (λ column. not (is_right (entry_of fields) column))
    (λ column. fault (kind_of (field_of fields column)) roster_name (name_of column) c.args.number) columns is
