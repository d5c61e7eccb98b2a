-- Promise: the tables X_MARKE and X_UMARKE, read.
use Rattle.std.specs.Prelude.{◌++◌, ◌∷◌, [], List, Option, Some, None, Result, Ok, if◌then◌else◌}
use Rattle.std.specs.List.{filter_map}
use Rattle.vdv451_text.specs.declared.table.Field.{Field}
use Rattle.vdv451_text.specs.declared.table.Head.{Head}
use Rattle.vdv451_text.specs.declared.table.Table.{Table}
use Rattle.cover_core.specs.declared.marks.Mark.{Mark}
use Rattle.cover_core.specs.declared.marks.BlockMark.{BlockMark}
use Rattle.plan_cert.specs.declared.cert.Pass.{Pass}
use Rattle.plan_cert.specs.declared.cert.Pass.TheVariants.{BlockNumber, BlockCost, DutyNumber, DutyCost}
use Rattle.plan_cert.specs.declared.columns.DutyColumns.{DutyColumns}
use Rattle.plan_cert.specs.declared.columns.BlockColumns.{BlockColumns}
use Rattle.plan_cert.specs.declared.fault.CertTable.TheVariants as which
use Rattle.plan_cert.specs.declared.fault.Place.{Place}
use Rattle.plan_cert.specs.declared.marks.MarkTable.{MarkTable}
use Rattle.plan_cert.specs.declared.marks.PassMark.{PassMark}
use Rattle.plan_cert.specs.declared.marks.PassMarks.{PassMarks}
use Rattle.plan_cert.specs.declared.shape.Shape.{Shape}
use Rattle.plan_cert.specs.Columns.{duty_columns, block_columns}
use Rattle.plan_cert.specs.Entries.{BlockEntry, block_entry, DutyEntry, duty_entry}
use Rattle.plan_cert.specs.Numbers.{same_pass}
use Rattle.plan_cert.specs.Places.{◌>>=◌, first_wrong, needed, no_wrong, table_of}

abbrev pub DutyMarks : Type 0
DutyMarks = PassMarks Mark

abbrev pub BlockMarks : Type 0
BlockMarks = PassMarks BlockMark

-- the tables, with their passes
abbrev pub duty_table : MarkTable
duty_table = record { table = which.DutyMarks; by_number = DutyNumber; by_cost = DutyCost }

abbrev pub block_table : MarkTable
block_table = record { table = which.BlockMarks; by_number = BlockNumber; by_cost = BlockCost }

-- the mark of an entry of a pass
abbrev pub mark_in : {M : Type 0} → Pass → PassMark M → Option M
mark_in pass e = if same_pass e.pass pass then Some e.mark else None

-- the marks of a pass, in the order of their rows
abbrev pub marks_in_pass : {M : Type 0} → Pass → List (PassMark M) → List M
marks_in_pass pass entries = filter_map (mark_in pass) entries

-- the marks of both passes of a table
abbrev pub kept_marks : {M : Type 0} → MarkTable → List (PassMark M) → PassMarks M
kept_marks kept entries = record { of_number = marks_in_pass kept.by_number entries; of_cost = marks_in_pass kept.by_cost entries }

abbrev pub duty_marks : List DutyEntry → DutyMarks
duty_marks entries = kept_marks duty_table entries

abbrev pub block_marks : List BlockEntry → BlockMarks
block_marks entries = kept_marks block_table entries

-- one mark more
abbrev pub put_when : {M : Type 0} → List M → Pass → Pass → M → List M
put_when marks pass own mark = if same_pass own pass then marks ++ mark ∷ [] else marks

abbrev pub with_mark : {M : Type 0} → MarkTable → PassMarks M → PassMark M → PassMarks M
with_mark kept marks e = record {
  of_number = put_when marks.of_number kept.by_number e.pass e.mark;
  of_cost =
      put_when marks.of_cost kept.by_cost e.pass e.mark;
}

-- the marks that rows give, each of which gives one
abbrev pub marks_in : {M : Type 0} → MarkTable → (List Field → Option (PassMark M)) → List (List Field) → Result (PassMarks M) Place
marks_in kept entry rows = do
  none ← no_wrong kept.table (first_wrong entry rows)
  Ok (kept_marks kept (filter_map entry rows))

abbrev pub duty_marks_in : Shape → DutyColumns → List (List Field) → Result DutyMarks Place
duty_marks_in s columns rows = marks_in duty_table (duty_entry s columns) rows

abbrev pub block_marks_in : Shape → BlockColumns → List (List Field) → Result BlockMarks Place
block_marks_in s columns rows = marks_in block_table (block_entry s columns) rows

-- the marks of a table, which stands once and has its columns
abbrev pub marks_of : {C M : Type 0} → MarkTable → (List Head → Option C) → (C → List Field → Option (PassMark M)) →
    List Table → Result (PassMarks M) Place
marks_of kept columns_of entry tables = do
  table ← table_of kept.table tables
  columns ← needed kept.table (columns_of table.columns)
  marks_in kept (entry columns) table.rows

abbrev pub duty_marks_of : Shape → List Table → Result DutyMarks Place
duty_marks_of s tables = marks_of duty_table duty_columns (duty_entry s) tables

abbrev pub block_marks_of : Shape → List Table → Result BlockMarks Place
block_marks_of s tables = marks_of block_table block_columns (block_entry s) tables
