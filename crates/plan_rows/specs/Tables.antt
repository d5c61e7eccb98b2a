-- Promise: the tables of a plan, read as rows, or the first place where they are none.
use Rattle.std.specs.Prelude.{◌≡◌, ℕ, ◌+◌, nat_lt, List, length, Option, Some, None, Result, Ok, Err, is_none, position, if◌then◌else◌}
use Rattle.std.specs.List.{filter_map}
use Rattle.std.specs.Borrow.{Bor}
use Rattle.plan_core.specs.Limits.{most_items}
use Rattle.vdv451_text.specs.declared.table.Field.{Field}
use Rattle.vdv451_text.specs.declared.table.Head.{Head}
use Rattle.vdv451_text.specs.declared.table.Table.{Table}
use Rattle.number_tables.specs.Single.{single_in}
use Rattle.plan_rows.specs.declared.fault.PlanTable.{PlanTable}
use Rattle.plan_rows.specs.declared.fault.PlanTable.TheVariants as which
use Rattle.plan_rows.specs.declared.fault.Place.{Place}
use Rattle.plan_rows.specs.declared.fault.RowFault.{RowFault}
use Rattle.plan_rows.specs.declared.fault.RowFault.TheVariants.{Form, Memory}
use Rattle.plan_rows.specs.declared.sheet.BlockSheet.{BlockSheet}
use Rattle.plan_rows.specs.declared.sheet.DutySheet.{DutySheet}
use Rattle.plan_rows.specs.declared.sheet.Sheet.{Sheet}
use Rattle.plan_rows.specs.declared.rows.TripRow.{TripRow}
use Rattle.plan_rows.specs.declared.rows.VehicleRow.{VehicleRow}
use Rattle.plan_rows.specs.declared.rows.BlockRow.{BlockRow}
use Rattle.plan_rows.specs.declared.rows.LegRow.{LegRow}
use Rattle.plan_rows.specs.declared.rows.DutyRow.{DutyRow}
use Rattle.plan_rows.specs.declared.rows.PieceRow.{PieceRow}
use Rattle.plan_rows.specs.declared.rows.BoundRow.{BoundRow}
use Rattle.plan_rows.specs.Names.{name_of}
use Rattle.plan_rows.specs.Rows.{trip_of, vehicle_of, block_of, leg_of, duty_of, piece_of, bound_of}

-- what is made of an answer
infixl 10 ◌>>=◌
abbrev pub ◌>>=◌ : {A B : Type 0} → Result A Place → (A → Result B Place) → Result B Place
(Ok x) >>= f = f x
(Err e) >>= f = Err e

-- what a function answered is what reading gives, unless memory ran out
abbrev pub Gives : {A : Type 0} → Result A RowFault → Result A Place → Type 0
Gives (Ok x) read = read ≡ Ok x
Gives (Err (Form place)) read = read ≡ Err place
Gives (Err Memory) read = Unit {0}

-- the same of an answer that stands behind a reference
abbrev pub GivesTable : Result (Bor Table) RowFault → Result Table Place → Type 0
GivesTable (Ok x) read = read ≡ Ok x.now
GivesTable (Err (Form place)) read = read ≡ Err place
GivesTable (Err Memory) read = Unit {0}

abbrev pub place : PlanTable → ℕ → Place
place table row = record { table = table; row = row }

-- the table of a name, where it stands once
abbrev pub table_in : PlanTable → List Table → Option Table
table_in t tables = single_in (name_of t) tables

-- A table stands once, and has at most so many rows.
abbrev pub few_rows : PlanTable → ℕ → Option Table → Result Table Place
few_rows t most None = Err (place t 0)
few_rows t most (Some table) = if nat_lt most (length table.rows) then Err (place t (most + 1)) else Ok table

abbrev pub table_of : PlanTable → ℕ → List Table → Result Table Place
table_of t most tables = few_rows t most (table_in t tables)

-- No row says nothing.
abbrev pub no_wrong : PlanTable → Option ℕ → Result (Unit {0}) Place
no_wrong t None = Ok tt
no_wrong t (Some row) = Err (place t (row + 1))

-- where the first row stands that says nothing
abbrev pub first_wrong : {A : Type 0} → (List Field → Option A) → List (List Field) → Option ℕ
first_wrong entry rows = position (λ row. is_none (entry row)) rows

-- what each row of a table says
abbrev pub said_of : {A : Type 0} → PlanTable → (List Field → Option A) → List (List Field) → Result (List A) Place
said_of t entry rows = do
  none ← no_wrong t (first_wrong entry rows)
  Ok (filter_map entry rows)

-- what each row of the table of a name says
abbrev pub rows_of : {A : Type 0} → PlanTable → ℕ → (List Head → List Field → Option A) → List Table → Result (List A) Place
rows_of t most entry tables = do
  table ← table_of t most tables
  said_of t (entry table.columns) table.rows

abbrev pub trips_of : List Table → Result (List TripRow) Place
trips_of tables = rows_of which.Trips most_items trip_of tables

abbrev pub vehicles_of : List Table → Result (List VehicleRow) Place
vehicles_of tables = rows_of which.Vehicles most_items vehicle_of tables

abbrev pub blocks_of : List Table → Result (List BlockRow) Place
blocks_of tables = rows_of which.Blocks most_items block_of tables

abbrev pub legs_of : List TripRow → List BlockRow → List Table → Result (List LegRow) Place
legs_of trips blocks tables = rows_of which.Legs 30000 (leg_of trips blocks) tables

abbrev pub duties_of : List Table → Result (List DutyRow) Place
duties_of tables = rows_of which.Duties most_items duty_of tables

abbrev pub pieces_of : List DutyRow → List Table → Result (List PieceRow) Place
pieces_of duties tables = rows_of which.Pieces most_items (piece_of duties) tables

abbrev pub bounds_of : List Table → Result (List BoundRow) Place
bounds_of tables = rows_of which.Bounds 4 bound_of tables

abbrev pub block_sheet_of : List Table → Result BlockSheet Place
block_sheet_of tables = do
  trips ← trips_of tables
  vehicles ← vehicles_of tables
  blocks ← blocks_of tables
  legs ← legs_of trips blocks tables
  Ok (record { trips = trips; vehicles = vehicles; blocks = blocks; legs = legs })

abbrev pub duty_sheet_of : List Table → Result DutySheet Place
duty_sheet_of tables = do
  duties ← duties_of tables
  pieces ← pieces_of duties tables
  bounds ← bounds_of tables
  Ok (record { duties = duties; pieces = pieces; bounds = bounds })

-- What the tables of a plan say, or the first place where they say nothing: table by table, of each first the table as a whole.
abbrev pub sheet_of : List Table → Result Sheet Place
sheet_of tables = do
  blocks ← block_sheet_of tables
  duties ← duty_sheet_of tables
  Ok (record { blocks = blocks; duties = duties })
