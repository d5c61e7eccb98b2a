-- Promise: the trips of a day: the table that the command writes, and why a day has none.
use Rattle.std.specs.Prelude.{◌≡◌, ℕ, ◌<◌, ◌≤◌, List, [], ◌∷◌, length, map, ◌⊎◌, None, Some, IsSomeAnd, slice_index_or}
use Rattle.plan_core.specs.Limits.{most_items}
use Rattle.vdv451_text.specs.declared.table.Field.{Field}
use Rattle.vdv451_text.specs.declared.table.Table.{Table}
use Rattle.vdv451_text.specs.Plain.{text}
use Rattle.vdv452_rows.specs.declared.rows.TripRow.{TripRow}
use Rattle.vdv452_rows.specs.declared.fault.TableFault.{TableFault}
use Rattle.vdv452_rows.specs.declared.fault.TableKind.{TableKind}
use Rattle.vdv452_rows.specs.declared.fault.TableKind.TheVariants as kinds
use Rattle.vdv452_tables.specs.declared.reading.Needs.TheVariants as needs
use Rattle.vdv452_rows.specs.Schema as schema
use Rattle.vdv452_tables.specs.declared.net.Net.{Net}
use Rattle.vdv452_tables.specs.Calendar.{kind_on, net_of, schemas_of, version_on}
use Rattle.vdv452_rows.specs.Rows.{first_fault, table_of}
use Rattle.day_calendar.specs.declared.day.DayKind.{DayKind}
use Rattle.day_calendar.specs.declared.day.DayFault.{DayFault}
use Rattle.day_calendar.specs.declared.day.DayFault.TheVariants as days
use Rattle.day_calendar.specs.Days.{IsCivilDay}
use Rattle.day_calendar.specs.Kinds.{IsKindOf}
use Rattle.day_calendar.specs.DayTrips.{AreDayRows}
use Rattle.planner_run.specs.declared.status.Status.{Status}
use Rattle.planner_run.specs.declared.status.Status.TheVariants as statuses
use Rattle.planner_run.specs.declared.status.InputFault.TheVariants as inputs

-- the rows that stand at these places, in the order of the places
abbrev pub rows_at : List (List Field) → List ℕ → List (List Field)
rows_at rows places = map (λ place. slice_index_or rows place []) places

-- the table with these rows of it alone
abbrev pub picked_table : Table → List ℕ → Table
picked_table table places = record { name = table.name; columns = table.columns; rows = rows_at table.rows places }

-- the tables have no fault, and this is the day type, with the places of its trips among the rows of REC_FRT
pub record IsDayOf (tables : List Table) (day : ℕ) (kind : DayKind) (places : List ℕ) : Type 0 where
  pub faultless : first_fault (schemas_of needs.Calendar) tables ≡ None
  pub kind_is : IsKindOf (net_of needs.Calendar tables) day kind
  pub rows : AreDayRows (net_of needs.Calendar tables).trips kind.version kind.kind places

-- the text of the day's trips: REC_FRT with their rows, unchanged, by departure and number
pub record IsTripsText (tables : List Table) (day : ℕ) (bytes : List ℕ) : Type 0 where
  pub kind : DayKind
  pub places : List ℕ
  pub table : Table
  pub day_is : IsDayOf tables day kind places
  pub few : length places ≤ most_items
  pub found : table_of schema.trips tables ≡ Some table
  pub written : bytes ≡ text (picked_table table places ∷ [])

-- a day has no day type: it is no date, no version is in force, or the calendar lacks it
abbrev pub IsDayFault : Net → ℕ → DayFault → Type 0
IsDayFault net day days.NoDate = ¬ IsCivilDay day
IsDayFault net day days.NoVersion = IsCivilDay day × (version_on net day ≡ None)
IsDayFault net day days.NoDay = IsCivilDay day × IsSomeAnd (version_on net day) (λ version. kind_on net version day ≡ None)

-- the day has so many trips, and they are too many
pub record HasTooMany (tables : List Table) (day count : ℕ) : Type 0 where
  pub kind : DayKind
  pub places : List ℕ
  pub day_is : IsDayOf tables day kind places
  pub many : most_items < length places
  pub count_is : count ≡ length places

-- why the tables are refused for a day
abbrev pub IsDayCause : List Table → ℕ → Status → Type 0
IsDayCause tables day (statuses.Input (inputs.Table fault)) = first_fault (schemas_of needs.Calendar) tables ≡ Some fault
IsDayCause tables day (statuses.Input (inputs.Trips count)) = HasTooMany tables day count
IsDayCause tables day (statuses.Day fault) =
    (first_fault (schemas_of needs.Calendar) tables ≡ None) × IsDayFault (net_of needs.Calendar tables) day fault
IsDayCause tables day _ = ⊥

-- memory ran out, or the tables are refused for the day
abbrev pub IsRefused : List Table → ℕ → Status → Type 0
IsRefused tables day status = (status ≡ statuses.Memory) ⊎ IsDayCause tables day status

-- the status for a fault of the tables of this kind
abbrev pub table_status_of : TableFault → TableKind → Status
table_status_of fault kinds.Memory = statuses.Memory
table_status_of fault kinds.TableTwice = statuses.Input (inputs.Table fault)
table_status_of fault kinds.NoTable = statuses.Input (inputs.Table fault)
table_status_of fault kinds.NoColumn = statuses.Input (inputs.Table fault)
table_status_of fault kinds.NoValue = statuses.Input (inputs.Table fault)
table_status_of fault kinds.Range = statuses.Input (inputs.Table fault)
table_status_of fault kinds.KeyTwice = statuses.Input (inputs.Table fault)

abbrev pub refused_tables : TableFault → Status
refused_tables fault = table_status_of fault fault.kind

-- the day has no day type
abbrev pub IsDayRefusal : Net → ℕ → Status → Type 0
IsDayRefusal net day status = (fault : DayFault) × (status ≡ statuses.Day fault) × IsDayFault net day fault

-- memory ran out, or the day has too many trips
abbrev pub IsCrowdRefusal : List TripRow → ℕ → ℕ → Status → Type 0
IsCrowdRefusal trips version kind status =
    (status ≡ statuses.Memory)
    ⊎ ((places : List ℕ) × AreDayRows trips version kind places × (most_items < length places)
    × (status ≡ statuses.Input (inputs.Trips (length places))))

-- the day type in a network, and the places of its trips, which are not too many
pub record IsDayIn (net : Net) (day : ℕ) (kind : DayKind) (places : List ℕ) : Type 0 where
  pub kind_is : IsKindOf net day kind
  pub rows : AreDayRows net.trips kind.version kind.kind places
  pub few : length places ≤ most_items

-- why a network is refused for a day
abbrev pub IsRefusalIn : Net → ℕ → Status → Type 0
IsRefusalIn net day status =
    IsDayRefusal net day status ⊎ ((kind : DayKind) × IsKindOf net day kind × IsCrowdRefusal net.trips kind.version kind.kind status)
