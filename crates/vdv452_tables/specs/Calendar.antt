-- Promise: the rows of a network, and the version and the day type of a day.
use Rattle.std.specs.Prelude.{◌≡◌, ◌≤◌, ℕ, All, Contains, ◌==◌, ◌&&◌, nat_le, nat_lt, List, [], ◌∷◌, ◌++◌, Option, Some, None, if◌then◌else◌, filter}
use Rattle.std.specs.Option.{option_map}
use Rattle.std.specs.List.{find}
use Rattle.vdv451_text.specs.declared.table.Table.{Table}
use Rattle.vdv452_rows.specs.declared.cell.Cell.{Cell}
use Rattle.vdv452_rows.specs.declared.rows.VersionRow.{VersionRow}
use Rattle.vdv452_rows.specs.declared.rows.CalendarRow.{CalendarRow}
use Rattle.vdv452_rows.specs.declared.schema.Schema.{Schema}
use Rattle.vdv452_tables.specs.declared.reading.Needs.{Needs}
use Rattle.vdv452_tables.specs.declared.reading.Needs.TheVariants as needs
use Rattle.vdv452_rows.specs.Schema as schema
use Rattle.vdv452_rows.specs.Rows.{rows_of}
use Rattle.vdv452_rows.specs.TypedRows.{version_row, calendar_row, trip_row, point_row, type_row, line_row, stop_row, section_row, run_row, group_dwell_row, trip_dwell_row, dead_row, number_row}
pub use Rattle.vdv452_rows.specs.TypedRows.{typed}
pub use Rattle.vdv452_tables.specs.declared.net.Net.{Net}

-- The parts of all tables, each in the order of its faults:
-- the versions, the days, the points and the sections between them
abbrev pub place_schemas : List Schema
place_schemas = schema.versions ∷ schema.days ∷ schema.points ∷ schema.sections ∷ []

-- the times of the sections and at the points
abbrev pub time_schemas : List Schema
time_schemas = schema.runs ∷ schema.group_dwells ∷ schema.trip_dwells ∷ []

-- the lines, the trips, the moves without passengers and the types of vehicles
abbrev pub trip_schemas : List Schema
trip_schemas = schema.lines ∷ schema.stops ∷ schema.trips ∷ schema.deads ∷ schema.types ∷ []

-- the tables of this project
abbrev pub own_schemas : List Schema
own_schemas = schema.plan ∷ schema.depots ∷ schema.line_types ∷ schema.reliefs ∷ schema.ways ∷ schema.drivers ∷ []

-- the tables that are looked at, in the order of their faults
abbrev pub schemas_of : Needs → List Schema
schemas_of needs.Calendar = schema.versions ∷ schema.days ∷ schema.trips ∷ []
schemas_of needs.All = place_schemas ++ time_schemas ++ trip_schemas ++ own_schemas

-- the typed rows of a table
abbrev pub rows_as : {A : Type 0} → (List Cell → ℕ → A) → Schema → List Table → List A
rows_as row_of s tables = typed row_of 0 (rows_of s tables)

-- no rows
abbrev pub empty : Net
empty = record {
  versions = [];
  days = [];
  points = [];
  sections = [];
  runs = [];
  group_dwells = [];
  trip_dwells = [];
  lines = [];
  stops = [];
  trips = [];
  deads = [];
  types = [];
  plan = [];
  depots = [];
  line_types = [];
  reliefs = [];
  ways = [];
  drivers = [];
}

-- A network with the rows of the tables that tell the trips of a day.
abbrev pub with_calendar : Net → List Table → Net
with_calendar net tables = record net {
  versions = rows_as version_row schema.versions tables;
  days = rows_as calendar_row schema.days tables;
  trips = rows_as trip_row schema.trips tables;
}

-- A network with the rows of each part of the tables.
abbrev pub with_places : Net → List Table → Net
with_places net tables = record net {
  versions = rows_as version_row schema.versions tables;
  days = rows_as calendar_row schema.days tables;
  points = rows_as point_row schema.points tables;
  sections = rows_as section_row schema.sections tables;
}

abbrev pub with_times : Net → List Table → Net
with_times net tables = record net {
  runs = rows_as run_row schema.runs tables;
  group_dwells = rows_as group_dwell_row schema.group_dwells tables;
  trip_dwells = rows_as trip_dwell_row schema.trip_dwells tables;
}

abbrev pub with_trips : Net → List Table → Net
with_trips net tables = record net {
  lines = rows_as line_row schema.lines tables;
  stops = rows_as stop_row schema.stops tables;
  trips = rows_as trip_row schema.trips tables;
  deads = rows_as dead_row schema.deads tables;
  types = rows_as type_row schema.types tables;
}

abbrev pub with_own : Net → List Table → Net
with_own net tables = record net {
  plan = rows_as number_row schema.plan tables;
  depots = rows_as number_row schema.depots tables;
  line_types = rows_as number_row schema.line_types tables;
  reliefs = rows_as number_row schema.reliefs tables;
  ways = rows_as number_row schema.ways tables;
  drivers = rows_as number_row schema.drivers tables;
}

-- A network with the rows of all tables.
abbrev pub with_all : Net → List Table → Net
with_all net tables = with_own (with_trips (with_times (with_places net tables) tables) tables) tables

-- the rows of the tables, by their schemas; none of a table that is not looked at
abbrev pub net_of : Needs → List Table → Net
net_of needs.Calendar tables = with_calendar empty tables
net_of needs.All tables = with_all empty tables

-- the row of the later day; of two with one day the first
abbrev pub later : VersionRow → Option VersionRow → VersionRow
later row None = row
later row (Some other) = if nat_lt row.day other.day then other else row

-- the row of the greatest day
abbrev pub latest : List VersionRow → Option VersionRow
latest [] = None
latest (row ∷ rows) = Some (later row (latest rows))

-- the rows whose day is not after a day
abbrev pub begun : List VersionRow → ℕ → List VersionRow
begun rows day = filter (λ row. nat_le row.day day) rows

-- The version in force on a day is that of the greatest day not after it.
abbrev pub version_on : Net → ℕ → Option ℕ
version_on net day = option_map (λ row. row.version) (latest (begun net.versions day))

-- the version of a row with the greatest day not after a day
pub record IsInForce (rows : List VersionRow) (day version : ℕ) : Type 0 where
  pub row : VersionRow
  pub among : Contains rows row
  pub version_is : version ≡ row.version
  pub has_begun : row.day ≤ day
  pub is_latest : All (λ other. other.day ≤ day → other.day ≤ row.day) rows

-- the day type of a day is that of the row of the version and the day
abbrev pub kind_in : List CalendarRow → ℕ → ℕ → Option ℕ
kind_in rows version day = option_map (λ row. row.kind) (find (λ row. (row.version == version) && (row.day == day)) rows)

abbrev pub kind_on : Net → ℕ → ℕ → Option ℕ
kind_on net version day = kind_in net.days version day
