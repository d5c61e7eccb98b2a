-- Promise: the typed rows of the tables, by the names of their columns.
use Rattle.std.specs.Prelude.{ℕ, ◌+◌, List, [], ◌∷◌, map, Option, codes}
use Rattle.plan_core.specs.declared.types.Point.{Point}
use Rattle.vdv452_rows.specs.declared.cell.Cell.{Cell}
use Rattle.vdv452_rows.specs.declared.schema.Schema.{Schema}
use Rattle.vdv452_rows.specs.declared.rows.VersionRow.{VersionRow}
use Rattle.vdv452_rows.specs.declared.rows.CalendarRow.{CalendarRow}
use Rattle.vdv452_rows.specs.declared.rows.TripRow.{TripRow}
use Rattle.vdv452_rows.specs.declared.rows.places.PointRow.{PointRow}
use Rattle.vdv452_rows.specs.declared.rows.places.TypeRow.{TypeRow}
use Rattle.vdv452_rows.specs.declared.rows.lines.LineRow.{LineRow}
use Rattle.vdv452_rows.specs.declared.rows.lines.StopRow.{StopRow}
use Rattle.vdv452_rows.specs.declared.rows.times.SectionRow.{SectionRow}
use Rattle.vdv452_rows.specs.declared.rows.times.RunRow.{RunRow}
use Rattle.vdv452_rows.specs.declared.rows.times.GroupDwellRow.{GroupDwellRow}
use Rattle.vdv452_rows.specs.declared.rows.times.TripDwellRow.{TripDwellRow}
use Rattle.vdv452_rows.specs.declared.rows.times.DeadRow.{DeadRow}
use Rattle.vdv452_rows.specs.Schema.{versions, days, trips, points, types, lines, stops, sections, runs, group_dwells, trip_dwells, deads}
use Rattle.vdv452_rows.specs.Values.{schema_place, number_of, number_at, some_number_at, long_at, word_at}

-- each row with its place, counted on from the first one
abbrev pub typed : {A : Type 0} → (List Cell → ℕ → A) → ℕ → List (List Cell) → List A
typed row_of place [] = []
typed row_of place (row ∷ rows) = row_of row place ∷ typed row_of (place + 1) rows

-- the point whose type and number stand at these places
abbrev pub point_at : List Cell → ℕ → ℕ → Point
point_at row typ nr = record { typ = number_at row typ; nr = number_at row nr }

-- the values in the column of this name
abbrev pub number_under : Schema → List ℕ → List Cell → ℕ
number_under table name row = number_at row (schema_place table name)

abbrev pub some_number_under : Schema → List ℕ → List Cell → Option ℕ
some_number_under table name row = some_number_at row (schema_place table name)

abbrev pub long_under : Schema → List ℕ → List Cell → ℕ
long_under table name row = long_at row (schema_place table name)

abbrev pub word_under : Schema → List ℕ → List Cell → List ℕ
word_under table name row = word_at row (schema_place table name)

-- the point whose type and number stand in the columns of these names
abbrev pub point_under : Schema → List ℕ → List ℕ → List Cell → Point
point_under table typ nr row = point_at row (schema_place table typ) (schema_place table nr)

-- BASIS_VER_GUELTIGKEIT
unfoldable pub version_row : List Cell → ℕ → VersionRow
version_row row place = record {
  day = number_under versions (codes "VER_GUELTIGKEIT") row;
  version = number_under versions (codes "BASIS_VERSION") row;
}

-- FIRMENKALENDER
unfoldable pub calendar_row : List Cell → ℕ → CalendarRow
calendar_row row place = record {
  version = number_under days (codes "BASIS_VERSION") row;
  day = number_under days (codes "BETRIEBSTAG") row;
  kind = number_under days (codes "TAGESART_NR") row;
}

-- REC_FRT, and the row's place
unfoldable pub trip_row : List Cell → ℕ → TripRow
trip_row row place = record {
  version = number_under trips (codes "BASIS_VERSION") row;
  fid = long_under trips (codes "FRT_FID") row;
  start = number_under trips (codes "FRT_START") row;
  line = number_under trips (codes "LI_NR") row;
  kind = number_under trips (codes "TAGESART_NR") row;
  mode = number_under trips (codes "FAHRTART_NR") row;
  group = number_under trips (codes "FGR_NR") row;
  variant = word_under trips (codes "STR_LI_VAR") row;
  row = place;
}

-- REC_ORT
unfoldable pub point_row : List Cell → ℕ → PointRow
point_row row place = record {
  version = number_under points (codes "BASIS_VERSION") row;
  at = point_under points (codes "ONR_TYP_NR") (codes "ORT_NR") row;
}

-- MENGE_FZG_TYP
unfoldable pub type_row : List Cell → ℕ → TypeRow
type_row row place = record {
  version = number_under types (codes "BASIS_VERSION") row;
  typ = number_under types (codes "FZG_TYP_NR") row;
}

-- REC_LID
unfoldable pub line_row : List Cell → ℕ → LineRow
line_row row place = record {
  version = number_under lines (codes "BASIS_VERSION") row;
  line = number_under lines (codes "LI_NR") row;
  variant = word_under lines (codes "STR_LI_VAR") row;
  area = number_under lines (codes "BEREICH_NR") row;
}

-- LID_VERLAUF
unfoldable pub stop_row : List Cell → ℕ → StopRow
stop_row row place = record {
  version = number_under stops (codes "BASIS_VERSION") row;
  number = number_under stops (codes "LI_LFD_NR") row;
  line = number_under stops (codes "LI_NR") row;
  variant = word_under stops (codes "STR_LI_VAR") row;
  at = point_under stops (codes "ONR_TYP_NR") (codes "ORT_NR") row;
}

-- REC_SEL
unfoldable pub section_row : List Cell → ℕ → SectionRow
section_row row place = record {
  version = number_under sections (codes "BASIS_VERSION") row;
  area = number_under sections (codes "BEREICH_NR") row;
  from = point_under sections (codes "ONR_TYP_NR") (codes "ORT_NR") row;
  to = point_under sections (codes "SEL_ZIEL_TYP") (codes "SEL_ZIEL") row;
  length = some_number_under sections (codes "SEL_LAENGE") row;
}

-- SEL_FZT_FELD
unfoldable pub run_row : List Cell → ℕ → RunRow
run_row row place = record {
  version = number_under runs (codes "BASIS_VERSION") row;
  area = number_under runs (codes "BEREICH_NR") row;
  group = number_under runs (codes "FGR_NR") row;
  from = point_under runs (codes "ONR_TYP_NR") (codes "ORT_NR") row;
  to = point_under runs (codes "SEL_ZIEL_TYP") (codes "SEL_ZIEL") row;
  time = number_under runs (codes "SEL_FZT") row;
}

-- ORT_HZTF
unfoldable pub group_dwell_row : List Cell → ℕ → GroupDwellRow
group_dwell_row row place = record {
  version = number_under group_dwells (codes "BASIS_VERSION") row;
  group = number_under group_dwells (codes "FGR_NR") row;
  at = point_under group_dwells (codes "ONR_TYP_NR") (codes "ORT_NR") row;
  time = number_under group_dwells (codes "HP_HZT") row;
}

-- REC_FRT_HZT
unfoldable pub trip_dwell_row : List Cell → ℕ → TripDwellRow
trip_dwell_row row place = record {
  version = number_under trip_dwells (codes "BASIS_VERSION") row;
  fid = long_under trip_dwells (codes "FRT_FID") row;
  at = point_under trip_dwells (codes "ONR_TYP_NR") (codes "ORT_NR") row;
  time = number_under trip_dwells (codes "FRT_HZT_ZEIT") row;
}

-- UEB_FZT
unfoldable pub dead_row : List Cell → ℕ → DeadRow
dead_row row place = record {
  version = number_under deads (codes "BASIS_VERSION") row;
  area = number_under deads (codes "BEREICH_NR") row;
  group = number_under deads (codes "FGR_NR") row;
  from = point_under deads (codes "ONR_TYP_NR") (codes "ORT_NR") row;
  to = point_under deads (codes "UEB_ZIEL_TYP") (codes "UEB_ZIEL") row;
  time = number_under deads (codes "UEB_FAHRZEIT") row;
}

-- the numbers of all columns
abbrev pub number_row : List Cell → ℕ → List ℕ
number_row row place = map number_of row
