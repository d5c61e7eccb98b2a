-- Promise: the tables that tell of a day: what it is, and its trips.
use Rattle.std.specs.Prelude.{ℕ, List, [], ◌∷◌, length, map, Option, Some, option_and_then, slice_get, codes}
use Rattle.std.specs.List.{zip}
use Rattle.vdv451_text.specs.declared.table.Table.{Table}
use Rattle.vdv452_tables.specs.declared.net.Net.{Net}
use Rattle.trip_times.specs.declared.trip.Trip.{Trip}
use Rattle.place_net.specs.Routes.{route_metres}
use Rattle.day_model.specs.Facts.{DayFacts}
use Rattle.day_model.specs.Links.{seconds}
use Rattle.number_tables.specs.Numbers.{number_table}

abbrev pub tag_columns : List (List ℕ)
tag_columns = codes "BETRIEBSTAG" ∷ codes "WOCHENTAG" ∷ codes "BASIS_VERSION" ∷ codes "TAGESART_NR" ∷ codes "FAHRTEN" ∷ []

-- the day as YYYYMMDD, its weekday, the version in force, the day type in it, and how many trips there are
abbrev pub tag_numbers : DayFacts → List (Option ℕ)
tag_numbers day = Some day.kind.day ∷ Some day.kind.weekday ∷ Some day.kind.version ∷ Some day.kind.kind ∷ Some (length day.trips) ∷ []

-- what the day is, in one row
abbrev pub tag_table : DayFacts → Table
tag_table day = number_table (codes "X_TAG") tag_columns (tag_numbers day ∷ [])

abbrev pub trip_columns : List (List ℕ)
trip_columns =
    codes "FRT_FID" ∷ codes "LI_NR" ∷ codes "VON_TYP" ∷ codes "VON_NR" ∷ codes "BEGINN" ∷ codes "NACH_TYP" ∷ codes "NACH_NR"
    ∷ codes "ENDE" ∷ codes "LAENGE" ∷ []

-- a trip's number and line, from where and when, to where and when, and how many metres, if that is known
abbrev pub trip_numbers : Trip → Option ℕ → List (Option ℕ)
trip_numbers trip metres =
    Some trip.fid ∷ Some trip.line ∷ Some trip.from.typ ∷ Some trip.from.nr ∷ seconds trip.begin.0 ∷ Some trip.to.typ ∷ Some trip.to.nr
    ∷ seconds trip.end.0 ∷ metres ∷ []

-- the length of the route of the row at a place
abbrev pub metres_at : Net → ℕ → ℕ → Option ℕ
metres_at net version place = option_and_then (route_metres net version) (slice_get net.trips place)

-- a trip with the place of its row
abbrev pub placed_numbers : Net → ℕ → ℕ × Trip → List (Option ℕ)
placed_numbers net version placed = trip_numbers placed.1 (metres_at net version placed.0)

-- trips with the places of their rows, one after another
abbrev pub trip_rows : Net → ℕ → List ℕ → List Trip → List (List (Option ℕ))
trip_rows net version places trips = map (placed_numbers net version) (zip places trips)

-- the trips of the day by number
abbrev pub trip_table : Net → DayFacts → Table
trip_table net day = number_table (codes "X_FAHRT") trip_columns (trip_rows net day.kind.version day.rows day.trips)

abbrev pub day_tables_of : Net → DayFacts → List Table
day_tables_of net day = tag_table day ∷ trip_table net day ∷ []
