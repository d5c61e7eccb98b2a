-- Promise: the plan of a day with two trips, computed: read from its tables.
use Rattle.std.specs.Prelude.{false, ◌≡◌, ℕ, pos, List, [], ◌∷◌, Option, Some, None, Ok, Err, codes, refl, map}
use Rattle.vdv451_text.specs.declared.table.Table.{Table}
use Rattle.cover_core.specs.declared.Column.{Column}
use Rattle.plan_core.specs.declared.types.Point.{Point}
use Rattle.trip_times.specs.declared.trip.Trip.{Trip}
use Rattle.plan_params.specs.declared.rows.group.Group.{Group}
use Rattle.plan_params.specs.declared.rows.pool.Pool.{Pool}
use Rattle.day_model.specs.Facts.{DayFacts}
use Rattle.number_tables.specs.Numbers.{number_table}
use Rattle.umlauf_write.specs.declared.text.PlanFault.TheVariants.{Form}
use Rattle.umlauf_write.specs.Reading.{read_of}
use Rattle.umlauf_write.specs.Tables.{cost_table}

abbrev point : ℕ → ℕ → Point
point typ nr = record { typ = typ; nr = nr }

abbrev group : Group
group = record { number = 1; home = point 2 9; cap = 2; fixed = 500; rate = 1; sign_on = 600; sign_off = 300; ten = false; reduced = false }

abbrev pool : Pool
pool = record { number = 1; depot = point 2 9; typ = 1; cap = 2; fixed = 1000; dead_rate = 1; stand_rate = 0 }

abbrev trip : ℕ → ℕ → ℕ → Trip
trip fid begin end = record {
  fid = fid;
  line = 1;
  from = point 1 1;
  begin = record { 0 = pos begin };
  to =
      point 1 2;
  end = record { 0 = pos end };
}

abbrev day : DayFacts
day = record {
  kind = record { version = 1; kind = 1; day = 20260302; weekday = 1 };
  rows = 0 ∷ 1 ∷ [];
  trips = trip 1 28800 32400 ∷ trip 2 33000 36600 ∷ [];
  params = record {
    settings = record { area = 1; group = 1; turn = 300; max_wait = 7200; handover = 300 };
    pools = pool ∷ [];
    groups =
        group ∷ [];
    admissions = [];
    reliefs = [];
    ways = [];
  };
  deads = [];
}

abbrev row : List ℕ → List (Option ℕ)
row ns = map (λ n. Some n) ns

abbrev trips : List (List ℕ) → Table
trips rows = number_table (codes "REC_FRT") (codes "FRT_FID" ∷ codes "UM_UID" ∷ []) (map row rows)

abbrev duties : Table
duties = number_table (codes "X_DIENST") (codes "DIENST_NR" ∷ codes "GRUPPE_NR" ∷ codes "BEGINN" ∷ []) (row (1 ∷ 1 ∷ 27600 ∷ []) ∷ [])

abbrev parts : List (List ℕ) → Table
parts rows = number_table (codes "X_DIENST_STUECK") (codes "DIENST_NR" ∷ codes "LFD_NR" ∷ codes "UM_UID" ∷ codes "STUECK_NR" ∷ [])
    (map row rows)

abbrev bounds : List (List ℕ) → Table
bounds rows = number_table (codes "X_SCHRANKE") (codes "ART" ∷ codes "WERT" ∷ codes "SCHRANKE" ∷ []) (map row rows)

abbrev four_bounds : Table
four_bounds = bounds ((1 ∷ 1 ∷ 1 ∷ []) ∷ (2 ∷ 2200 ∷ 2200 ∷ []) ∷ (3 ∷ 1 ∷ 1 ∷ []) ∷ (4 ∷ 10400 ∷ 10400 ∷ []) ∷ [])

abbrev block : List ℕ → Column
block items = record { class = 0; worth = 2200; items = items }

abbrev two_parts : Table
two_parts = parts ((1 ∷ 1 ∷ 1 ∷ 1 ∷ []) ∷ (1 ∷ 2 ∷ 1 ∷ 2 ∷ []) ∷ [])

whole : read_of day (trips ((1 ∷ 1 ∷ []) ∷ (2 ∷ 1 ∷ []) ∷ []) ∷ cost_table day (block (0 ∷ 1 ∷ []) ∷ []) ∷ duties
    ∷ two_parts ∷ four_bounds ∷ []) ≡
    Ok (record {
      blocks = record { columns = record { class = 0; worth = 0; items = 0 ∷ 1 ∷ [] } ∷ [] };
      duties = record { group = 1; parts = (1, 1) ∷ (1, 2) ∷ [] } ∷ [];
      bounds = 1 ∷ 2200 ∷ 1 ∷ 10400 ∷ [];
    })
whole = refl

-- the last table is missing: tables as wholes come before rows
no_bounds : read_of day (trips ((7 ∷ 1 ∷ []) ∷ []) ∷ cost_table day (block (0 ∷ 1 ∷ []) ∷ []) ∷ duties ∷ two_parts ∷ [])
    ≡ Err (Form (codes "X_SCHRANKE") 0)
no_bounds = refl

-- a trip that is not of the day
other_trip : read_of day (trips ((1 ∷ 1 ∷ []) ∷ (7 ∷ 1 ∷ []) ∷ []) ∷ cost_table day (block (0 ∷ 1 ∷ []) ∷ []) ∷ duties ∷ two_parts
    ∷ four_bounds ∷ []) ≡ Err (Form (codes "REC_FRT") 2)
other_trip = refl

-- three passes: the table as a whole, after all rows
three_passes : read_of day
    (trips [] ∷ cost_table day [] ∷ duties ∷ parts [] ∷ bounds ((1 ∷ 1 ∷ 1 ∷ []) ∷ (2 ∷ 2200 ∷ 2200 ∷ []) ∷ (3 ∷ 1 ∷ 1 ∷ []) ∷ []) ∷ [])
    ≡ Err (Form (codes "X_SCHRANKE") 0)
three_passes = refl

-- a fifth pass
fifth_pass : read_of day
    (trips [] ∷ cost_table day [] ∷ duties ∷ parts []
    ∷ bounds ((1 ∷ 1 ∷ 1 ∷ []) ∷ (2 ∷ 0 ∷ 0 ∷ []) ∷ (3 ∷ 0 ∷ 0 ∷ []) ∷ (4 ∷ 0 ∷ 0 ∷ []) ∷ (5 ∷ 0 ∷ 0 ∷ []) ∷ []) ∷ [])
    ≡ Err (Form (codes "X_SCHRANKE") 5)
fifth_pass = refl
