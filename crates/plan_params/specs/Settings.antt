-- Promise: what the tables of this project say, by the names of their columns.
use Rattle.std.specs.Prelude.{ℕ, ◌==◌, List, [], ◌∷◌, map, slice_index, codes}
use Rattle.plan_core.specs.declared.types.Point.{Point}
use Rattle.vdv452_rows.specs.declared.schema.Schema.{Schema}
use Rattle.vdv452_rows.specs.Schema as schema
use Rattle.vdv452_rows.specs.Values.{schema_place}
use Rattle.vdv452_tables.specs.declared.net.Net.{Net}
use Rattle.vdv452_tables.specs.LookUps.{extra_of}
pub use Rattle.vdv452_tables.specs.Order.{in_order, put_in_order}
use Rattle.plan_params.specs.declared.rows.ParamRows.{ParamRows}
use Rattle.plan_params.specs.declared.rows.admission.Admission.{Admission}
use Rattle.plan_params.specs.declared.rows.group.Group.{Group}
use Rattle.plan_params.specs.declared.rows.pool.Pool.{Pool}
use Rattle.plan_params.specs.declared.rows.settings.Settings.{Settings}
use Rattle.plan_params.specs.declared.rows.way.Way.{Way}

-- the point whose type and number stand at these places
abbrev pub point_at : List ℕ → ℕ → ℕ → Point
point_at row typ nr = record { typ = slice_index row typ; nr = slice_index row nr }

-- the number in the column of this name
abbrev pub number_under : Schema → List ℕ → List ℕ → ℕ
number_under table name row = slice_index row (schema_place table name)

-- the point whose type and number stand in the columns of these names
abbrev pub point_under : Schema → List ℕ → List ℕ → List ℕ → Point
point_under table typ nr row = point_at row (schema_place table typ) (schema_place table nr)

-- X_PLAN
abbrev pub settings_of : List ℕ → Settings
settings_of row = record {
  area = number_under schema.plan (codes "UEB_BEREICH_NR") row;
  group = number_under schema.plan (codes "UEB_FGR_NR") row;
  turn = number_under schema.plan (codes "WENDE_SEK") row;
  max_wait = number_under schema.plan (codes "MAX_WARTE_SEK") row;
  handover = number_under schema.plan (codes "UEBERGABE_SEK") row;
}

-- X_HOF
abbrev pub pool_of : List ℕ → Pool
pool_of row = record {
  number = number_under schema.depots (codes "HOF_NR") row;
  depot = point_under schema.depots (codes "ONR_TYP_NR") (codes "ORT_NR") row;
  typ = number_under schema.depots (codes "FZG_TYP_NR") row;
  cap = number_under schema.depots (codes "ANZAHL") row;
  fixed = number_under schema.depots (codes "FIX_KOSTEN") row;
  dead_rate = number_under schema.depots (codes "LEER_SATZ") row;
  stand_rate = number_under schema.depots (codes "STAND_SATZ") row;
}

-- X_FAHRER; a row without the last two columns has no allowances
abbrev pub group_of : List ℕ → Group
group_of row = record {
  number = number_under schema.drivers (codes "GRUPPE_NR") row;
  home = point_under schema.drivers (codes "ONR_TYP_NR") (codes "ORT_NR") row;
  cap = number_under schema.drivers (codes "ANZAHL") row;
  fixed = number_under schema.drivers (codes "FIX_KOSTEN") row;
  rate = number_under schema.drivers (codes "SATZ") row;
  sign_on = number_under schema.drivers (codes "ANMELDE_SEK") row;
  sign_off = number_under schema.drivers (codes "ABMELDE_SEK") row;
  ten = number_under schema.drivers (codes "ZEHN_STD") row == 1;
  reduced = number_under schema.drivers (codes "KURZE_RUHE") row == 1;
}

-- X_LINIE_FZG
abbrev pub admission_of : List ℕ → Admission
admission_of row = record {
  line = number_under schema.line_types (codes "LI_NR") row;
  typ = number_under schema.line_types (codes "FZG_TYP_NR") row;
}

-- X_ABLOESE
abbrev pub relief_of : List ℕ → Point
relief_of row = point_under schema.reliefs (codes "ONR_TYP_NR") (codes "ORT_NR") row

-- X_WEG
abbrev pub way_of : List ℕ → Way
way_of row = record {
  from = point_under schema.ways (codes "ONR_TYP_NR") (codes "ORT_NR") row;
  to = point_under schema.ways (codes "ZIEL_TYP") (codes "ZIEL_NR") row;
  time = number_under schema.ways (codes "WEG_SEK") row;
}

-- the settings of the first row
abbrev pub settings_in : List (List ℕ) → Settings
settings_in [] = settings_of []
settings_in (row ∷ rows) = settings_of row

-- the rows of X_HOF by HOF_NR
abbrev pub pools_of : Net → List Pool
pools_of net = in_order (λ (pool : Pool). pool.number) (map pool_of (extra_of net (codes "X_HOF")))

-- the rows of X_FAHRER by GRUPPE_NR
abbrev pub groups_of : Net → List Group
groups_of net = in_order (λ (group : Group). group.number) (map group_of (extra_of net (codes "X_FAHRER")))

abbrev pub params_of : Net → ParamRows
params_of net = record {
  settings = settings_in (extra_of net (codes "X_PLAN"));
  pools = pools_of net;
  groups = groups_of net;
  admissions = map admission_of (extra_of net (codes "X_LINIE_FZG"));
  reliefs = map relief_of (extra_of net (codes "X_ABLOESE"));
  ways = map way_of (extra_of net (codes "X_WEG"));
}
