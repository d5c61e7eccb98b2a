-- Promise: what the settings tell of lines, points and ways.
use Rattle.std.specs.Prelude.{ℕ, Bool, not, ◌==◌, ◌&&◌, ◌||◌, Option, Some, if◌then◌else◌}
use Rattle.std.specs.List.{find, list_any}
use Rattle.std.specs.Option.{option_map}
use Rattle.plan_core.specs.declared.types.Point.{Point}
use Rattle.vdv452_tables.specs.Keys.{point_eq}
use Rattle.plan_params.specs.declared.rows.ParamRows.{ParamRows}
use Rattle.plan_params.specs.declared.rows.admission.Admission.{Admission}
use Rattle.plan_params.specs.declared.rows.way.Way.{Way}
use Rattle.plan_params.specs.declared.rows.way.WayKey.{WayKey}

-- X_LINIE_FZG has a row of the line
abbrev pub is_listed : ParamRows → ℕ → Bool
is_listed params line = list_any (λ (row : Admission). row.line == line) params.admissions

-- a line without rows admits every type, another one the types of its rows
abbrev pub admits_in : ParamRows → ℕ → ℕ → Bool
admits_in params line typ =
    not (is_listed params line) || list_any (λ (row : Admission). (row.line == line) && (row.typ == typ)) params.admissions

-- X_ABLOESE has the point
abbrev pub is_relief_in : ParamRows → Point → Bool
is_relief_in params at = list_any (λ (point : Point). point_eq point at) params.reliefs

-- no time from a point to itself, else WEG_SEK of the row of X_WEG with these points
abbrev pub way_in : ParamRows → Point → Point → Option ℕ
way_in params from to =
    if point_eq from to then Some 0 else option_map (λ (way : Way). way.time)
    (find (λ (way : Way). point_eq way.from from && point_eq way.to to) params.ways)

-- Rows compare by their keys.
abbrev pub admission_eq : Admission → Admission → Bool
admission_eq a b = (a.line == b.line) && (a.typ == b.typ)

abbrev pub way_key_eq : WayKey → WayKey → Bool
way_key_eq a b = point_eq a.from b.from && point_eq a.to b.to

abbrev pub way_key_of : Way → WayKey
way_key_of way = record { from = way.from; to = way.to }
