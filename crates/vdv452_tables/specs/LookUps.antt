-- Promise: what the rows of a network tell at a key.
use Rattle.std.specs.Prelude.{ℕ, Bool, List, [], ◌∷◌, Option, Some, None, map, filter, if◌then◌else◌, is_some, codes}
use Rattle.std.specs.Str.{bytes_eq}
use Rattle.plan_core.specs.declared.types.Point.{Point}
use Rattle.vdv452_tables.specs.declared.keys.LineKey.{LineKey}
use Rattle.vdv452_tables.specs.declared.net.Net.{Net}
use Rattle.vdv452_rows.specs.declared.rows.lines.StopRow.{StopRow}
use Rattle.vdv452_tables.specs.Order.{in_order}
use Rattle.vdv452_tables.specs.Keys.{value_at, point_key_eq, point_key_of, type_key_eq, type_key_of, section_key_eq, section_key_of, move_key_eq, run_key_of, dead_key_of, group_dwell_key_eq, group_dwell_key_of, trip_dwell_key_eq, trip_dwell_key_of, line_key_eq, line_key_of, stop_key_of, move_key, named}

-- REC_ORT has the point
abbrev pub has_point_on : Net → ℕ → Point → Bool
has_point_on net version at =
    is_some (value_at point_key_eq point_key_of (λ row. tt {0}) net.points (record { version = version; at = at }))

-- MENGE_FZG_TYP has the type
abbrev pub has_type_on : Net → ℕ → ℕ → Bool
has_type_on net version typ = is_some (value_at type_key_eq type_key_of (λ row. tt {0}) net.types (record { version = version; typ = typ }))

-- BEREICH_NR of REC_LID
abbrev pub area_on : Net → ℕ → ℕ → List ℕ → Option ℕ
area_on net version line variant = value_at line_key_eq line_key_of (λ row. row.area) net.lines (named version line variant)

-- SEL_FZT of SEL_FZT_FELD
abbrev pub run_time_on : Net → ℕ → ℕ → ℕ → Point → Point → Option ℕ
run_time_on net version area group from to =
    value_at move_key_eq run_key_of (λ row. row.time) net.runs (move_key version area group from to)

-- UEB_FAHRZEIT of UEB_FZT
abbrev pub dead_time_on : Net → ℕ → ℕ → ℕ → Point → Point → Option ℕ
dead_time_on net version area group from to =
    value_at move_key_eq dead_key_of (λ row. row.time) net.deads (move_key version area group from to)

-- FRT_HZT_ZEIT of REC_FRT_HZT
abbrev pub trip_dwell_on : Net → ℕ → ℕ → Point → Option ℕ
trip_dwell_on net version fid at =
    value_at trip_dwell_key_eq trip_dwell_key_of (λ row. row.time) net.trip_dwells (record { version = version; fid = fid; at = at })

-- HP_HZT of ORT_HZTF
abbrev pub group_dwell_on : Net → ℕ → ℕ → Point → Option ℕ
group_dwell_on net version group at =
    value_at group_dwell_key_eq group_dwell_key_of (λ row. row.time) net.group_dwells (record { version = version; group = group; at = at })

-- the length that a section's row has, if there is a row and its field is not empty
abbrev pub known : Option (Option ℕ) → Option ℕ
known None = None
known (Some length) = length

-- SEL_LAENGE of REC_SEL
abbrev pub length_on : Net → ℕ → ℕ → Point → Point → Option ℕ
length_on net version area from to =
    known (value_at section_key_eq section_key_of (λ row. row.length) net.sections
    (record { version = version; area = area; from = from; to = to }))

-- the rows by LI_LFD_NR; of two with one number the earlier row first
abbrev pub stops_in_order : List StopRow → List StopRow
stops_in_order rows = in_order (λ (row : StopRow). row.number) rows

-- the points of the rows with a key
abbrev pub points_of : LineKey → List StopRow → List Point
points_of key rows = map (λ row. row.at) (filter (λ row. line_key_eq (stop_key_of row) key) rows)

-- the points of a variant of a line, by LI_LFD_NR
abbrev pub course_on : Net → ℕ → ℕ → List ℕ → List Point
course_on net version line variant = points_of (named version line variant) (stops_in_order net.stops)

-- the sections of a stop sequence that begins at a point: each pair of neighbouring points
abbrev pub links_from : Point → List Point → List (Point × Point)
links_from from [] = []
links_from from (to ∷ course) = (from, to) ∷ links_from to course

-- the rows of a table of this project by its name, none for any other name
abbrev pub extra_of : Net → List ℕ → List (List ℕ)
extra_of net table =
    if bytes_eq table (codes "X_PLAN") then net.plan else
    (if bytes_eq table (codes "X_HOF") then net.depots else
    (if bytes_eq table (codes "X_LINIE_FZG") then net.line_types else
    (if bytes_eq table (codes "X_ABLOESE") then net.reliefs else
    (if bytes_eq table (codes "X_WEG") then net.ways else
    (if bytes_eq table (codes "X_FAHRER") then net.drivers else [])))))
