-- Promise: keys of rows, and indexes by key.
use Rattle.std.specs.Prelude.{◌≡◌, ℕ, Bool, true, ◌==◌, ◌&&◌, List, Option}
use Rattle.std.specs.Cmp.{unsigned_Decides}
use Rattle.std.specs.Cmp.Lexicographic.{bytes_decides}
use Rattle.std.specs.List.{find}
use Rattle.std.specs.Option.{option_map}
use Rattle.std.specs.Str.{bytes_eq}
use Rattle.std.proofs.lemmas.Bool.{and_parts}
use Rattle.indexmap.specs.IndexMap.{IndexMap, get}
use Rattle.plan_core.specs.declared.types.Point.{Point}
use Rattle.vdv452_tables.specs.declared.keys.DayKey.{DayKey}
use Rattle.vdv452_tables.specs.declared.keys.PointKey.{PointKey}
use Rattle.vdv452_tables.specs.declared.keys.TypeKey.{TypeKey}
use Rattle.vdv452_tables.specs.declared.keys.SectionKey.{SectionKey}
use Rattle.vdv452_tables.specs.declared.keys.MoveKey.{MoveKey}
use Rattle.vdv452_tables.specs.declared.keys.GroupDwellKey.{GroupDwellKey}
use Rattle.vdv452_tables.specs.declared.keys.TripDwellKey.{TripDwellKey}
use Rattle.vdv452_tables.specs.declared.keys.LineKey.{LineKey}
use Rattle.vdv452_rows.specs.declared.rows.CalendarRow.{CalendarRow}
use Rattle.vdv452_rows.specs.declared.rows.places.PointRow.{PointRow}
use Rattle.vdv452_rows.specs.declared.rows.places.TypeRow.{TypeRow}
use Rattle.vdv452_rows.specs.declared.rows.lines.LineRow.{LineRow}
use Rattle.vdv452_rows.specs.declared.rows.lines.StopRow.{StopRow}
use Rattle.vdv452_rows.specs.declared.rows.times.SectionRow.{SectionRow}
use Rattle.vdv452_rows.specs.declared.rows.times.RunRow.{RunRow}
use Rattle.vdv452_rows.specs.declared.rows.times.GroupDwellRow.{GroupDwellRow}
use Rattle.vdv452_rows.specs.declared.rows.times.TripDwellRow.{TripDwellRow}
use Rattle.vdv452_rows.specs.declared.rows.times.DeadRow.{DeadRow}

-- the value of the first row with a key
abbrev pub value_at : {K V R : Type 0} → (K → K → Bool) → (R → K) → (R → V) → List R → K → Option V
value_at same key_of value_of rows key = option_map value_of (find (λ row. same (key_of row) key) rows)

-- the index gives at each key what the rows give
abbrev pub IsIndex : {K V R S : Type 0} → (K → K → Bool) → (R → K) → (R → V) → List R → IndexMap K V S → Type 0
IsIndex {K} same key_of value_of rows index = (key : K) → get same index key ≡ value_at same key_of value_of rows key

-- Keys compare by their fields.
abbrev pub point_eq : Point → Point → Bool
point_eq a b = (a.typ == b.typ) && (a.nr == b.nr)

abbrev pub day_key_eq : DayKey → DayKey → Bool
day_key_eq a b = (a.version == b.version) && (a.day == b.day)

abbrev pub point_key_eq : PointKey → PointKey → Bool
point_key_eq a b = (a.version == b.version) && point_eq a.at b.at

abbrev pub type_key_eq : TypeKey → TypeKey → Bool
type_key_eq a b = (a.version == b.version) && (a.typ == b.typ)

abbrev pub section_key_eq : SectionKey → SectionKey → Bool
section_key_eq a b = (a.version == b.version) && ((a.area == b.area) && (point_eq a.from b.from && point_eq a.to b.to))

abbrev pub move_key_eq : MoveKey → MoveKey → Bool
move_key_eq a b = (a.version == b.version)
    && ((a.area == b.area) && ((a.group == b.group) && (point_eq a.from b.from && point_eq a.to b.to)))

abbrev pub group_dwell_key_eq : GroupDwellKey → GroupDwellKey → Bool
group_dwell_key_eq a b = (a.version == b.version) && ((a.group == b.group) && point_eq a.at b.at)

abbrev pub trip_dwell_key_eq : TripDwellKey → TripDwellKey → Bool
trip_dwell_key_eq a b = (a.version == b.version) && ((a.fid == b.fid) && point_eq a.at b.at)

abbrev pub line_key_eq : LineKey → LineKey → Bool
line_key_eq a b = (a.version == b.version) && ((a.line == b.line) && bytes_eq a.variant b.variant)

-- The keys of rows.
abbrev pub day_key_of : CalendarRow → DayKey
day_key_of row = record { version = row.version; day = row.day }

abbrev pub point_key_of : PointRow → PointKey
point_key_of row = record { version = row.version; at = row.at }

abbrev pub type_key_of : TypeRow → TypeKey
type_key_of row = record { version = row.version; typ = row.typ }

abbrev pub section_key_of : SectionRow → SectionKey
section_key_of row = record { version = row.version; area = row.area; from = row.from; to = row.to }

abbrev pub move_key : ℕ → ℕ → ℕ → Point → Point → MoveKey
move_key version area group from to = record { version = version; area = area; group = group; from = from; to = to }

abbrev pub run_key_of : RunRow → MoveKey
run_key_of row = move_key row.version row.area row.group row.from row.to

abbrev pub dead_key_of : DeadRow → MoveKey
dead_key_of row = move_key row.version row.area row.group row.from row.to

abbrev pub group_dwell_key_of : GroupDwellRow → GroupDwellKey
group_dwell_key_of row = record { version = row.version; group = row.group; at = row.at }

abbrev pub trip_dwell_key_of : TripDwellRow → TripDwellKey
trip_dwell_key_of row = record { version = row.version; fid = row.fid; at = row.at }

abbrev pub named : ℕ → ℕ → List ℕ → LineKey
named version line variant = record { version = version; line = line; variant = variant }

-- keys of variants that compare as equal are one key
pub same_line_key : (a b : LineKey) → line_key_eq a b ≡ true → a ≡ b
same_line_key a b e =
    let version = and_parts (a.version == b.version) _ e in
    let line = and_parts (a.line == b.line) _ version.1 in
    λ i. named ((unsigned_Decides a.version b.version).0 version.0 i) ((unsigned_Decides a.line b.line).0 line.0 i)
    ((bytes_decides a.variant b.variant).0 line.1 i)

abbrev pub line_key_of : LineRow → LineKey
line_key_of row = named row.version row.line row.variant

abbrev pub stop_key_of : StopRow → LineKey
stop_key_of row = named row.version row.line row.variant
