-- Inner: the indexes of a network give what its rows give.
use Rattle.std.specs.Prelude.{◌≡◌, ◌++◌, ◌∷◌, List, [], Option, Some, None}
use Rattle.indexmap.specs.IndexMap.{IndexMap, get}
use Rattle.plan_core.specs.declared.types.Point.{Point}
use Rattle.vdv452_tables.specs.declared.keys.LineKey.{LineKey}
use Rattle.vdv452_rows.specs.declared.rows.lines.StopRow.{StopRow}
use Rattle.vdv452_tables.specs.declared.indexes.Dwells.{Dwells}
use Rattle.vdv452_tables.specs.declared.indexes.Indexes.{Indexes}
use Rattle.vdv452_tables.specs.declared.indexes.Lines.{Lines}
use Rattle.vdv452_tables.specs.declared.indexes.Moves.{Moves}
use Rattle.vdv452_tables.specs.declared.indexes.Places.{Places}
use Rattle.vdv452_tables.specs.declared.net.Net.{Net}
use Rattle.vdv452_tables.specs.LookUps.{points_of, stops_in_order}
use Rattle.vdv452_tables.specs.Keys.{IsIndex, day_key_eq, day_key_of, point_key_eq, point_key_of, type_key_eq, type_key_of, section_key_eq, section_key_of, move_key_eq, run_key_of, group_dwell_key_eq, group_dwell_key_of, trip_dwell_key_eq, trip_dwell_key_of, line_key_eq, line_key_of}

-- what an index of stop sequences gives at a key that may be absent
abbrev pub course_or_none : Option (List Point) → List Point
course_or_none None = []
course_or_none (Some course) = course

-- the index gives at each key the points of the rows with it, in their order
abbrev pub AreCourses : {S : Type 0} → List StopRow → IndexMap LineKey (List Point) S → Type 0
AreCourses rows courses = (key : LineKey) → course_or_none (get line_key_eq courses key) ≡ points_of key rows

-- a row's point comes to the end of the stop sequence of its key, and the other stop sequences stay
abbrev pub CourseGrows : {S : Type 0} → StopRow → IndexMap LineKey (List Point) S → IndexMap LineKey (List Point) S → Type 0
CourseGrows row old new =
    (key : LineKey) → course_or_none (get line_key_eq new key) ≡ course_or_none (get line_key_eq old key) ++ points_of key (row ∷ [])

pub record ArePlaces (net : Net) (places : Places) : Type 0 where
  pub kinds : IsIndex day_key_eq day_key_of (λ row. row.kind) net.days places.kinds
  pub points : IsIndex point_key_eq point_key_of (λ row. tt {0}) net.points places.points
  pub types : IsIndex type_key_eq type_key_of (λ row. tt {0}) net.types places.types

pub record AreLines (net : Net) (lines : Lines) : Type 0 where
  pub areas : IsIndex line_key_eq line_key_of (λ row. row.area) net.lines lines.areas
  pub courses : AreCourses (stops_in_order net.stops) lines.courses

pub record AreMoves (net : Net) (moves : Moves) : Type 0 where
  pub lengths : IsIndex section_key_eq section_key_of (λ row. row.length) net.sections moves.lengths
  pub runs : IsIndex move_key_eq run_key_of (λ row. row.time) net.runs moves.runs

pub record AreDwells (net : Net) (dwells : Dwells) : Type 0 where
  pub groups : IsIndex group_dwell_key_eq group_dwell_key_of (λ row. row.time) net.group_dwells dwells.groups
  pub trips : IsIndex trip_dwell_key_eq trip_dwell_key_of (λ row. row.time) net.trip_dwells dwells.trips

pub record AreIndexes (net : Net) (indexes : Indexes) : Type 0 where
  pub places : ArePlaces net indexes.places
  pub lines : AreLines net indexes.lines
  pub moves : AreMoves net indexes.moves
  pub dwells : AreDwells net indexes.dwells
