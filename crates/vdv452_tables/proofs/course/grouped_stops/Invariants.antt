use Rattle.std.proofs.Common.{◌≡◌, ◌++◌, drop}
use Rattle.indexmap.specs.IndexMap.{get}
use Rattle.vdv452_tables.specs.declared.keys.LineKey.{LineKey}
use Rattle.vdv452_tables.specs.Indexes.{course_or_none}
use Rattle.vdv452_tables.specs.Keys.{line_key_eq}
use Rattle.vdv452_tables.specs.LookUps.{points_of}
use Rattle.vdv452_tables.proofs.course.grouped_stops.Given as goal

-- at each key the stop sequence so far and the points that are left are the whole
abbrev pub invariant-loop-row : goal.invariant-loop-row
invariant-loop-row l = (key : LineKey) →
    course_or_none (get line_key_eq l.courses key) ++ points_of key (drop l.row-index l.rows) ≡ points_of key l.rows
