-- Promise: the rows of the network of a made day, as they are read.
use Rattle.std.specs.Prelude.{ℕ, ◌+◌, ◌*◌, ◌==◌, true, false, List, [], ◌∷◌, ◌++◌, if◌then◌else◌}
use Rattle.plan_core.specs.declared.types.Point.{Point}
use Rattle.vdv452_tables.specs.declared.net.Net.{Net}
use Rattle.vdv452_tables.specs.declared.reading.Needs.TheVariants as needs
use Rattle.vdv452_rows.specs.declared.rows.lines.LineRow.{LineRow}
use Rattle.vdv452_rows.specs.declared.rows.lines.StopRow.{StopRow}
use Rattle.vdv452_rows.specs.declared.rows.times.DeadRow.{DeadRow}
use Rattle.vdv452_rows.specs.declared.rows.times.GroupDwellRow.{GroupDwellRow}
use Rattle.vdv452_rows.specs.declared.rows.times.RunRow.{RunRow}
use Rattle.vdv452_tables.specs.Calendar.{net_of}
use Rattle.day_maker.specs.Made.{made_tables, type_of, variant_name, way_seconds}

-- the network that the tables of a made day tell
abbrev pub made_net : ℕ → ℕ → Net
made_net seed trips = net_of needs.All (made_tables seed trips)

-- a point of a made day
abbrev pub point : ℕ → Point
point nr = record { typ = type_of nr; nr = nr }

-- the rows of some lines or points, one after another
abbrev pub rows_each : {A : Type 0} → (ℕ → List A) → List ℕ → List A
rows_each rows [] = []
rows_each rows (n ∷ ns) = rows n ++ rows_each rows ns

abbrev pub line_rows : ℕ → List LineRow
line_rows l =
    record { version = 1; line = l; variant = variant_name true; area = 1 } ∷
    record { version = 1; line = l; variant = variant_name false; area = 1 } ∷ []

abbrev pub stop_rows : ℕ → List StopRow
stop_rows l =
    record { version = 1; number = 1; line = l; variant = variant_name true; at = point l } ∷
    record { version = 1; number = 2; line = l; variant = variant_name true; at = point (10 + l) } ∷
    record { version = 1; number = 3; line = l; variant = variant_name true; at = point (l + 1) } ∷
    record { version = 1; number = 1; line = l; variant = variant_name false; at = point (l + 1) } ∷
    record { version = 1; number = 2; line = l; variant = variant_name false; at = point (10 + l) } ∷
    record { version = 1; number = 3; line = l; variant = variant_name false; at = point l } ∷ []

abbrev pub run_row : ℕ → ℕ → ℕ → RunRow
run_row l from to = record { version = 1; area = 1; group = 1; from = point from; to = point to; time = 2400 + 60 * l }

abbrev pub run_rows : ℕ → List RunRow
run_rows l = run_row l l (10 + l) ∷ run_row l (10 + l) (l + 1) ∷ run_row l (l + 1) (10 + l) ∷ run_row l (10 + l) l ∷ []

abbrev pub dwell_rows : ℕ → List GroupDwellRow
dwell_rows l = record { version = 1; group = 1; at = point (10 + l); time = 60 } ∷ []

-- the deadheads from a point to each other one
abbrev pub dead_rows : ℕ → List ℕ → List DeadRow
dead_rows from [] = []
dead_rows from (to ∷ tos) =
    if from == to then dead_rows from tos else
    record { version = 1; area = 1; group = 1; from = point from; to = point to; time = way_seconds from to } ∷ dead_rows from tos

abbrev pub way_rows : ℕ → List ℕ → List (List ℕ)
way_rows from [] = []
way_rows from (to ∷ tos) =
    if from == to then way_rows from tos else
    (type_of from ∷ from ∷ type_of to ∷ to ∷ way_seconds from to ∷ []) ∷ way_rows from tos

abbrev pub relief_rows : ℕ → List (List ℕ)
relief_rows nr = (1 ∷ nr ∷ []) ∷ []

abbrev pub depot_rows : ℕ → List (List ℕ)
depot_rows trips = (1 ∷ 2 ∷ 101 ∷ 1 ∷ trips ∷ 100000 ∷ 20 ∷ 5 ∷ []) ∷ (2 ∷ 2 ∷ 102 ∷ 1 ∷ trips ∷ 100000 ∷ 20 ∷ 5 ∷ []) ∷ []

abbrev pub driver_rows : ℕ → List (List ℕ)
driver_rows trips =
    (1 ∷ 2 ∷ 101 ∷ trips ∷ 20000 ∷ 5 ∷ 600 ∷ 300 ∷ 0 ∷ 0 ∷ []) ∷ (2 ∷ 2 ∷ 102 ∷ trips ∷ 20000 ∷ 5 ∷ 600 ∷ 300 ∷ 0 ∷ 0 ∷ []) ∷ []
