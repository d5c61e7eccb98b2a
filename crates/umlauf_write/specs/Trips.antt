-- Promise: REC_FRT with the numbers of blocks: its rows are found by the version and the trip's number.
use Rattle.std.specs.Prelude.{◌≡◌, ℕ, ℤ, pos, negsuc, ◌==◌, ◌&&◌, Bool, false, List, [], length, filter, Option, Some, None, unwrap_or, codes}
use Rattle.std.specs.List.{find}
use Rattle.vdv451_text.specs.declared.table.Field.{Field}
use Rattle.vdv451_text.specs.declared.table.Head.{Head}
use Rattle.vdv451_text.specs.declared.table.Table.{Table}
use Rattle.vdv452_rows.specs.Rows.{place_of}
use Rattle.number_tables.specs.Outlines.{number_in}
use Rattle.cover_core.specs.declared.Column.{Column}
use Rattle.trip_times.specs.declared.trip.Trip.{Trip}
use Rattle.day_model.specs.Facts.{DayFacts}
use Rattle.umlauf_write.specs.Tables.{block_of, numbered, with_uid}

abbrev pub is_number : ℕ → Option ℤ → Bool
is_number n None = false
is_number n (Some (pos m)) = m == n
is_number n (Some (negsuc m)) = false

-- a row is that of a trip of a version
abbrev pub is_row_of : List Head → ℕ → ℕ → List Field → Bool
is_row_of heads version fid row =
    is_number version (number_in heads row (codes "BASIS_VERSION")) && is_number fid (number_in heads row (codes "FRT_FID"))

-- there is exactly one row of a trip of a version
abbrev pub HasOneRow : Table → ℕ → ℕ → Type 0
HasOneRow table version fid = length (filter (is_row_of table.columns version fid) table.rows) ≡ 1

-- the row of a trip of a version
abbrev pub row_of : Table → ℕ → ℕ → List Field
row_of table version fid = unwrap_or (find (is_row_of table.columns version fid) table.rows) []

-- the row of a trip with the number of its block
abbrev pub found_row : Table → ℕ → List Column → ℕ → Trip → List Field
found_row table version blocks number trip =
    with_uid table.columns (place_of (codes "UM_UID") table.columns) (row_of table version trip.fid) (block_of 1 blocks number)

-- REC_FRT with the rows of the day's trips by number, as they were read but for UM_UID
abbrev pub found_table : DayFacts → Table → List Column → Table
found_table day table blocks =
    record { name = table.name; columns = table.columns; rows = numbered (found_row table day.kind.version blocks) 0 day.trips }
