-- A stop sequence has no more points than there are rows.
use Rattle.std.proofs.Common.{ℕ, ◌<◌, ◌≤◌, ◌^◌, Bool, true, false, if◌then◌else◌, List, [], ◌∷◌, length, map, filter, arith, suc}
use Rattle.vdv452_tables.specs.Calendar.{Net}
use Rattle.vdv452_tables.specs.declared.keys.LineKey.{LineKey}
use Rattle.vdv452_rows.specs.declared.rows.lines.StopRow.{StopRow}
use Rattle.vdv452_tables.specs.Keys.{line_key_eq, named, stop_key_of}
use Rattle.vdv452_tables.specs.LookUps.{course_on, points_of, stops_in_order}
use Rattle.vdv452_tables.specs.Ranges.{HasRanges}
use Rattle.vdv452_tables.proofs.OrderLemmas.{order_length}

points_few : (key : LineKey) (rows : List StopRow) → length (points_of key rows) ≤ length rows
points_few key [] = omega arith
points_few key (row ∷ rows) = by (line_key_eq (stop_key_of row) key) (points_few key rows)
  where
    by : (b : Bool) → length (points_of key rows) ≤ length rows
        → length (map (λ (r : StopRow). r.at)
        (if b then row ∷ filter (λ (r : StopRow). line_key_eq (stop_key_of r) key) rows else filter
        (λ (r : StopRow). line_key_eq (stop_key_of r) key) rows)) ≤ suc (length rows)
    by true few = omega (arith, few)
    by false few = omega (arith, few)

-- A stop sequence has no more points than there are rows of stop sequences: putting rows in their order keeps their number, by
-- insertion one by one, and a stop sequence takes some of them. There are fewer than 2 ^ 32 rows (`ranges_of`), so the length of a
-- stop sequence is a sum of fewer than 2 ^ 32 terms, which keeps it within 64 bits.
pub course_few : (net : Net) (version line : ℕ) (variant : List ℕ) → HasRanges net → length (course_on net version line variant) < 2 ^ 32
course_few net version line variant ranges =
    let stops = ranges.few_stops in
    let most = points_few (named version line variant) (stops_in_order net.stops) in
    let same = order_length (λ (row : StopRow). row.number) net.stops in
    omega (arith, stops, most, same)
