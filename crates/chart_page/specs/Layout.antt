-- Promise: where bars lie: the hours of a chart, and the lanes of blocks and duties.
use Rattle.std.specs.Prelude.{ℕ, ◌+◌, ◌-◌, ◌/◌, ◌==◌, nat_lt, min, max, false, List, length, take, map, fold, count_by, unwrap_or, slice_get}
use Rattle.std.specs.List.{enumerate_from}
use Rattle.chart_page.specs.declared.layout.Hours.{Hours}
use Rattle.chart_page.specs.declared.layout.Lane.{Lane}
use Rattle.plan_rows.specs.declared.rows.LegRow.{LegRow}
use Rattle.plan_rows.specs.declared.rows.DutyRow.{DutyRow}
use Rattle.plan_rows.specs.declared.rows.PieceRow.{PieceRow}
use Rattle.plan_rows.specs.declared.sheet.Sheet.{Sheet}

-- the least of a moment and the starts of rows, and the greatest of a moment and their ends
abbrev pub first_of_legs : List LegRow → ℕ → ℕ
first_of_legs legs least = fold (λ least (leg : LegRow). min least leg.ends.span.begin) least legs

abbrev pub last_of_legs : List LegRow → ℕ → ℕ
last_of_legs legs greatest = fold (λ greatest (leg : LegRow). max greatest leg.ends.span.end) greatest legs

abbrev pub first_of_duties : List DutyRow → ℕ → ℕ
first_of_duties duties least = fold (λ least (duty : DutyRow). min least duty.span.begin) least duties

abbrev pub last_of_duties : List DutyRow → ℕ → ℕ
last_of_duties duties greatest = fold (λ greatest (duty : DutyRow). max greatest duty.span.end) greatest duties

abbrev pub first_of_pieces : List PieceRow → ℕ → ℕ
first_of_pieces pieces least = fold (λ least (piece : PieceRow). min least piece.ends.span.begin) least pieces

abbrev pub last_of_pieces : List PieceRow → ℕ → ℕ
last_of_pieces pieces greatest = fold (λ greatest (piece : PieceRow). max greatest piece.ends.span.end) greatest pieces

-- the hours that hold a first and a last moment
abbrev pub hours_between : ℕ → ℕ → Hours
hours_between first last = record { first = first / 3600; count = last / 3600 + 1 - first / 3600 }

-- the hours from the first start to the last end of anything in a plan
abbrev pub hours_of : Sheet → Hours
hours_of sheet =
    let legs = sheet.blocks.legs in
    let duties = sheet.duties.duties in
    let pieces = sheet.duties.pieces in
    hours_between (first_of_pieces pieces (first_of_duties duties (first_of_legs legs 4294967295)))
    (last_of_pieces pieces (last_of_duties duties (last_of_legs legs 0)))

abbrev pub count_below : List ℕ → ℕ → ℕ
count_below keys key = count_by (λ other. nat_lt other key) keys

abbrev pub count_before : List ℕ → ℕ → ℕ → ℕ
count_before keys key place = count_by (λ other. other == key) (take place keys)

-- The lane of the key at a place: below those of smaller keys, and of equal keys before it.
abbrev pub lane_of : List ℕ → ℕ → ℕ → Lane
lane_of keys place key = record { place = count_below keys key + count_before keys key place; is_first = count_before keys key place == 0 }

abbrev pub lanes_by : List ℕ → List Lane
lanes_by keys = map (λ e. lane_of keys e.0 e.1) (enumerate_from 0 keys)

-- the lane at a place
abbrev pub lane_at : List Lane → ℕ → Lane
lane_at lanes place = unwrap_or (slice_get lanes place) (record { place = 0; is_first = false })
