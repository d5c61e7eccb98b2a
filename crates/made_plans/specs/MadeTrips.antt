-- Inner: the rows and the trips of a made day.
use Rattle.std.specs.Prelude.{◌≡◌, ℕ, pos, ◌-ℤ◌, ◌<◌, ◌≤◌, ◌≤ℤ◌, Bool}
use Rattle.vdv452_rows.specs.declared.rows.TripRow.{TripRow}
use Rattle.trip_times.specs.declared.trip.Trip.{Trip}
use Rattle.day_maker.specs.Made.{variant_name}
use Rattle.made_plans.specs.MadeRows.{point}

-- a row of a trip of one of the seven lines, which begins at five or later, and before nine in the evening
pub record IsMadeRow (row : TripRow) : Type 0 where
  pub line : ℕ
  pub out : Bool
  pub low : 1 ≤ line
  pub high : line ≤ 7
  pub line_is : row.line ≡ line
  pub variant_is : row.variant ≡ variant_name out
  pub group_is : row.group ≡ 1
  pub begins : 18000 ≤ row.start
  pub latest : row.start < 75600

-- the number of a terminal
pub record IsTerminal (nr : ℕ) : Type 0 where
  pub low : 1 ≤ nr
  pub high : nr ≤ 8

-- a trip between two terminals that begins at five or later and takes at most 5,700 seconds
pub record IsMadeTrip (t : Trip) : Type 0 where
  pub from : ℕ
  pub to : ℕ
  pub from_there : IsTerminal from
  pub to_there : IsTerminal to
  pub from_is : t.from ≡ point from
  pub to_is : t.to ≡ point to
  pub begins : pos 18000 ≤ℤ t.begin.0
  pub seconds : ℕ
  pub lasts : (t.end.0 -ℤ t.begin.0) ≡ pos seconds
  pub short : seconds ≤ 5700
