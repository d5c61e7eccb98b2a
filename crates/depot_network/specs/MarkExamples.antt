-- Promise: the marks of a day with two trips, from A to B and back, one pool at D and a relief point at B, computed.
use Rattle.std.specs.Prelude.{◌≡◌, ℕ, pos, negsuc, true, false, List, [], ◌∷◌, ◌+◌, Some, None, refl}
use Rattle.plan_core.specs.declared.Price.{Price}
use Rattle.plan_core.specs.declared.types.Point.{Point}
use Rattle.cover_core.specs.declared.marks.BlockMark.{BlockMark}
use Rattle.trip_times.specs.declared.trip.Trip.{Trip}
use Rattle.deadheads.specs.declared.moves.Ends.{Ends}
use Rattle.plan_params.specs.declared.rows.pool.Pool.{Pool}
use Rattle.day_model.specs.Facts.{DayFacts}
use Rattle.mark_cover.specs.Searches.{is_unmet, is_low}
use Rattle.depot_network.specs.BlockMarks.{mark, first_mark, extended_mark, closed_value, block_marking}

abbrev point : ℕ → ℕ → Point
point typ nr = record { typ = typ; nr = nr }

abbrev trip : ℕ → Point → ℕ → Point → ℕ → Trip
trip fid from begin to end =
    record { fid = fid; line = 1; from = from; begin = record { 0 = pos begin }; to = to; end = record { 0 = pos end } }

abbrev pool : Pool
pool = record { number = 1; depot = point 2 9; typ = 1; cap = 2; fixed = 1000; dead_rate = 1; stand_rate = 0 }

abbrev ends : Point → Point → Ends
ends from to = record { from = from; to = to }

-- the first trip takes so many seconds, and the second one begins at this one
abbrev day_with : ℕ → ℕ → DayFacts
day_with long begin = record {
  kind = record { version = 1; kind = 1; day = 20260302; weekday = 1 };
  rows = 0 ∷ 1 ∷ [];
  trips = trip 1 (point 1 1) 28800 (point 1 2) (28800 + long) ∷ trip 2 (point 1 2) begin (point 1 1) (begin + 3600) ∷ [];
  params = record {
    settings = record { area = 1; group = 1; turn = 300; max_wait = 7200; handover = 300 };
    pools = pool ∷ [];
    groups =
        [];
    admissions = [];
    reliefs = point 1 2 ∷ [];
    ways = [];
  };
  deads = (ends (point 2 9) (point 1 1), 600) ∷ (ends (point 1 1) (point 2 9), 600) ∷ (ends (point 2 9) (point 1 2), 900)
      ∷ (ends (point 1 2) (point 2 9), 900) ∷ [];
}

abbrev day : DayFacts
day = day_with 3600 33000

abbrev prices : List Price
prices = record { 0 = pos 1100000 } ∷ record { 0 = pos 1100000 } ∷ []

abbrev halves : List Price
halves = record { 0 = pos 500 } ∷ record { 0 = pos 500 } ∷ []

first : first_mark day false prices 0 0 ≡ Some (mark 0 0 4200 (pos 500000))
first = refl

counted : first_mark day true halves 0 0 ≡ Some (mark 0 0 4200 (pos 500))
counted = refl

-- the stand at B is a cut, so driving begins afresh
second : extended_mark day false prices (mark 0 0 4200 (pos 500000)) 1 ≡ Some (mark 0 1 3600 (negsuc 599999))
second = refl

closed : closed_value day false (mark 0 1 3600 (negsuc 599999)) ≡ Some (pos 0)
closed = refl

abbrev marks : List BlockMark
marks = mark 0 0 4200 (pos 500000) ∷ mark 0 1 3600 (negsuc 599999) ∷ []

-- the start of the second trip is met by the mark of both
met : is_unmet (block_marking day false prices) marks (first_mark day false prices 0 1) ≡ false
met = refl

-- without it the start of the second trip is a gap
unmet : is_unmet (block_marking day false prices) (mark 0 0 4200 (pos 500000) ∷ []) (first_mark day false prices 0 1) ≡ true
unmet = refl

paid : is_low (block_marking day false prices) (pos 0 ∷ []) (mark 0 1 3600 (negsuc 599999)) ≡ false
paid = refl

-- 600 of the pull-out and 15,600 of the trip are the most; one second more opens no block
longest : first_mark (day_with 15600 45000) true halves 0 0 ≡ Some (mark 0 0 16200 (pos 500))
longest = refl

too_long : first_mark (day_with 15601 45001) true halves 0 0 ≡ None
too_long = refl

-- such a trip alone is no block, since the pull-in is driven too
not_alone : closed_value (day_with 15600 45000) true (mark 0 0 16200 (pos 500)) ≡ None
not_alone = refl
