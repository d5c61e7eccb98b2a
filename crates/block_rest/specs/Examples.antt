-- Promise: heads and rests of a day with two trips, from A to B and back, one pool at D, computed.
use Rattle.std.specs.Prelude.{◌≡◌, ℕ, pos, true, false, List, [], ◌∷◌, Some, None, refl}
use Rattle.plan_core.specs.declared.types.Point.{Point}
use Rattle.cover_core.specs.declared.Column.{Column}
use Rattle.cover_core.specs.Cover.{Problem}
use Rattle.trip_times.specs.declared.trip.Trip.{Trip}
use Rattle.deadheads.specs.declared.moves.Ends.{Ends}
use Rattle.plan_params.specs.declared.rows.pool.Pool.{Pool}
use Rattle.day_model.specs.Facts.{DayFacts}
use Rattle.cover_rest.specs.Rest.{bodies, written}
use Rattle.block_rest.specs.declared.head.Head.{Head}
use Rattle.block_rest.specs.Heads.{heads_of}
use Rattle.block_rest.specs.Rest.{begun_of, rest_blocks}

abbrev point : ℕ → ℕ → Point
point typ nr = record { typ = typ; nr = nr }

abbrev trip : ℕ → Point → ℕ → Point → ℕ → Trip
trip fid from begin to end =
    record { fid = fid; line = 1; from = from; begin = record { 0 = pos begin }; to = to; end = record { 0 = pos end } }

abbrev pool : ℕ → ℕ → Pool
pool fixed stand_rate = record { number = 1; depot = point 2 9; typ = 1; cap = 2; fixed = fixed; dead_rate = 1; stand_rate = stand_rate }

abbrev ends : Point → Point → Ends
ends from to = record { from = from; to = to }

-- the first trip lasts from 28,800 to 32,400, the second from 33,000 to 36,600; the pool's fixed cost and standing rate are these
abbrev day_with : ℕ → ℕ → DayFacts
day_with fixed stand_rate = record {
  kind = record { version = 1; kind = 1; day = 20260302; weekday = 1 };
  rows = 0 ∷ 1 ∷ [];
  trips = trip 1 (point 1 1) 28800 (point 1 2) 32400 ∷ trip 2 (point 1 2) 33000 (point 1 1) 36600 ∷ [];
  params = record {
    settings = record { area = 1; group = 1; turn = 300; max_wait = 7200; handover = 300 };
    pools =
        pool fixed stand_rate ∷ [];
    groups = [];
    admissions = [];
    reliefs = point 1 2 ∷ [];
    ways = [];
  };
  deads = (ends (point 2 9) (point 1 1), 600) ∷ (ends (point 1 1) (point 2 9), 600) ∷ (ends (point 2 9) (point 1 2), 900)
      ∷ (ends (point 1 2) (point 2 9), 900) ∷ [];
}

abbrev day : DayFacts
day = day_with 1000 0

-- the day with no fixed cost, on which standing costs 4 a second
abbrev dear : DayFacts
dear = day_with 0 4

-- both trips in one block
abbrev earlier : List Column
earlier = record { class = 0; worth = 2200; items = 0 ∷ 1 ∷ [] } ∷ []

abbrev begun : List Head
begun = record { class = 0; trips = 0 ∷ []; finished = false } ∷ []

-- before all pull-outs nothing has begun
none : heads_of day 28200 earlier ≡ []
none = refl

-- then the first trip has, and is not finished until a second after its end
leaving : heads_of day 28201 earlier ≡ begun
leaving = refl

running : heads_of day 30000 earlier ≡ begun
running = refl

at_end : heads_of day 32400 earlier ≡ begun
at_end = refl

both : heads_of day 32401 earlier ≡ record { class = 0; trips = 0 ∷ 1 ∷ []; finished = false } ∷ []
both = refl

over : heads_of day 36601 earlier ≡ record { class = 0; trips = 0 ∷ 1 ∷ []; finished = true } ∷ []
over = refl

-- the rest at 30,000: its items are the head and the second trip
abbrev rest : DayFacts → ℕ → Problem
rest d moment = rest_blocks d false begun moment

items : (rest day 30000).items ≡ 2
items = refl

head_alone : (rest day 30000).worth 0 (0 ∷ []) ≡ Some 2500
head_alone = refl

head_first : (rest day 30000).worth 0 (0 ∷ 1 ∷ []) ≡ Some 2200
head_first = refl

trip_alone : (rest day 30000).worth 0 (1 ∷ []) ≡ Some 2500
trip_alone = refl

-- where standing costs more than a vehicle, two blocks of 1,500 are cheaper than one of 3,600
dear_head : (rest dear 30000).worth 0 (0 ∷ []) ≡ Some 1500
dear_head = refl

dear_trip : (rest dear 30000).worth 0 (1 ∷ []) ≡ Some 1500
dear_trip = refl

dear_both : (rest dear 30000).worth 0 (0 ∷ 1 ∷ []) ≡ Some 3600
dear_both = refl

-- at 32,200 the second trip alone would have left at 32,100
too_late : (rest dear 32200).worth 0 (1 ∷ []) ≡ None
too_late = refl

still_both : (rest dear 32200).worth 0 (0 ∷ 1 ∷ []) ≡ Some 3600
still_both = refl

-- nothing follows a finished head, and a head is no second item
abbrev ended : List Head
ended = record { class = 0; trips = 0 ∷ []; finished = true } ∷ []

after_the_end : (rest_blocks day false ended 30000).worth 0 (0 ∷ 1 ∷ []) ≡ None
after_the_end = refl

abbrev second : List Head
second = record { class = 0; trips = 1 ∷ []; finished = false } ∷ []

no_second : (rest_blocks day false second 0).worth 0 (1 ∷ 0 ∷ []) ≡ None
no_second = refl

-- a list is written out with the head's trips in its place
out : written (bodies (begun_of second) 2) (0 ∷ []) ≡ 1 ∷ []
out = refl
