-- Promise: worked examples, computed: two trips, from A to B and back, with a depot D and one pool.
use Rattle.std.specs.Prelude.{◌≡◌, ℕ, ◌+◌, pos, true, false, [], ◌∷◌, Some, None, refl}
use Rattle.plan_core.specs.declared.types.Piece.{Piece}
use Rattle.plan_core.specs.declared.types.Point.{Point}
use Rattle.trip_times.specs.declared.trip.Trip.{Trip}
use Rattle.deadheads.specs.declared.moves.Ends.{Ends}
use Rattle.plan_params.specs.declared.rows.pool.Pool.{Pool}
use Rattle.plan_params.specs.declared.rows.settings.Settings.{Settings}
use Rattle.day_model.specs.declared.link.Link.TheVariants.{Direct, Depot}
use Rattle.day_model.specs.Facts.{DayFacts}
use Rattle.day_model.specs.Links.{link_at, pull_out_at}
use Rattle.day_model.specs.Blocks.{block_worth}
use Rattle.day_model.specs.Pieces.{can_be_driven, pieces_of}

abbrev point : ℕ → ℕ → Point
point typ nr = record { typ = typ; nr = nr }

abbrev A : Point
A = point 1 1

abbrev B : Point
B = point 1 2

abbrev D : Point
D = point 2 9

abbrev trip : ℕ → Point → ℕ → Point → ℕ → Trip
trip fid from begin to end =
    record { fid = fid; line = 1; from = from; begin = record { 0 = pos begin }; to = to; end = record { 0 = pos end } }

abbrev pool : Pool
pool = record { number = 1; depot = D; typ = 1; cap = 2; fixed = 1000; dead_rate = 1; stand_rate = 0 }

abbrev ends : Point → Point → Ends
ends from to = record { from = from; to = to }

abbrev settings : Settings
settings = record { area = 1; group = 1; turn = 300; max_wait = 7200; handover = 300 }

-- the second trip begins and ends at these seconds
abbrev day_with : ℕ → ℕ → DayFacts
day_with begin end = record {
  kind = record { version = 1; kind = 1; day = 20260302; weekday = 1 };
  rows = 0 ∷ 1 ∷ [];
  trips = trip 1 A 28800 B 32400 ∷ trip 2 B begin A end ∷ [];
  params = record { settings = settings; pools = pool ∷ []; groups = []; admissions = []; reliefs = B ∷ []; ways = [] };
  deads = (ends D A, 600) ∷ (ends A D, 600) ∷ (ends D B, 900) ∷ (ends B D, 900) ∷ [];
}

both_trips : block_worth (day_with 33000 36600) false 0 (0 ∷ 1 ∷ []) ≡ Some 2200
both_trips = refl

counted : block_worth (day_with 33000 36600) true 0 (0 ∷ 1 ∷ []) ≡ Some 1
counted = refl

falling : block_worth (day_with 33000 36600) false 0 (1 ∷ 0 ∷ []) ≡ None
falling = refl

-- the minimum layover is one second short, and the depot is too far
too_short : link_at (day_with 32699 36299) 0 0 1 ≡ None
too_short = refl

no_block : block_worth (day_with 32699 36299) false 0 (0 ∷ 1 ∷ []) ≡ None
no_block = refl

alone : block_worth (day_with 32699 36299) false 0 (1 ∷ []) ≡ Some 2500
alone = refl

just_enough : link_at (day_with 32700 36300) 0 0 1 ≡ Some (Direct 0 300)
just_enough = refl

-- the stand is above the greatest wait, so the connection goes via the depot
via_depot : link_at (day_with 40000 43600) 0 0 1 ≡ Some (Depot 900 900 5800)
via_depot = refl

via_depot_cost : block_worth (day_with 40000 43600) false 0 (0 ∷ 1 ∷ []) ≡ Some 4000
via_depot_cost = refl

-- a pull-out would leave one second before midnight
too_early : pull_out_at (day_with 899 4499) 0 1 ≡ None
too_early = refl

at_midnight : pull_out_at (day_with 900 4500) 0 1 ≡ Some 900
at_midnight = refl

abbrev piece : ℕ → Point → ℕ → Point → ℕ → ℕ → Piece
piece index from begin to end driving = record {
  block = 1;
  index = index;
  from = from;
  begin = record { 0 = pos begin };
  to = to;
  end =
      record { 0 = pos end };
  driving = driving;
}

two_pieces : pieces_of (day_with 33000 36600) pool 1 (0 ∷ 1 ∷ []) ≡ Some (piece 1 D 28200 B 32400 4200 ∷ piece 2 B 33000 D 37200 4200 ∷ [])
two_pieces = refl

pieces_via_depot : pieces_of (day_with 40000 43600) pool 1 (0 ∷ 1 ∷ [])
    ≡ Some (piece 1 D 28200 D 33300 5100 ∷ piece 2 D 39100 D 44200 5100 ∷ [])
pieces_via_depot = refl

-- The first trip ends at this second, and the second one begins so long after it.
abbrev long_day : ℕ → ℕ → DayFacts
long_day end rest = record {
  kind = record { version = 1; kind = 1; day = 20260302; weekday = 1 };
  rows = 0 ∷ 1 ∷ [];
  trips = trip 1 A 28800 B end ∷ trip 2 B (end + rest) A (end + rest + 3600) ∷ [];
  params = record { settings = settings; pools = pool ∷ []; groups = []; admissions = []; reliefs = B ∷ []; ways = [] };
  deads = (ends D A, 600) ∷ (ends A D, 600) ∷ (ends D B, 900) ∷ (ends B D, 900) ∷ [];
}

-- with the pull-out the first piece drives exactly as long as it may
longest_piece : pieces_of (long_day 44400 600) pool 1 (0 ∷ 1 ∷ [])
    ≡ Some (piece 1 D 28200 B 44400 16200 ∷ piece 2 B 45000 D 49200 4200 ∷ [])
longest_piece = refl

longest_block : block_worth (long_day 44400 600) false 0 (0 ∷ 1 ∷ []) ≡ Some 2200
longest_block = refl

-- alone the first trip is driven back to the depot in the same piece
too_long_alone : block_worth (long_day 44400 600) false 0 (0 ∷ []) ≡ None
too_long_alone = refl

one_second_more : can_be_driven (long_day 44401 600) pool (0 ∷ 1 ∷ []) ≡ false
one_second_more = refl

-- a stand below the handover time is no cut
no_cut : block_worth (record (long_day 44400 600) {
  params = record {
    settings = record settings { handover = 601 };
    pools =
        pool ∷ [];
    groups = [];
    admissions = [];
    reliefs = B ∷ [];
    ways = [];
  };
}) false 0 (0 ∷ 1 ∷ []) ≡ None
no_cut = refl

-- neither is one at a point where drivers are not relieved
no_relief : block_worth
    (record (long_day 44400 600) {
      params = record {
        settings = settings;
        pools = pool ∷ [];
        groups = [];
        admissions = [];
        reliefs =
            [];
        ways = [];
      };
    }) false 0 (0 ∷ 1 ∷ []) ≡ None
no_relief = refl

-- with no handover time a stand of 0 seconds is still no cut
no_stand : pieces_of (record (long_day 44400 0) {
  params =
      record {
        settings = record settings { turn = 0; handover = 0 };
        pools = pool ∷ [];
        groups = [];
        admissions =
            [];
        reliefs = B ∷ [];
        ways = [];
      };
}) pool 1 (0 ∷ 1 ∷ []) ≡ Some (piece 1 D 28200 D 48600 20400 ∷ [])
no_stand = refl
