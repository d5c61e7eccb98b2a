-- Promise: the pieces and duties of an earlier plan of a day with two trips, from A to B and back, one pool at D and drivers relieved at B,
-- computed.
use Rattle.std.specs.Prelude.{◌≡◌, ℕ, pos, false, List, [], ◌∷◌, None, Some, refl}
use Rattle.plan_core.specs.declared.types.Piece.{Piece}
use Rattle.plan_core.specs.declared.types.Point.{Point}
use Rattle.cover_core.specs.declared.Column.{Column}
use Rattle.cover_core.specs.Plans.{all_items, times}
use Rattle.trip_times.specs.declared.trip.Trip.{Trip}
use Rattle.deadheads.specs.declared.moves.Ends.{Ends}
use Rattle.plan_params.specs.declared.rows.group.Group.{Group}
use Rattle.plan_params.specs.declared.rows.pool.Pool.{Pool}
use Rattle.day_model.specs.Blocks.{block_worth}
use Rattle.day_model.specs.Facts.{DayFacts}
use Rattle.umlauf_write.specs.declared.text.DutyRow.{DutyRow}
use Rattle.umlauf_write.specs.declared.text.PlanText.{PlanText}
use Rattle.cert_check.specs.Old.{old_duties, old_pieces}

abbrev point : ℕ → ℕ → Point
point typ nr = record { typ = typ; nr = nr }

abbrev trip : ℕ → Point → ℕ → Point → ℕ → Trip
trip fid from begin to end =
    record { fid = fid; line = 1; from = from; begin = record { 0 = pos begin }; to = to; end = record { 0 = pos end } }

-- the pool has one vehicle
abbrev pool : Pool
pool = record { number = 1; depot = point 2 9; typ = 1; cap = 1; fixed = 1000; dead_rate = 1; stand_rate = 0 }

abbrev group : Group
group = record { number = 5; home = point 2 9; cap = 1; fixed = 100; rate = 1; sign_on = 600; sign_off = 300; ten = false; reduced = false }

abbrev ends : Point → Point → Ends
ends from to = record { from = from; to = to }

-- the first trip lasts from 28,800 to 32,400, the second from 33,000 to 36,600
abbrev day : DayFacts
day = record {
  kind = record { version = 1; kind = 1; day = 20260302; weekday = 1 };
  rows = 0 ∷ 1 ∷ [];
  trips = trip 1 (point 1 1) 28800 (point 1 2) 32400 ∷ trip 2 (point 1 2) 33000 (point 1 1) 36600 ∷ [];
  params = record {
    settings = record { area = 1; group = 1; turn = 300; max_wait = 7200; handover = 300 };
    pools = pool ∷ [];
    groups =
        group ∷ [];
    admissions = [];
    reliefs = point 1 2 ∷ [];
    ways = [];
  };
  deads = (ends (point 2 9) (point 1 1), 600) ∷ (ends (point 1 1) (point 2 9), 600) ∷ (ends (point 2 9) (point 1 2), 900)
      ∷ (ends (point 1 2) (point 2 9), 900) ∷ [];
}

abbrev block : List ℕ → Column
block trips = record { class = 0; worth = 0; items = trips }

abbrev duty : List (ℕ × ℕ) → DutyRow
duty parts = record { group = 5; parts = parts }

abbrev text : List Column → List DutyRow → PlanText
text blocks duties = record { blocks = record { columns = blocks }; duties = duties; bounds = [] }

abbrev part : ℕ → ℕ → ℕ × ℕ
part block index = (block, index)

abbrev piece : ℕ → ℕ → Point → ℕ → Point → ℕ → ℕ → Piece
piece block index from begin to end driving =
    record {
      block = block;
      index = index;
      from = from;
      begin = record { 0 = pos begin };
      to = to;
      end =
          record { 0 = pos end };
      driving = driving;
    }

-- both trips in one block, which is cut at B, and one duty with both pieces
abbrev whole : PlanText
whole = text (block (0 ∷ 1 ∷ []) ∷ []) (duty (part 1 1 ∷ part 1 2 ∷ []) ∷ [])

whole_pieces : old_pieces day whole ≡ piece 1 1 (point 2 9) 28200 (point 1 2) 32400 4200
    ∷ piece 1 2 (point 1 2) 33000 (point 2 9) 37200 4200 ∷ []
whole_pieces = refl

whole_duties : old_duties day whole ≡ block (0 ∷ 1 ∷ []) ∷ []
whole_duties = refl

-- one duty that has the second piece alone: the first stands in none; a part that is no piece counts for none
abbrev half : PlanText
half = text (block (0 ∷ 1 ∷ []) ∷ []) (duty (part 1 2 ∷ part 9 1 ∷ []) ∷ [])

half_duties : old_duties day half ≡ block (1 ∷ 2 ∷ []) ∷ []
half_duties = refl

first_missing : times 0 (all_items (old_duties day half)) ≡ 0
first_missing = refl

second_there : times 1 (all_items (old_duties day half)) ≡ 1
second_there = refl

-- a block for each trip, one more than there are vehicles, and duties that share the second piece
abbrev two : PlanText
two = text (block (1 ∷ []) ∷ block (0 ∷ []) ∷ []) (duty (part 1 1 ∷ []) ∷ duty (part 2 1 ∷ part 1 1 ∷ []) ∷ [])

two_pieces : old_pieces day two ≡ piece 2 1 (point 2 9) 28200 (point 2 9) 33300 5100
    ∷ piece 1 1 (point 2 9) 32100 (point 2 9) 37200 5100 ∷ []
two_pieces = refl

-- the pieces are numbered by their starts
two_duties : old_duties day two ≡ block (1 ∷ []) ∷ block (0 ∷ 1 ∷ []) ∷ []
two_duties = refl

second_twice : times 1 (all_items (old_duties day two)) ≡ 2
second_twice = refl

-- a block of each trip has a worth, whatever vehicles there are; one that goes back in time has none
alone : block_worth day false 0 (1 ∷ []) ≡ Some 2500
alone = refl

back : block_worth day false 0 (1 ∷ 0 ∷ []) ≡ None
back = refl
