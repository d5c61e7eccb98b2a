-- Promise: the legs of a block, and the pieces that it is cut into.
use Rattle.std.specs.Prelude.{ℕ, ℤ, pos, ◌+ℤ◌, ◌-ℤ◌, ◌+◌, Bool, true, false, cond, ◌&&◌, ◌||◌, not, nat_le, List, [], ◌∷◌, ◌++◌, Option, Some, None, option_and_then, slice_get}
use Rattle.std.specs.Int.RustNames.{unsigned_abs}
use Rattle.std.specs.List.{list_all}
use Rattle.std.specs.Option.{option_map_or}
use Rattle.plan_core.specs.declared.types.Leg.{Leg}
use Rattle.plan_core.specs.declared.types.LegKind.{LegKind}
use Rattle.plan_core.specs.declared.types.LegKind.TheVariants.{PullOut, Trip, Deadhead, Stand, PullIn}
use Rattle.plan_core.specs.declared.types.Piece.{Piece}
use Rattle.plan_core.specs.declared.types.Point.{Point}
use Rattle.vdv452_tables.specs.Keys.{point_eq}
use Rattle.trip_times.specs.declared.trip.Trip.{Trip as TheTrip}
use Rattle.plan_params.specs.declared.rows.pool.Pool.{Pool}
use Rattle.day_model.specs.declared.link.Link.{Link}
use Rattle.day_model.specs.declared.link.Link.TheVariants.{Direct, Depot}
use Rattle.day_model.specs.Facts.{DayFacts, is_relief}
use Rattle.day_model.specs.Links.{link, pull_in, pull_out}

-- how long a leg lasts; no leg ends before it begins
abbrev pub duration : Leg → ℕ
duration leg = unsigned_abs (leg.end.0 -ℤ leg.begin.0)

abbrev pub is_stand : LegKind → Bool
is_stand Stand = true
is_stand _ = false

abbrev pub is_trip : LegKind → Bool
is_trip Trip = true
is_trip _ = false

-- a move between equal points and a stand of 0 seconds are left out
abbrev pub is_shown : Leg → Bool
is_shown leg = is_trip leg.kind || cond (is_stand leg.kind) (nat_le 1 (duration leg)) (not (point_eq leg.from leg.to))

abbrev pub shown : List Leg → List Leg
shown [] = []
shown (leg ∷ legs) = cond (is_shown leg) (leg ∷ shown legs) (shown legs)

abbrev pub leg : LegKind → Option ℕ → Point → ℤ → Point → ℤ → Leg
leg kind trip from begin to end =
    record { kind = kind; trip = trip; from = from; begin = record { 0 = begin }; to = to; end = record { 0 = end } }

-- what the vehicle does between two trips
abbrev pub link_legs : Pool → TheTrip → TheTrip → Link → List Leg
link_legs pool t u (Direct dead stand) =
    leg Deadhead None t.to t.end.0 u.from (t.end.0 +ℤ pos dead) ∷
    leg Stand None u.from (t.end.0 +ℤ pos dead) u.from u.begin.0 ∷ []
link_legs pool t u (Depot inward outward stand) =
    leg Deadhead None t.to t.end.0 pool.depot (t.end.0 +ℤ pos inward) ∷
    leg Stand None pool.depot (t.end.0 +ℤ pos inward) pool.depot (u.begin.0 -ℤ pos outward) ∷
    leg Deadhead None pool.depot (u.begin.0 -ℤ pos outward) u.from u.begin.0 ∷ []

abbrev pub trip_leg : ℕ → TheTrip → Leg
trip_leg k t = leg Trip (Some k) t.from t.begin.0 t.to t.end.0

-- the legs from a trip on
abbrev pub legs_from : DayFacts → Pool → ℕ → TheTrip → List ℕ → Option (List Leg)
legs_from day pool k t [] =
    option_and_then (λ inward. Some (trip_leg k t ∷ leg PullIn None t.to t.end.0 pool.depot (t.end.0 +ℤ pos inward) ∷ []))
    (pull_in day pool t)
legs_from day pool k t (j ∷ js) =
    option_and_then (λ u. option_and_then (λ l. option_and_then (λ rest. Some ((trip_leg k t ∷ link_legs pool t u l) ++ rest))
    (legs_from day pool j u js)) (link day pool t u)) (slice_get day.trips j)

-- the legs of a block in time order
abbrev pub legs_of : DayFacts → Pool → List ℕ → Option (List Leg)
legs_of day pool [] = None
legs_of day pool (k ∷ ks) =
    option_and_then (λ t. option_and_then (λ out. option_and_then (λ rest.
    Some (shown (leg PullOut None pool.depot (t.begin.0 -ℤ pos out) t.from t.begin.0 ∷ rest)))
    (legs_from day pool k t ks)) (pull_out day pool t)) (slice_get day.trips k)

-- a block is cut at a stand of at least the handover time at a relief point or the depot
abbrev pub is_cut : DayFacts → Pool → Leg → Bool
is_cut day pool l = is_stand l.kind && nat_le day.params.settings.handover (duration l)
    && (is_relief day l.from || point_eq l.from pool.depot)

abbrev pub onto_first : Leg → List (List Leg) → List (List Leg)
onto_first l [] = (l ∷ []) ∷ []
onto_first l (part ∷ parts) = (l ∷ part) ∷ parts

-- what lies between neighbouring cuts
abbrev pub parts : DayFacts → Pool → List Leg → List (List Leg)
parts day pool [] = [] ∷ []
parts day pool (l ∷ ls) = cond (is_cut day pool l) ([] ∷ parts day pool ls) (onto_first l (parts day pool ls))

abbrev pub driving_seconds : List Leg → ℕ
driving_seconds [] = 0
driving_seconds (l ∷ ls) = cond (is_stand l.kind) 0 (duration l) + driving_seconds ls

abbrev pub last_leg : Leg → List Leg → Leg
last_leg l [] = l
last_leg l (k ∷ ks) = last_leg k ks

abbrev pub piece_of : ℕ → ℕ → Leg → List Leg → Piece
piece_of block index l ls =
    let last = last_leg l ls in
    record {
      block = block;
      index = index;
      from = l.from;
      begin = l.begin;
      to = last.to;
      end = last.end;
      driving =
          driving_seconds (l ∷ ls);
    }

-- the pieces of a block, their indexes counted on from this one
abbrev pub pieces_from : ℕ → ℕ → List (List Leg) → List Piece
pieces_from block index [] = []
pieces_from block index ([] ∷ rest) = pieces_from block index rest
pieces_from block index ((l ∷ ls) ∷ rest) = piece_of block index l ls ∷ pieces_from block (index + 1) rest

abbrev pub pieces_of : DayFacts → Pool → ℕ → List ℕ → Option (List Piece)
pieces_of day pool block list = option_and_then (λ legs. Some (pieces_from block 1 (parts day pool legs))) (legs_of day pool list)

-- Four and a half hours: with more driving a piece is in no lawful duty, since a driver has no break within it (article 7 of
-- Regulation 561/2006).
abbrev pub longest_driving : ℕ
longest_driving = 16200

abbrev pub may_be_driven : Piece → Bool
may_be_driven piece = nat_le piece.driving longest_driving

-- whether drivers can be given each piece of a list of trips
abbrev pub can_be_driven : DayFacts → Pool → List ℕ → Bool
can_be_driven day pool list = option_map_or (λ pieces. list_all may_be_driven pieces) (pieces_of day pool 1 list) false
