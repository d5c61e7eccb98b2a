-- Promise: the marks of open blocks: lists of trips that may go on, with the driving since the last cut and the value so far.
use Rattle.std.specs.Prelude.{ℕ, ℤ, pos, ◌+ℤ◌, ◌-ℤ◌, int_le, ◌+◌, ◌*◌, Bool, cond, ◌&&◌, nat_lt, nat_le, nat_eq, List, length, Option, Some, None, option_and_then, slice_get, if◌then◌else◌}
use Rattle.plan_core.specs.declared.Price.{Price}
use Rattle.plan_core.specs.declared.types.Point.{Point}
use Rattle.cover_core.specs.declared.marks.BlockMark.{BlockMark}
use Rattle.cover_core.specs.Plans.{price_at}
use Rattle.trip_times.specs.declared.trip.Trip.{Trip}
use Rattle.plan_params.specs.declared.rows.pool.Pool.{Pool}
use Rattle.day_model.specs.declared.link.Link.{Link}
use Rattle.day_model.specs.declared.link.Link.TheVariants.{Direct, Depot}
use Rattle.day_model.specs.Facts.{DayFacts, admits}
use Rattle.day_model.specs.Links.{given, link, pull_in, pull_out, with_pool, with_trip}
use Rattle.day_model.specs.Blocks.{link_cost}
use Rattle.day_model.specs.Pieces.{longest_driving}
use Rattle.mark_cover.specs.Marking.{Marking}
use Rattle.depot_network.specs.Driving.{is_cut_at, trip_seconds}
use Rattle.depot_network.specs.Open.{scaled}

abbrev pub mark : ℕ → ℕ → ℕ → ℤ → BlockMark
mark class trip driving value = record { class = class; trip = trip; driving = driving; value = value }

-- a mark whose driving keeps the limit
abbrev pub kept : BlockMark → Option BlockMark
kept m = given (nat_le m.driving longest_driving) (Some m)

-- the mark of a block of one trip: the pull-out and the trip are driven
abbrev pub first_mark : DayFacts → Bool → List Price → ℕ → ℕ → Option BlockMark
first_mark day counts prices class k =
    with_pool day class (λ pool. with_trip day k (λ t. given (admits day t.line pool.typ) (option_and_then (λ out.
    kept (mark class k (out + trip_seconds t)
    (cond counts (pos 1000) (pos (1000 * (pool.fixed + pool.dead_rate * out))) -ℤ price_at prices k)))
    (pull_out day pool t))))

-- where a connection's stand lies, how long it lasts, and the seconds that are driven empty before and behind it
pub record Moves : Type 0 where
  pub at : Point
  pub stand : ℕ
  pub before : ℕ
  pub behind : ℕ

abbrev pub moves_of : Pool → Trip → Link → Moves
moves_of pool u (Direct move stand) = record { at = u.from; stand = stand; before = move; behind = 0 }
moves_of pool u (Depot inward outward stand) = record { at = pool.depot; stand = stand; before = inward; behind = outward }

-- the stand is a cut where it is not 0, lasts at least the handover time, and lies at a relief point or at the depot
abbrev pub is_cut_stand : DayFacts → Pool → Moves → Bool
is_cut_stand day pool m = is_cut_at day pool m.at m.stand

-- with a cut the first part ends there and each part keeps the limit; without one their sum does
abbrev pub driven_on : Bool → ℕ → ℕ → ℕ → ℤ → ℕ → Option BlockMark
driven_on cut first second class value k =
    if cut then given (nat_le first longest_driving) (kept (mark class k second value)) else kept (mark class k (first + second) value)

abbrev pub extended_over : DayFacts → Bool → List Price → Pool → BlockMark → ℕ → Trip → Link → Option BlockMark
extended_over day counts prices pool m k u l =
    let moves = moves_of pool u l in
    driven_on (is_cut_stand day pool moves) (m.driving + moves.before) (moves.behind + trip_seconds u) m.class
    (m.value +ℤ scaled counts (link_cost pool u l) -ℤ price_at prices k) k

-- the mark of a block with a later trip more
abbrev pub extended_mark : DayFacts → Bool → List Price → BlockMark → ℕ → Option BlockMark
extended_mark day counts prices m k =
    with_pool day m.class (λ pool. with_trip day m.trip (λ t. with_trip day k (λ u. given (nat_lt m.trip k && admits day u.line pool.typ)
    (option_and_then (extended_over day counts prices pool m k u) (link day pool t u)))))

-- the value of a block that is driven in
abbrev pub closed_value : DayFacts → Bool → BlockMark → Option ℤ
closed_value day counts m =
    with_pool day m.class (λ pool. with_trip day m.trip (λ t. option_and_then (λ inward.
    given (nat_le (m.driving + inward) longest_driving) (Some (m.value +ℤ scaled counts (pool.dead_rate * inward)))) (pull_in day pool t)))

-- class and trip are equal, and driving and value are not greater
abbrev pub is_as_good : BlockMark → BlockMark → Bool
is_as_good a b = (nat_eq a.class b.class && nat_eq a.trip b.trip) && (nat_le a.driving b.driving && int_le a.value b.value)

-- the marks of the blocks of a day
abbrev pub block_marking : DayFacts → Bool → List Price → Marking BlockMark
block_marking day counts prices = record {
  items = length day.trips;
  classes = length day.params.pools;
  start = first_mark day counts prices;
  extend = extended_mark day counts prices;
  close = closed_value day counts;
  good = is_as_good;
  class_of = λ m. m.class;
  last = λ m. m.trip;
}
