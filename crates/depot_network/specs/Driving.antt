-- Promise: the driving of a block, trip by trip: since the last cut, or since the start of the pull-out.
use Rattle.std.specs.Prelude.{ℕ, ◌+◌, ◌-ℤ◌, Bool, false, cond, ◌&&◌, ◌||◌, nat_le, List, [], ◌∷◌, Option, Some, option_and_then, is_some}
use Rattle.std.specs.Int.RustNames.{unsigned_abs}
use Rattle.std.specs.Option.{option_map_or}
use Rattle.plan_core.specs.declared.types.Point.{Point}
use Rattle.vdv452_tables.specs.Keys.{point_eq}
use Rattle.trip_times.specs.declared.trip.Trip.{Trip}
use Rattle.plan_params.specs.declared.rows.pool.Pool.{Pool}
use Rattle.day_model.specs.declared.link.Link.{Link}
use Rattle.day_model.specs.declared.link.Link.TheVariants.{Direct, Depot}
use Rattle.day_model.specs.Facts.{DayFacts, is_relief}
use Rattle.day_model.specs.Links.{given, link, pull_in, pull_out, with_trip}
use Rattle.day_model.specs.Pieces.{longest_driving}

-- how long a trip is driven
abbrev pub trip_seconds : Trip → ℕ
trip_seconds t = unsigned_abs (t.end.0 -ℤ t.begin.0)

-- how long a connection is driven before its stand
abbrev pub seconds_before : Link → ℕ
seconds_before (Direct move stand) = move
seconds_before (Depot inward outward stand) = inward

-- and after it
abbrev pub seconds_after : Link → ℕ
seconds_after (Direct move stand) = 0
seconds_after (Depot inward outward stand) = outward

-- how long the vehicle stands on a connection
abbrev pub stand_of : Link → ℕ
stand_of (Direct move stand) = stand
stand_of (Depot inward outward stand) = stand

-- where it stands: at the next trip's first point, or at the depot
abbrev pub stand_point : Pool → Trip → Link → Point
stand_point pool u (Direct move stand) = u.from
stand_point pool u (Depot inward outward stand) = pool.depot

-- whether a stand is a cut: it is not 0 seconds, lasts at least the handover time, and is at a relief point or the depot
abbrev pub is_cut_at : DayFacts → Pool → Point → ℕ → Bool
is_cut_at day pool at stand = nat_le 1 stand && (nat_le day.params.settings.handover stand && (is_relief day at || point_eq at pool.depot))

-- whether a block is cut on a connection to a trip
abbrev pub is_cut_on : DayFacts → Pool → Trip → Link → Bool
is_cut_on day pool u l = is_cut_at day pool (stand_point pool u l) (stand_of l)

-- driving that a piece may have
abbrev pub kept : ℕ → Option ℕ
kept driving = given (nat_le driving longest_driving) (Some driving)

-- The driving behind a stand, from that at the trip before it, the driving from there to the stand, and that from the stand on. Where the
-- stand is a cut, a piece ends before it and the next one begins after it.
abbrev pub driven_past : Bool → ℕ → ℕ → ℕ → Option ℕ
driven_past cut driving before second =
    cond cut (given (nat_le (driving + before) longest_driving) (kept second)) (kept (driving + before + second))

-- the driving at the end of a later trip, from that at the end of an earlier one
abbrev pub driven_over : DayFacts → Pool → Trip → Link → ℕ → Option ℕ
driven_over day pool u l driving =
    driven_past (is_cut_on day pool u l) driving (seconds_before l) (seconds_after l + trip_seconds u)

-- the driving at the end of a first trip
abbrev pub driven_first : DayFacts → Pool → ℕ → Option ℕ
driven_first day pool t = with_trip day t (λ trip. option_and_then (λ out. kept (out + trip_seconds trip)) (pull_out day pool trip))

-- the driving at the end of a later trip
abbrev pub driven_on : DayFacts → Pool → ℕ → ℕ → ℕ → Option ℕ
driven_on day pool driving t u =
    with_trip day t (λ trip. with_trip day u (λ next. option_and_then (λ l. driven_over day pool next l driving) (link day pool trip next)))

-- the driving at the end of the pull-in
abbrev pub driven_in : DayFacts → Pool → ℕ → ℕ → Option ℕ
driven_in day pool driving t = with_trip day t (λ trip. option_and_then (λ inward. kept (driving + inward)) (pull_in day pool trip))

-- whether the trips after a trip can be driven, from the driving at its end
abbrev pub drives_on : DayFacts → Pool → ℕ → ℕ → List ℕ → Bool
drives_on day pool driving t [] = is_some (driven_in day pool driving t)
drives_on day pool driving t (u ∷ us) = option_map_or (λ d. drives_on day pool d u us) (driven_on day pool driving t u) false

-- whether a list of trips can be driven
abbrev pub drives : DayFacts → Pool → List ℕ → Bool
drives day pool [] = false
drives day pool (t ∷ ts) = option_map_or (λ d. drives_on day pool d t ts) (driven_first day pool t) false
