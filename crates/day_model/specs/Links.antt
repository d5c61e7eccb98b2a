-- Promise: the connections between trips and the pulls of pools (multi-depot vehicle scheduling).
use Rattle.std.specs.Prelude.{ℕ, ℤ, pos, negsuc, ◌-ℤ◌, Bool, ◌&&◌, nat_le, Option, Some, None, option_and_then, slice_get, is_some, if◌then◌else◌}
use Rattle.trip_times.specs.declared.trip.Trip.{Trip}
use Rattle.plan_params.specs.declared.rows.pool.Pool.{Pool}
use Rattle.plan_params.specs.declared.rows.settings.Settings.{Settings}
use Rattle.day_model.specs.declared.link.Link.{Link}
use Rattle.day_model.specs.declared.link.Link.TheVariants.{Direct, Depot}
use Rattle.day_model.specs.Facts.{DayFacts, admits, dead}

-- a number of seconds that is not below 0
abbrev pub seconds : ℤ → Option ℕ
seconds (pos n) = Some n
seconds (negsuc n) = None

-- a value that is there where a test holds
abbrev pub given : {A : Type 0} → Bool → Option A → Option A
given test o = if test then o else None

-- the first of two that is there
abbrev pub first_of : {A : Type 0} → Option A → Option A → Option A
first_of (Some x) o = Some x
first_of None o = o

-- The vehicle drives to the next trip at once and stands there, at least for the minimum layover and at most for the greatest wait.
abbrev pub direct_for : Settings → ℕ → Option ℕ → Option Link
direct_for settings move stand =
    option_and_then (λ stand. given (nat_le settings.turn stand && nat_le stand settings.max_wait) (Some (Direct move stand))) stand

abbrev pub direct_over : Settings → Trip → Trip → Option ℕ → Option Link
direct_over settings t u move = option_and_then (λ move. direct_for settings move (seconds (u.begin.0 -ℤ t.end.0 -ℤ pos move))) move

abbrev pub direct_link : DayFacts → Trip → Trip → Option Link
direct_link day t u = direct_over day.params.settings t u (dead day t.to u.from)

-- The vehicle drives to the depot at once, stands there, and leaves so that it arrives at the next trip's start.
abbrev pub depot_for : ℕ → ℕ → Option ℕ → Option Link
depot_for inward outward stand = option_and_then (λ stand. Some (Depot inward outward stand)) stand

abbrev pub depot_over : Trip → Trip → Option ℕ → Option ℕ → Option Link
depot_over t u inward outward =
    option_and_then (λ inward.
    option_and_then (λ outward. depot_for inward outward (seconds (u.begin.0 -ℤ t.end.0 -ℤ pos inward -ℤ pos outward))) outward)
    inward

abbrev pub depot_link : DayFacts → Pool → Trip → Trip → Option Link
depot_link day pool t u = depot_over t u (dead day t.to pool.depot) (dead day pool.depot u.from)

-- the connection of a pool from a trip to a later one: direct where that can be, else via the depot, else none
abbrev pub link : DayFacts → Pool → Trip → Trip → Option Link
link day pool t u = first_of (direct_link day t u) (depot_link day pool t u)

-- the deadhead from the depot to a trip: it arrives exactly at the trip's start, and leaves at 0 or later
abbrev pub pull_out_over : Trip → Option ℕ → Option ℕ
pull_out_over t out = option_and_then (λ out. option_and_then (λ leaves. Some out) (seconds (t.begin.0 -ℤ pos out))) out

abbrev pub pull_out : DayFacts → Pool → Trip → Option ℕ
pull_out day pool t = pull_out_over t (dead day pool.depot t.from)

-- the deadhead from a trip to the depot: it leaves at the trip's end
abbrev pub pull_in : DayFacts → Pool → Trip → Option ℕ
pull_in day pool t = dead day t.to pool.depot

-- Of trips and pools by their numbers.
abbrev pub with_pool : {A : Type 0} → DayFacts → ℕ → (Pool → Option A) → Option A
with_pool day class value = option_and_then value (slice_get day.params.pools class)

abbrev pub with_trip : {A : Type 0} → DayFacts → ℕ → (Trip → Option A) → Option A
with_trip day trip value = option_and_then value (slice_get day.trips trip)

abbrev pub link_at : DayFacts → ℕ → ℕ → ℕ → Option Link
link_at day class t u = with_pool day class (λ pool. with_trip day t (λ trip. with_trip day u (λ next. link day pool trip next)))

abbrev pub pull_out_at : DayFacts → ℕ → ℕ → Option ℕ
pull_out_at day class t = with_pool day class (λ pool. with_trip day t (λ trip. pull_out day pool trip))

abbrev pub pull_in_at : DayFacts → ℕ → ℕ → Option ℕ
pull_in_at day class t = with_pool day class (λ pool. with_trip day t (λ trip. pull_in day pool trip))

-- whether a pool's vehicles may serve a trip's line
abbrev pub admits_at : DayFacts → ℕ → ℕ → Bool
admits_at day class t = is_some (with_pool day class (λ pool. with_trip day t (λ trip. given (admits day trip.line pool.typ) (Some trip))))
