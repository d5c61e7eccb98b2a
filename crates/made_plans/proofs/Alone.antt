-- Each trip of a roomy day has room of its own.
use Rattle.std.proofs.Common.{◌≡◌, ℕ, ◌+◌, ◌*◌, true, false, [], ◌∷◌, Some, refl, ◌∙◌, arith, slice_get, nat_le}
use Rattle.std.proofs.lemmas.Bool.{le-leb}
use Rattle.trip_times.specs.declared.trip.Trip.{Trip}
use Rattle.plan_params.specs.declared.rows.group.Group.{Group}
use Rattle.plan_params.specs.declared.rows.pool.Pool.{Pool}
use Rattle.day_model.specs.Facts.{DayFacts}
use Rattle.day_model.specs.Blocks.{block_worth}
use Rattle.day_model.specs.Pieces.{can_be_driven, longest_driving}
use Rattle.depot_network.specs.Driving.{drives, trip_seconds}
use Rattle.depot_network.proofs.Drives.{driven_is}
use Rattle.made_plans.specs.Roomy.{IsAlone, IsRoomyWith}
use Rattle.made_plans.specs.Rooms.{HasRoomForTrips}
use Rattle.made_plans.proofs.Places.{there, first_mapped}

-- a trip alone can be driven
alone_drives : (day : DayFacts) (pool : Pool) (k : ℕ) (t : Trip) → slice_get day.trips k ≡ Some t → IsAlone day pool t →
    drives day pool (k ∷ []) ≡ true
alone_drives day pool k t at is =
    let out_is = is.out_is in
    let in_is = is.in_is in
    let short = is.short in
    let first : nat_le (is.out + trip_seconds t) longest_driving ≡ true =
    le-leb (is.out + trip_seconds t) longest_driving (omega (arith, short)) in
    let last : nat_le (is.out + trip_seconds t + is.inward) longest_driving ≡ true =
    le-leb (is.out + trip_seconds t + is.inward) longest_driving short in
    rw (at, out_is, first, in_is, last) refl

-- a trip alone has a worth as a block of the pool
alone_worth : (day : DayFacts) (pool : Pool) (k : ℕ) (t : Trip) → slice_get day.params.pools 0 ≡ Some pool →
    slice_get day.trips k ≡ Some t → (is : IsAlone day pool t) →
    block_worth day false 0 (k ∷ []) ≡ Some (pool.fixed + pool.dead_rate * is.out + pool.dead_rate * is.inward)
alone_worth day pool k t pool_is at is =
    let out_is = is.out_is in
    let in_is = is.in_is in
    let admitted = is.admitted in
    let driven : can_be_driven day pool (k ∷ []) ≡ true = driven_is day pool (k ∷ []) ∙ alone_drives day pool k t at is in
    rw (pool_is, driven, at, admitted, out_is, in_is) refl

-- A trip alone is a block of the first pool: it is admitted, has a pull-out and a pull-in, and these with the trip are driven within
-- four and a half hours, so that the one piece that such a block has may be driven. As the pool has as many vehicles as there are
-- trips, no number of such blocks is too many.
pub room_for_trips : (day : DayFacts) (pool : Pool) (group : Group) (way : ℕ) → IsRoomyWith day pool group way → HasRoomForTrips day
room_for_trips day pool group way roomy k within =
    let (t, at) = there day.trips k within in
    let alone = roomy.alone k t at in
    let (some, first) = first_mapped (λ (q : Pool). q.cap) day.params.pools pool roomy.pool_is in
    record {
      class = 0;
      worth = pool.fixed + pool.dead_rate * alone.out + pool.dead_rate * alone.inward;
      there = some;
      alone = alone_worth day pool k t roomy.pool_is at alone;
      wide = omega (arith, first, roomy.vehicles);
    }
