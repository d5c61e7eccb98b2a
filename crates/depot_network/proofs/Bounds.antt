-- Blocks cost no more than all their seconds at the highest rate.
use Rattle.std.proofs.Common.{◌≡◌, ℕ, ℤ, pos, negsuc, ◌+◌, ◌*◌, ◌<◌, ◌≤◌, ◌≤ℤ◌, ◌+ℤ◌, ◌-ℤ◌, ◌*ℤ◌, ◌&&◌, zero, suc, List, [], ◌∷◌, length, All, Option, Some, None, refl, sym, ap, subst, ◌∙◌, arith, slice_get, nat_le}
use Rattle.std.specs.Prelude.{option_and_then}
use Rattle.std.proofs.lemmas.Int.{ints}
use Rattle.std.proofs.lemmas.List.Elements.{All-tail}
use Rattle.std.proofs.lemmas.Option.{same_Some}
pub use Rattle.std.proofs.lemmas.Option.{same_Some as some_same}
use Rattle.plan_core.proofs.Options.{given_some}
pub use Rattle.plan_core.proofs.Options.{and_then_some}
use Rattle.trip_times.specs.declared.trip.Trip.{Trip}
use Rattle.plan_params.specs.declared.rows.pool.Pool.{Pool}
use Rattle.day_model.specs.declared.link.Link.{Link}
use Rattle.day_model.specs.declared.link.Link.TheVariants.{Direct, Depot}
use Rattle.day_model.specs.Facts.{DayFacts, dead}
use Rattle.day_model.specs.Links.{depot_link, direct_for, direct_link, first_of, given, link, link_at, pull_out, pull_out_at, pull_out_over, seconds}
use Rattle.day_model.specs.Ranges.{IsDaily}
use Rattle.depot_network.specs.Walk.{IsCheapUntil, end_of, seconds_of}

-- a number of seconds is the number
pub seconds_some : (z : ℤ) (n : ℕ) → seconds z ≡ Some n → z ≡ pos n
seconds_some (pos m) n e = ap pos (same_Some m n e)
seconds_some (negsuc m) n e = absurd (cc)

-- the trip of a number, and that it is daily
pub trip_of : (trips : List Trip) (t : ℕ) → t < length trips → All IsDaily trips →
    (trip : Trip) × (slice_get trips t ≡ Some trip) × IsDaily trip
trip_of [] t within daily = absurd (omega (arith, within))
trip_of (trip ∷ trips) zero within daily = (trip, refl, daily 0 trip (omega arith))
trip_of (trip ∷ trips) (suc t) within daily = trip_of trips t (omega (arith, within)) (All-tail IsDaily trip trips daily)

-- a pull-out leaves at 0 or later
pub pull_out_leaves : (trip : Trip) (o : Option ℕ) (out : ℕ) → pull_out_over trip o ≡ Some out → pos out ≤ℤ trip.begin.0
pull_out_leaves trip o out e =
    let moved = and_then_some (λ (m : ℕ). option_and_then (λ (n : ℕ). Some m) (seconds (trip.begin.0 -ℤ pos m))) o out e in
    let left = and_then_some (λ (n : ℕ). Some moved.0) (seconds (trip.begin.0 -ℤ pos moved.0)) out moved.2 in
    let same : moved.0 ≡ out = same_Some moved.0 out left.2 in
    let z = seconds_some (trip.begin.0 -ℤ pos moved.0) left.0 left.1 in
    omega (arith, ints, z, same)

-- a connection and its stand fit between its trips
direct_fits : (day : DayFacts) (t u : Trip) (l : Link) → direct_link day t u ≡ Some l → pos (seconds_of l) ≤ℤ (u.begin.0 -ℤ t.end.0)
direct_fits day t u l e =
    let moved = and_then_some (λ (m : ℕ). direct_for day.params.settings m (seconds (u.begin.0 -ℤ t.end.0 -ℤ pos m)))
    (dead day t.to u.from) l e in
    let stood = and_then_some
    (λ (s : ℕ). given (nat_le day.params.settings.turn s && nat_le s day.params.settings.max_wait) (Some (Direct moved.0 s)))
    (seconds (u.begin.0 -ℤ t.end.0 -ℤ pos moved.0)) l moved.2 in
    let is : Direct moved.0 stood.0 ≡ l = same_Some (Direct moved.0 stood.0) l (given_some _ _ l stood.2).1 in
    let z = seconds_some (u.begin.0 -ℤ t.end.0 -ℤ pos moved.0) stood.0 stood.1 in
    let fits : pos (moved.0 + stood.0) ≤ℤ (u.begin.0 -ℤ t.end.0) = omega (arith, ints, z) in
    let P : Link → Type 0 = λ l. pos (seconds_of l) ≤ℤ (u.begin.0 -ℤ t.end.0) in
    subst P is fits

depot_fits : (day : DayFacts) (pool : Pool) (t u : Trip) (l : Link) → depot_link day pool t u ≡ Some l →
    pos (seconds_of l) ≤ℤ (u.begin.0 -ℤ t.end.0)
depot_fits day pool t u l e =
    let inward = and_then_some
    (λ (i : ℕ). option_and_then
    (λ (o : ℕ). option_and_then (λ (s : ℕ). Some (Depot i o s)) (seconds (u.begin.0 -ℤ t.end.0 -ℤ pos i -ℤ pos o)))
    (dead day pool.depot u.from)) (dead day t.to pool.depot) l e in
    let outward = and_then_some
    (λ (o : ℕ). option_and_then (λ (s : ℕ). Some (Depot inward.0 o s)) (seconds (u.begin.0 -ℤ t.end.0 -ℤ pos inward.0 -ℤ pos o)))
    (dead day pool.depot u.from) l inward.2 in
    let stood = and_then_some (λ (s : ℕ). Some (Depot inward.0 outward.0 s))
    (seconds (u.begin.0 -ℤ t.end.0 -ℤ pos inward.0 -ℤ pos outward.0)) l outward.2 in
    let is : Depot inward.0 outward.0 stood.0 ≡ l = same_Some (Depot inward.0 outward.0 stood.0) l stood.2 in
    let z = seconds_some (u.begin.0 -ℤ t.end.0 -ℤ pos inward.0 -ℤ pos outward.0) stood.0 stood.1 in
    let fits : pos (inward.0 + outward.0) ≤ℤ (u.begin.0 -ℤ t.end.0) = omega (arith, ints, z) in
    let P : Link → Type 0 = λ l. pos (seconds_of l) ≤ℤ (u.begin.0 -ℤ t.end.0) in
    subst P is fits

either_fits : (P : Link → Type 0) (a b : Option Link) (l : Link) → ((l : Link) → a ≡ Some l → P l) → ((l : Link) → b ≡ Some l → P l) →
    first_of a b ≡ Some l → P l
either_fits P None b l first second e = second l e
either_fits P (Some m) b l first second e = first l e

-- The seconds of a connection that may cost something lie between its trips, direct or via the depot: its stand is what is left of
-- that time, and it is there only where this is not below 0. So costs can be bounded by the clock, whatever deadheads there are.
pub link_fits : (day : DayFacts) (pool : Pool) (t u : Trip) (l : Link) → link day pool t u ≡ Some l →
    pos (seconds_of l) ≤ℤ (u.begin.0 -ℤ t.end.0)
link_fits day pool t u l e =
    either_fits (λ l. pos (seconds_of l) ≤ℤ (u.begin.0 -ℤ t.end.0)) (direct_link day t u) (depot_link day pool t u) l (direct_fits day t u)
    (depot_fits day pool t u) e

-- a block that begins with a trip
pub begun_cheap : (day : DayFacts) (pool : Pool) (class t : ℕ) (trip : Trip) (out fixed cost : ℕ) →
    slice_get day.params.pools class ≡ Some pool → slice_get day.trips t ≡ Some trip → IsDaily trip → Some out ≡ pull_out_at day class t →
    fixed ≤ 100000000 → cost ≤ 10000 * out →
    IsCheapUntil day t (fixed + cost)
begun_cheap day pool class t trip out fixed cost there at daily is low few =
    let leaves : pos out ≤ℤ trip.begin.0 =
    pull_out_leaves trip (dead day pool.depot trip.from) out (let e : pull_out_at day class t ≡ pull_out day pool trip =
    rw (there, at) refl in sym e ∙ sym is) in
    let ends : end_of day t ≡ trip.end.0 = rw at refl in
    record { so_far = rw ends (omega (arith, ints, leaves, daily.order, low, few)); in_time = rw ends daily.ends }

-- a block with a trip more
pub extended_cheap : (day : DayFacts) (pool : Pool) (class t u : ℕ) (trip next : Trip) (l : Link) (cost more : ℕ) →
    slice_get day.params.pools class ≡ Some pool → slice_get day.trips t ≡ Some trip → slice_get day.trips u ≡ Some next → IsDaily next →
    Some l ≡ link_at day class t u → more ≤ 10000 * seconds_of l →
    IsCheapUntil day t cost → IsCheapUntil day u (cost + more)
extended_cheap day pool class t u trip next l cost more there at at' daily is few cheap =
    let fits = link_fits day pool trip next l (let e : link_at day class t u ≡ link day pool trip next =
    rw (there, at, at') refl in sym e ∙ sym is) in
    let ends : end_of day t ≡ trip.end.0 = rw at refl in
    let ends' : end_of day u ≡ next.end.0 = rw at' refl in
    let so_far : pos cost ≤ℤ (pos 100000000 +ℤ (pos 10000 *ℤ trip.end.0)) =
    let P : ℤ → Type 0 = λ z. pos cost ≤ℤ (pos 100000000 +ℤ (pos 10000 *ℤ z)) in subst P ends cheap.so_far in
    record { so_far = rw ends' (omega (arith, ints, fits, daily.order, so_far, few)); in_time = rw ends' daily.ends }
