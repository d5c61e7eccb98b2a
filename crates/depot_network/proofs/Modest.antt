-- No block is worth more than 4,000,000,000: up to its last trip it costs no more than its seconds, which lie within two days, and its
-- pull-in is part of a piece's driving.
use Rattle.std.proofs.Common.{◌≡◌, ℕ, ◌+◌, ◌*◌, ◌≤◌, Bool, true, false, cond, nat_lt, nat_le, zero, suc, List, [], ◌∷◌, All, Option, Some, None, refl, sym, subst, ◌∙◌, arith, slice_get, mul-le-mul, le_refl}
use Rattle.std.specs.Prelude.{option_and_then, is_some, IfSome}
use Rattle.std.specs.Option.{option_map}
use Rattle.std.proofs.lemmas.Bool.Decides.{nat_tests}
use Rattle.std.proofs.lemmas.Int.{ints}
use Rattle.std.proofs.lemmas.List.Elements.{All-head, All-map, All-tail, All-weaker}
use Rattle.std.proofs.lemmas.Option.{same_Some}
use Rattle.plan_core.proofs.Options.{and_then_some, given_some}
use Rattle.cover_core.specs.Ranges.{HasFewPlaces, HasModestWorths}
use Rattle.vdv452_tables.specs.Keys.{point_eq}
use Rattle.trip_times.specs.declared.trip.Trip.{Trip}
use Rattle.plan_params.specs.declared.rows.pool.Pool.{Pool}
use Rattle.plan_params.specs.Limits.{HaveRanges, IsPool}
use Rattle.day_model.specs.declared.link.Link.{Link}
use Rattle.day_model.specs.declared.link.Link.TheVariants.{Direct, Depot}
use Rattle.day_model.specs.Facts.{DayFacts, admits}
use Rattle.day_model.specs.Links.{given, link, link_at, pull_in, pull_out, pull_out_at}
use Rattle.day_model.specs.Blocks.{block_worth, link_cost}
use Rattle.day_model.specs.Ranges.{IsDaily}
use Rattle.depot_network.specs.declared.step.Step.{Step}
use Rattle.depot_network.specs.Driving.{driven_first, driven_in, driven_on, kept}
use Rattle.depot_network.specs.Network.{NetFacts, blocks}
use Rattle.depot_network.specs.Walk.{IsCheapUntil, added, begun, ended, first_step, last_step, next_step, seconds_of, stepped, steps}
use Rattle.depot_network.proofs.Bounds.{begun_cheap, extended_cheap}
use Rattle.depot_network.proofs.Opens.{in_is, joined_parts, map_some}
use Rattle.depot_network.proofs.Walks.{worth_walked}

-- the trip at a number is daily, and the pool at a number is in its ranges
daily_at : (trips : List Trip) (k : ℕ) (trip : Trip) → All IsDaily trips → slice_get trips k ≡ Some trip → IsDaily trip
daily_at [] k trip all is = absurd (cc)
daily_at (x ∷ xs) zero trip all is = let P : Trip → Type 0 = λ y. IsDaily y in subst P (same_Some x trip is) (All-head IsDaily x xs all)
daily_at (x ∷ xs) (suc k) trip all is = daily_at xs k trip (All-tail IsDaily x xs all) is

pool_at : (pools : List Pool) (k : ℕ) (pool : Pool) → All IsPool pools → slice_get pools k ≡ Some pool → IsPool pool
pool_at [] k pool all is = absurd (cc)
pool_at (x ∷ xs) zero pool all is = let P : Pool → Type 0 = λ y. IsPool y in subst P (same_Some x pool is) (All-head IsPool x xs all)
pool_at (x ∷ xs) (suc k) pool all is = pool_at xs k pool (All-tail IsPool x xs all) is

-- seconds at a rate
charged_low : (rate seconds : ℕ) → rate ≤ 10000 → rate * seconds ≤ 10000 * seconds
charged_low rate seconds low = mul-le-mul low (le_refl seconds)

-- a connection costs no more than its seconds at the highest rate
link_low : (pool : Pool) (u : Trip) (l : Link) → IsPool pool → link_cost pool u l ≤ 10000 * seconds_of l
link_low pool u (Direct move stand) is =
    let driven : pool.dead_rate * move ≤ 10000 * move = charged_low pool.dead_rate move is.dead_rate in
    elim (point_eq u.from pool.depot) as (λ b. pool.dead_rate * move + pool.stand_rate * cond b 0 stand ≤ 10000 * (move + stand)) [
      | true ↦ let none : pool.stand_rate * 0 ≤ 10000 * 0 = charged_low pool.stand_rate 0 is.stand_rate in omega arith
      | false ↦ let stood : pool.stand_rate * stand ≤ 10000 * stand = charged_low pool.stand_rate stand is.stand_rate in omega arith
    ]
link_low pool u (Depot inward outward stand) is =
    let driven : pool.dead_rate * (inward + outward) ≤ 10000 * (inward + outward) =
    charged_low pool.dead_rate (inward + outward) is.dead_rate in
    let none : pool.stand_rate * 0 ≤ 10000 * 0 = charged_low pool.stand_rate 0 is.stand_rate in
    omega arith

-- the trips of a day are daily and its pools in their ranges
record IsSound (day : DayFacts) : Type 0 where
  pub daily : All IsDaily day.trips
  pub pools : All IsPool day.params.pools

-- pulls and connections of a pool and of trips that are there
pulled_at : (day : DayFacts) (pool : Pool) (class t : ℕ) (trip : Trip) → slice_get day.params.pools class ≡ Some pool →
    slice_get day.trips t ≡ Some trip → pull_out_at day class t ≡ pull_out day pool trip
pulled_at day pool class t trip there at = rw (there, at) refl

linked_at : (day : DayFacts) (pool : Pool) (class t u : ℕ) (trip next : Trip) → slice_get day.params.pools class ≡ Some pool →
    slice_get day.trips t ≡ Some trip → slice_get day.trips u ≡ Some next →
    link_at day class t u ≡ link day pool trip next
linked_at day pool class t u trip next there at at_next = rw (there, at, at_next) refl

-- a block that begins with a trip is cheap up to it
first_low : (day : DayFacts) (pool : Pool) (class t cost : ℕ) → IsSound day → slice_get day.params.pools class ≡ Some pool →
    begun day pool t ≡ Some cost → IsCheapUntil day t cost
first_low day pool class t cost sound there e =
    let begin : ℕ → ℕ = λ out. pool.fixed + pool.dead_rate * out in
    let (trip, at, e1) = and_then_some (λ (trip : Trip). given (admits day trip.line pool.typ) (option_map begin (pull_out day pool trip)))
    (slice_get day.trips t) cost e in
    let (admitted, e2) = given_some (admits day trip.line pool.typ) (option_map begin (pull_out day pool trip)) cost e1 in
    let (out, is_out, same) = map_some begin (pull_out day pool trip) cost e2 in
    let is = pool_at day.params.pools class pool sound.pools there in
    let pulled = pulled_at day pool class t trip there at in
    let P : ℕ → Type 0 = λ n. IsCheapUntil day t n in
    subst P same (begun_cheap day pool class t trip out pool.fixed (pool.dead_rate * out)
    there at (daily_at day.trips t trip sound.daily at) (sym (pulled ∙ is_out)) is.fixed (charged_low pool.dead_rate out is.dead_rate))

-- and so it stays with each trip more
more_low : (day : DayFacts) (pool : Pool) (class t u cost more : ℕ) → IsSound day → slice_get day.params.pools class ≡ Some pool →
    added day pool t u ≡ Some more → IsCheapUntil day t cost →
    IsCheapUntil day u (cost + more)
more_low day pool class t u cost more sound there e cheap =
    let over : Trip → Trip → Option ℕ =
    λ trip next. given (nat_lt t u)
    (given (admits day next.line pool.typ) (option_map (λ l. link_cost pool next l) (link day pool trip next))) in
    let (trip, at, e1) = and_then_some (λ (trip : Trip). option_and_then (over trip) (slice_get day.trips u))
    (slice_get day.trips t) more e in
    let (next, at_next, e2) = and_then_some (over trip) (slice_get day.trips u) more e1 in
    let (later, e3) = given_some (nat_lt t u)
    (given (admits day next.line pool.typ) (option_map (λ l. link_cost pool next l) (link day pool trip next))) more e2 in
    let (admitted, e4) = given_some (admits day next.line pool.typ)
    (option_map (λ l. link_cost pool next l) (link day pool trip next)) more e3 in
    let (l, is_link, same) = map_some (λ l. link_cost pool next l) (link day pool trip next) more e4 in
    let linked = linked_at day pool class t u trip next there at at_next in
    let few : link_cost pool next l ≤ 10000 * seconds_of l = link_low pool next l (pool_at day.params.pools class pool sound.pools there) in
    let P : ℕ → Type 0 = λ n. IsCheapUntil day u (cost + n) in
    subst P same (extended_cheap day pool class t u trip next l cost (link_cost pool next l) there at at_next
    (daily_at day.trips u next sound.daily at_next) (sym (linked ∙ is_link)) few cheap)

-- driving that a piece may have is at most four and a half hours
kept_low : (n : ℕ) → is_some (kept n) ≡ true → n ≤ 16200
kept_low n e =
    let low : (b : Bool) → nat_le n 16200 ≡ b → is_some (given b (Some n)) ≡ true → n ≤ 16200 =
    λ b. elim b as (λ b. nat_le n 16200 ≡ b → is_some (given b (Some n)) ≡ true → n ≤ 16200) [
      | true ↦ λ test e. grind (arith, nat_tests)
      | false ↦ λ test e. absurd (cc)
    ] in low (nat_le n 16200) refl e

-- The pull-in is part of the last piece, whose driving is at most four and a half hours; so it costs at most these seconds at the
-- highest rate, though nothing else bounds a deadhead that short.
last_low : (day : DayFacts) (pool : Pool) (driving t more : ℕ) → IsPool pool → last_step day pool driving t ≡ Some more → more ≤ 162000000
last_low day pool driving t more is e =
    let (driven, e1) = given_some (is_some (driven_in day pool driving t)) (ended day pool t) more e in
    let (trip, at, e2) = and_then_some (λ (trip : Trip). option_map (λ (inward : ℕ). pool.dead_rate * inward) (pull_in day pool trip))
    (slice_get day.trips t) more e1 in
    let (inward, is_inward, same) = map_some (λ (inward : ℕ). pool.dead_rate * inward) (pull_in day pool trip) more e2 in
    let within = in_is day pool driving t inward trip at is_inward in
    let Kept : Option ℕ → Type 0 = λ o. is_some o ≡ true in
    let short : driving + inward ≤ 16200 = kept_low (driving + inward) (subst Kept within driven) in
    let few : pool.dead_rate * inward ≤ 10000 * inward = charged_low pool.dead_rate inward is.dead_rate in
    omega (arith, short, few, same)

-- No block is worth more than 4,000,000,000, by induction over its trips with any cost so far. What is kept is not a bound by the
-- number of trips but by time: up to the end of a trip a block costs at most the fixed cost and all seconds until then at the
-- highest rate, since its deadheads and stands lie one behind another (`more_low`). All trips end within two days, and the pull-in
-- adds little.
stepped_low : (day : DayFacts) (pool : Pool) (class cost driving t : ℕ) (us : List ℕ) (total : ℕ) → IsSound day →
    slice_get day.params.pools class ≡ Some pool → IsCheapUntil day t cost →
    stepped day pool cost driving t us ≡ Some total → total ≤ 4000000000
stepped_low day pool class cost driving t [] total sound there cheap e =
    let (more, is_more, same) = map_some (λ (more : ℕ). cost + more) (last_step day pool driving t) total e in
    let few = last_low day pool driving t more (pool_at day.params.pools class pool sound.pools there) is_more in
    let so_far = cheap.so_far in
    let in_time = cheap.in_time in
    omega (arith, ints, so_far, in_time, few, same)
stepped_low day pool class cost driving t (u ∷ us) total sound there cheap e =
    let (step, is_step, rest) =
    and_then_some (λ (step : Step). stepped day pool (cost + step.cost) step.driving u us) (next_step day pool driving t u) total e in
    let more = joined_parts (added day pool t u) (driven_on day pool driving t u) step is_step in
    stepped_low day pool class (cost + step.cost) step.driving u us total sound there
    (more_low day pool class t u cost step.cost sound there more.0 cheap) rest

steps_low : (day : DayFacts) (pool : Pool) (class : ℕ) (list : List ℕ) (total : ℕ) → IsSound day →
    slice_get day.params.pools class ≡ Some pool → steps day pool list ≡ Some total → total ≤ 4000000000
steps_low day pool class [] total sound there e = absurd (cc)
steps_low day pool class (t ∷ us) total sound there e =
    let (step, is_step, rest) =
    and_then_some (λ (step : Step). stepped day pool step.cost step.driving t us) (first_step day pool t) total e in
    let begin = joined_parts (begun day pool t) (driven_first day pool t) step is_step in
    stepped_low day pool class step.cost step.driving t us total sound there (first_low day pool class t step.cost sound there begin.0) rest

counted_low : (counts : Bool) (cost : ℕ) → cost ≤ 4000000000 → cond counts 1 cost ≤ 4000000000
counted_low true cost low = omega arith
counted_low false cost low = low

block_low : (day : DayFacts) (counts : Bool) (class : ℕ) (list : List ℕ) (worth : ℕ) → IsSound day →
    block_worth day counts class list ≡ Some worth → worth ≤ 4000000000
block_low day counts class list worth sound e =
    let one : ℕ → Option ℕ = λ c. Some (cond counts 1 c) in
    let (cost, is_cost, same) =
    and_then_some one (option_and_then (λ (pool : Pool). steps day pool list) (slice_get day.params.pools class)) worth
    (sym (worth_walked day counts class list) ∙ e) in
    let (pool, there, walked) = and_then_some (λ (pool : Pool). steps day pool list) (slice_get day.params.pools class) cost is_cost in
    let low = counted_low counts cost (steps_low day pool class list cost sound there walked) in
    let is : cond counts 1 cost ≡ worth = same_Some (cond counts 1 cost) worth same in
    omega (arith, low, is)

-- the worths of the blocks of a day, where its trips are daily and its settings in their ranges
pub modest_blocks : (net : NetFacts) → All IsDaily net.day.trips → HaveRanges net.day.params → HasModestWorths (blocks net)
modest_blocks net daily ranges class list there = low (block_worth net.day net.counts class list) refl
  where
    low : (o : Option ℕ) → block_worth net.day net.counts class list ≡ o → IfSome o (λ worth. worth ≤ 4000000000)
    low None e = tt
    low (Some worth) e = block_low net.day net.counts class list worth (record { daily = daily; pools = ranges.pools }) e

-- no pool has more than 10,000 vehicles
pub few_vehicles : (net : NetFacts) → HaveRanges net.day.params → HasFewPlaces (blocks net)
few_vehicles net ranges =
    let pools = net.day.params.pools in
    All-map (λ cap. cap ≤ 10000) (λ (pool : Pool). pool.cap) pools
    (All-weaker IsPool (λ (pool : Pool). pool.cap ≤ 10000) (λ pool is. is.cap) pools ranges.pools)
