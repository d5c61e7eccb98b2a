-- The legs of a block, trip by trip.
use Rattle.std.proofs.Common.{◌≡◌, ℕ, pos, ◌+◌, ◌*◌, ◌<◌, ◌-ℤ◌, Bool, true, false, cond, List, [], ◌∷◌, ◌++◌, length, drop, Option, Some, None, refl, sym, ap, subst, ◌∙◌, append_assoc, slice_get, slice_index, get_or, is_some, add-one, drop-cons}
use Rattle.std.specs.Prelude.{option_and_then}
use Rattle.std.proofs.lemmas.Option.{slice_get-get_or, slice_get_within, same_Some}
use Rattle.plan_core.specs.declared.types.Leg.{Leg}
use Rattle.plan_core.specs.declared.types.LegKind.TheVariants.{PullOut}
use Rattle.plan_core.proofs.Options.{and_then_some}
use Rattle.cover_core.specs.Cover.{AllBelow}
use Rattle.trip_times.specs.declared.trip.Trip.{Trip as TheTrip}
use Rattle.plan_params.specs.declared.rows.pool.Pool.{Pool}
use Rattle.day_model.specs.declared.link.Link.{Link}
use Rattle.day_model.specs.Blocks.{block_cost, block_worth, cost_from, link_cost, rises, trips_at}
use Rattle.day_model.specs.Facts.{DayFacts}
use Rattle.day_model.specs.Links.{given, link, pull_in, pull_out, with_pool}
use Rattle.day_model.specs.Pieces.{can_be_driven, is_shown, leg, legs_from, legs_of, link_legs, shown, trip_leg}
use Rattle.block_cut.specs.Legs.{legs_at, legs_or, until_next}
use Rattle.block_cut.proofs.Times.{given_some}

pub some_from : {A : Type 0} (o : Option A) → is_some o ≡ true → (x : A) × (o ≡ Some x)
some_from None e = absurd (cc)
some_from (Some x) e = (x, refl)

shown_if : (b : Bool) (l : Leg) (xs ys : List Leg) → cond b (l ∷ (xs ++ ys)) (xs ++ ys) ≡ cond b (l ∷ xs) xs ++ ys
shown_if true l xs ys = refl
shown_if false l xs ys = refl

pub shown_append : (xs ys : List Leg) → shown (xs ++ ys) ≡ shown xs ++ shown ys
shown_append [] ys = refl
shown_append (l ∷ xs) ys = ap (λ ls. cond (is_shown l) (l ∷ ls) ls) (shown_append xs ys) ∙ shown_if (is_shown l) l (shown xs) (shown ys)

-- The legs from a trip on are those until the next one begins, and those from that one on. The rules state a block's legs from its
-- end, the code puts them together from its start; this is the step between the two readings, and it also says that each part is
-- there where the whole is.
pub record Splits (day : DayFacts) (pool : Pool) (t u : ℕ) (us : List ℕ) : Type 0 where
  pub first : is_some (until_next day pool t u) ≡ true
  pub rest : is_some (legs_at day pool u us) ≡ true
  pub whole : legs_or (legs_at day pool t (u ∷ us)) ≡ legs_or (until_next day pool t u) ++ legs_or (legs_at day pool u us)

abbrev All_of : List Leg → Option (List Leg) → Option (List Leg)
All_of first others = option_and_then (λ (rest : List Leg). Some (first ++ rest)) others

until_is : (day : DayFacts) (pool : Pool) (t u : ℕ) (trip next : TheTrip) (l : Link) → slice_get day.trips t ≡ Some trip →
    slice_get day.trips u ≡ Some next → link day pool trip next ≡ Some l →
    until_next day pool t u ≡ Some (trip_leg t trip ∷ link_legs pool trip next l)
until_is day pool t u trip next l at at' linked = rw (at, at', linked) refl

pub splits : (day : DayFacts) (pool : Pool) (t u : ℕ) (us : List ℕ) → is_some (legs_at day pool t (u ∷ us)) ≡ true → Splits day pool t u us
splits day pool t u us some =
    let whole = some_from (legs_at day pool t (u ∷ us)) some in
    let first = and_then_some (λ (trip : TheTrip). legs_from day pool t trip (u ∷ us)) (slice_get day.trips t) whole.0 whole.1 in
    let trip : TheTrip = first.0 in
    let second = and_then_some
    (λ (next : TheTrip). option_and_then
    (λ (l : Link). All_of (trip_leg t trip ∷ link_legs pool trip next l) (legs_from day pool u next us)) (link day pool trip next))
    (slice_get day.trips u) whole.0 first.2 in
    let next : TheTrip = second.0 in
    let linked = and_then_some (λ (l : Link). All_of (trip_leg t trip ∷ link_legs pool trip next l) (legs_from day pool u next us))
    (link day pool trip next) whole.0 second.2 in
    let l : Link = linked.0 in
    let others = and_then_some (λ (rest : List Leg). Some ((trip_leg t trip ∷ link_legs pool trip next l) ++ rest))
    (legs_from day pool u next us) whole.0 linked.2 in
    let until = until_is day pool t u trip next l first.1 second.1 linked.1 in
    let later : legs_at day pool u us ≡ Some others.0 =
    ap (λ (o : Option TheTrip). option_and_then (λ (next : TheTrip). legs_from day pool u next us) o) second.1 ∙ others.1 in
    record {
      first = ap is_some until;
      rest = ap is_some later;
      whole =
          ap legs_or whole.1
          ∙ sym (same_Some ((trip_leg t trip ∷ link_legs pool trip next l) ++ others.0) whole.0 others.2)
          ∙ ap (λ (o : Option (List Leg)). legs_or o ++ others.0) (sym until)
          ∙ ap (λ (o : Option (List Leg)). legs_or (until_next day pool t u) ++ legs_or o) (sym later);
    }

drop_first : (rest : List ℕ) (i : ℕ) → i < length rest → drop i rest ≡ slice_index rest i ∷ drop (i + 1) rest
drop_first rest i within = rw add-one (drop-cons rest i 0 within)

pub splits_at : (day : DayFacts) (pool : Pool) (t i : ℕ) (rest : List ℕ) → i < length rest →
    is_some (legs_at day pool t (drop i rest)) ≡ true → Splits day pool t (slice_index rest i) (drop (i + 1) rest)
splits_at day pool t i rest within some =
    let P : List ℕ → Type 0 = λ us. is_some (legs_at day pool t us) ≡ true in
    splits day pool t (slice_index rest i) (drop (i + 1) rest) (subst P (drop_first rest i within) some)

-- One trip more in the loop: what was put behind, and the legs from the next trip on, are still all of the block's legs. With no
-- trip left, only the last trip and the pull-in remain, and then the legs are complete. A move between equal points or a stand of 0
-- seconds may be left out on the way, as leaving out goes over each part by itself (`shown_append`).
pub legs_more : (day : DayFacts) (pool : Pool) (t i : ℕ) (rest : List ℕ) (old new all : List Leg) → i < length rest →
    is_some (legs_at day pool t (drop i rest)) ≡ true →
    new ≡ old ++ shown (legs_or (until_next day pool t (slice_index rest i))) →
    old ++ shown (legs_or (legs_at day pool t (drop i rest))) ≡ all →
    new ++ shown (legs_or (legs_at day pool (slice_index rest i) (drop (i + 1) rest))) ≡ all
legs_more day pool t i rest old new all within some pushed so_far =
    let parts = splits_at day pool t i rest within some in
    let first : List Leg = legs_or (until_next day pool t (slice_index rest i)) in
    let later : List Leg = legs_or (legs_at day pool (slice_index rest i) (drop (i + 1) rest)) in
    ap (λ ls. ls ++ shown later) pushed
    ∙ append_assoc old (shown first) (shown later)
    ∙ ap (λ ls. old ++ ls) (sym (shown_append first later))
    ∙ ap (λ ls. old ++ shown ls) (sym parts.whole)
    ∙ ap (λ us. old ++ shown (legs_or (legs_at day pool t us))) (sym (drop_first rest i within))
    ∙ so_far

-- Trips behind a trip that cost something have legs: the cost of a block asks for the same connections and the same pull-in as its
-- legs do, so where the one is there the other is. The induction is over the trips. It is how a block's worth, which is all that
-- `legs` asks for, says that no look-up on the way can fail.
pub legs_of_cost : (day : DayFacts) (pool : Pool) (k : ℕ) (t : TheTrip) (js : List ℕ) (us : List TheTrip) (cost : ℕ) →
    trips_at day.trips js ≡ Some us → cost_from day pool t us ≡ Some cost → is_some (legs_from day pool k t js) ≡ true
legs_of_cost day pool k t [] us cost at is =
    let none : [] ≡ us = same_Some [] us at in
    let P : List TheTrip → Type 0 = λ us. cost_from day pool t us ≡ Some cost in
    let inward = and_then_some (λ (inward : ℕ). Some (pool.dead_rate * inward)) (pull_in day pool t) cost (subst P (sym none) is) in
    rw inward.1 refl
legs_of_cost day pool k t (j ∷ js) us cost at is =
    let first = and_then_some (λ (u : TheTrip). option_and_then (λ (ts : List TheTrip). Some (u ∷ ts)) (trips_at day.trips js))
    (slice_get day.trips j) us at in
    let rest = and_then_some (λ (ts : List TheTrip). Some (first.0 ∷ ts)) (trips_at day.trips js) us first.2 in
    let same : first.0 ∷ rest.0 ≡ us = same_Some (first.0 ∷ rest.0) us rest.2 in
    let P : List TheTrip → Type 0 = λ us. cost_from day pool t us ≡ Some cost in
    let linked = and_then_some
    (λ (l : Link). option_and_then (λ (rest_cost : ℕ). Some (link_cost pool first.0 l + rest_cost)) (cost_from day pool first.0 rest.0))
    (link day pool t first.0) cost (subst P (sym same) is) in
    let later = and_then_some (λ (rest_cost : ℕ). Some (link_cost pool first.0 linked.0 + rest_cost))
    (cost_from day pool first.0 rest.0) cost linked.2 in
    let legs = some_from (legs_from day pool j first.0 js) (legs_of_cost day pool j first.0 js rest.0 later.0 rest.1 later.1) in
    rw (first.1, linked.1, legs.1) refl

pub trips_below : (trips : List TheTrip) (list : List ℕ) (found : List TheTrip) → trips_at trips list ≡ Some found →
    AllBelow (length trips) list
trips_below trips [] found e = tt
trips_below trips (k ∷ ks) found e =
    let first = and_then_some (λ (t : TheTrip). option_and_then (λ (ts : List TheTrip). Some (t ∷ ts)) (trips_at trips ks))
    (slice_get trips k) found e in
    let rest = and_then_some (λ (ts : List TheTrip). Some (first.0 ∷ ts)) (trips_at trips ks) found first.2 in
    (slice_get_within trips k first.0 first.1, trips_below trips ks rest.0 rest.1)

-- What a block with a worth is known to have: a pool, trips that are all of the day, and legs from its first trip on. `runs` takes
-- the worth apart, test by test, until it has the cost behind the pull-out, and from that the legs (`legs_of_cost`).
pub record Runs (day : DayFacts) (class first : ℕ) (rest : List ℕ) : Type 0 where
  pub pool : Pool
  pub there : slice_get day.params.pools class ≡ Some pool
  pub below : AllBelow (length day.trips) rest
  pub legs : is_some (legs_at day pool first rest) ≡ true

pub runs : (day : DayFacts) (class first : ℕ) (rest : List ℕ) → is_some (block_worth day false class (first ∷ rest)) ≡ true →
    Runs day class first rest
runs day class first rest some =
    let list : List ℕ = first ∷ rest in
    let worth = some_from (block_worth day false class list) some in
    let tested = given_some (rises list)
    (option_and_then (λ (pool : Pool). given (can_be_driven day pool list)
    (option_and_then (λ (ts : List TheTrip). option_and_then (λ (c : ℕ). Some c) (block_cost day pool ts)) (trips_at day.trips list)))
    (slice_get day.params.pools class)) worth.0 worth.1 in
    let pooled = and_then_some
    (λ (pool : Pool). given (can_be_driven day pool list)
    (option_and_then (λ (ts : List TheTrip). option_and_then (λ (c : ℕ). Some c) (block_cost day pool ts)) (trips_at day.trips list)))
    (slice_get day.params.pools class) worth.0 tested in
    let driven = given_some (can_be_driven day pooled.0 list)
    (option_and_then (λ (ts : List TheTrip). option_and_then (λ (c : ℕ). Some c) (block_cost day pooled.0 ts)) (trips_at day.trips list))
    worth.0 pooled.2 in
    let found = and_then_some (λ (ts : List TheTrip). option_and_then (λ (c : ℕ). Some c) (block_cost day pooled.0 ts))
    (trips_at day.trips list) worth.0 driven in
    let costs = and_then_some (λ (c : ℕ). Some c) (block_cost day pooled.0 found.0) worth.0 found.2 in
    let head = and_then_some (λ (t : TheTrip). option_and_then (λ (ts : List TheTrip). Some (t ∷ ts)) (trips_at day.trips rest))
    (slice_get day.trips first) found.0 found.1 in
    let tail = and_then_some (λ (ts : List TheTrip). Some (head.0 ∷ ts)) (trips_at day.trips rest) found.0 head.2 in
    let same : head.0 ∷ tail.0 ≡ found.0 = same_Some (head.0 ∷ tail.0) found.0 tail.2 in
    let P : List TheTrip → Type 0 = λ ts. block_cost day pooled.0 ts ≡ Some costs.0 in
    let allowed = given_some _ _ costs.0 (subst P (sym same) costs.1) in
    let out = and_then_some
    (λ (out : ℕ). option_and_then (λ (rest_cost : ℕ). Some (pooled.0.fixed + pooled.0.dead_rate * out + rest_cost))
    (cost_from day pooled.0 head.0 tail.0)) (pull_out day pooled.0 head.0) costs.0 allowed in
    let later = and_then_some (λ (rest_cost : ℕ). Some (pooled.0.fixed + pooled.0.dead_rate * out.0 + rest_cost))
    (cost_from day pooled.0 head.0 tail.0) costs.0 out.2 in
    let legs = legs_of_cost day pooled.0 first head.0 rest tail.0 later.0 tail.1 later.1 in
    record {
      pool = pooled.0;
      there = pooled.1;
      below = trips_below day.trips rest tail.0 tail.1;
      legs = ap (λ (o : Option TheTrip). is_some (option_and_then (λ (trip : TheTrip). legs_from day pooled.0 first trip rest) o)) head.1
          ∙ legs;
    }

-- the pull-out and the legs from the first trip on are the legs of a block
pub legs_whole : (day : DayFacts) (class first : ℕ) (pool : Pool) (trip : TheTrip) (rest : List ℕ) (out : ℕ) (made : List Leg) →
    slice_get day.params.pools class ≡ Some pool → slice_get day.trips first ≡ Some trip →
    pull_out day pool trip ≡ Some out → is_some (legs_at day pool first rest) ≡ true →
    made ≡ shown (leg PullOut None pool.depot (trip.begin.0 -ℤ pos out) trip.from trip.begin.0 ∷ [])
    ++ shown (legs_or (legs_at day pool first rest)) →
    with_pool day class (λ pool. legs_of day pool (first ∷ rest)) ≡ Some made
legs_whole day class first pool trip rest out made there at leaves some is =
    let found = some_from (legs_at day pool first rest) some in
    let begun : Leg = leg PullOut None pool.depot (trip.begin.0 -ℤ pos out) trip.from trip.begin.0 in
    let from : legs_from day pool first trip rest ≡ Some found.0 =
    (let e : legs_at day pool first rest ≡ legs_from day pool first trip rest = rw at refl in sym e ∙ found.1) in
    let whole : made ≡ shown (begun ∷ found.0) =
    is ∙ ap (λ (o : Option (List Leg)). shown (begun ∷ []) ++ shown (legs_or o)) found.1 ∙ sym (shown_append (begun ∷ []) found.0) in
    rw (there, at, leaves, from) (ap (λ (ls : List Leg). Some ls) (sym whole))

-- the legs from the first trip on are there, with the pool that was looked up
pub runs_there : (day : DayFacts) (class first : ℕ) (pool : Pool) (rest : List ℕ) →
    is_some (block_worth day false class (first ∷ rest)) ≡ true → slice_get day.params.pools class ≡ Some pool →
    is_some (legs_at day pool first rest) ≡ true
runs_there day class first pool rest some here =
    let block = runs day class first rest some in
    let P : Pool → Type 0 = λ pool. is_some (legs_at day pool first rest) ≡ true in
    subst P (same_Some block.pool pool (sym block.there ∙ here)) block.legs

-- the pool of a class, as an index reads it
abbrev pub pool_at : List Pool → ℕ → Pool
pool_at pools class = get_or pools class
    (record { number = 0; depot = record { typ = 0; nr = 0 }; typ = 0; cap = 0; fixed = 0; dead_rate = 0; stand_rate = 0 })

pub pool_there : (day : DayFacts) (class first : ℕ) (rest : List ℕ) (pools : List Pool) →
    is_some (block_worth day false class (first ∷ rest)) ≡ true → pools ≡ day.params.pools →
    slice_get day.params.pools class ≡ Some (pool_at pools class)
pool_there day class first rest pools some same =
    let block = runs day class first rest some in
    let P : List Pool → Type 0 = λ pools. slice_get day.params.pools class ≡ Some (pool_at pools class) in
    subst P (sym same) (slice_get-get_or day.params.pools class _ (slice_get_within day.params.pools class block.pool block.there))
