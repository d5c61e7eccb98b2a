-- The worth of a list is what its walk gives.
use Rattle.std.proofs.Common.{◌≡◌, ℕ, ◌+◌, ◌*◌, ◌&&◌, Bool, true, false, cond, nat_lt, List, [], ◌∷◌, Option, Some, None, refl, sym, ap, ◌∙◌, arith, slice_get, ◌<◌, length, drop, drop-cons, add-one, slice_index}
use Rattle.std.specs.Prelude.{option_and_then, is_some}
use Rattle.std.specs.Option.{option_map, option_map_or}
use Rattle.trip_times.specs.declared.trip.Trip.{Trip}
use Rattle.plan_params.specs.declared.rows.pool.Pool.{Pool}
use Rattle.day_model.specs.declared.link.Link.{Link}
use Rattle.day_model.specs.Facts.{DayFacts, admits}
use Rattle.day_model.specs.Links.{given, link, pull_in, pull_out, with_pool}
use Rattle.day_model.specs.Blocks.{all_admitted, block_cost, block_worth, cost_from, link_cost, rises, trips_at}
use Rattle.day_model.specs.Pieces.{can_be_driven}
use Rattle.depot_network.specs.declared.step.Step.{Step}
use Rattle.depot_network.specs.Driving.{driven_first, driven_in, driven_on, drives, drives_on}
use Rattle.depot_network.specs.Walk.{added, begun, ended, joined, next_step, stepped, steps}
use Rattle.depot_network.proofs.Drives.{driven_is}

-- The cost alone.
-- the cost of a block so far with one trip more
abbrev extended : DayFacts → Pool → ℕ → ℕ → ℕ → Option ℕ
extended day pool cost t u = option_map (λ more. cost + more) (added day pool t u)

-- the cost of a block so far with the pull-in
abbrev finished : DayFacts → Pool → ℕ → ℕ → Option ℕ
finished day pool cost t = option_map (λ more. cost + more) (ended day pool t)

-- the cost of a block so far, a last trip, and the trips after it
abbrev walked : DayFacts → Pool → ℕ → ℕ → List ℕ → Option ℕ
walked day pool cost t [] = finished day pool cost t
walked day pool cost t (u ∷ us) = option_and_then (λ cost. walked day pool cost u us) (extended day pool cost t u)

-- the cost of a list of trips
abbrev walk : DayFacts → Pool → List ℕ → Option ℕ
walk day pool [] = None
walk day pool (t ∷ ts) = option_and_then (λ cost. walked day pool cost t ts) (begun day pool t)

and_then_same : {A B : Type 0} (f g : A → Option B) (o : Option A) → ((x : A) → f x ≡ g x) → option_and_then f o ≡ option_and_then g o
and_then_same f g None same = refl
and_then_same f g (Some x) same = same x

given_none : {A : Type 0} (b : Bool) → given {A = A} b None ≡ None
given_none true = refl
given_none false = refl

-- One step of the walk, over plain values: whether the tests of a trip (later, admitted, connected) are asked one after another
-- while walking, or first of all trips together and then the cost is summed up, comes to the same. The day's definitions are left
-- out, so that a proof by cases over the few answers is enough.
step : (later rise admitted rest_admitted : Bool) (l : Option Link) (price : Link → ℕ) (rest : Option ℕ) (cost : ℕ) →
    option_and_then (λ c. option_map (λ m. c + m) (given rise (given rest_admitted rest)))
    (option_map (λ m. cost + m) (given later (given admitted (option_map price l)))) ≡
    option_map (λ m. cost + m)
    (given (later && rise) (given (admitted && rest_admitted) (option_and_then (λ k. option_and_then (λ r. Some (price k + r)) rest) l)))
step false rise admitted rest_admitted l price rest cost = refl
step true false admitted rest_admitted l price rest cost = none_after (option_map (λ m. cost + m) (given admitted (option_map price l)))
  where
    none_after : (o : Option ℕ) →
        option_and_then (λ (c : ℕ). option_map (λ (m : ℕ). c + m) (given {A = ℕ} false (given rest_admitted rest))) o ≡ None
    none_after None = refl
    none_after (Some x) = refl
step true true false rest_admitted l price rest cost = refl
step true true true rest_admitted None price rest cost =
    let e = given_none {A = ℕ} rest_admitted in ap (λ o. option_map (λ m. cost + m) o) (sym e)
step true true true false (Some k) price rest cost = refl
step true true true true (Some k) price None cost = refl
step true true true true (Some k) price (Some r) cost = ap Some (omega arith)

step_none : (later rise : Bool) (more : Option ℕ) (cost : ℕ) →
    option_and_then (λ (c : ℕ). option_map (λ (m : ℕ). c + m) (given {A = ℕ} rise None)) more
    ≡ option_map (λ (m : ℕ). cost + m) (given {A = ℕ} (later && rise) None)
step_none later rise None cost = ap (λ o. option_map (λ (m : ℕ). cost + m) o) (sym (given_none {A = ℕ} (later && rise)))
step_none later rise (Some c) cost =
    ap (λ o. option_map (λ (m : ℕ). c + m) o) (given_none {A = ℕ} rise)
    ∙ ap (λ o. option_map (λ (m : ℕ). cost + m) o) (sym (given_none {A = ℕ} (later && rise)))

-- what the trips after a trip add
abbrev rest_cost : DayFacts → Pool → Trip → ℕ → List ℕ → Option ℕ
rest_cost day pool t k ks =
    given (rises (k ∷ ks)) (option_and_then (λ ts. given (all_admitted day pool ts) (cost_from day pool t ts)) (trips_at day.trips ks))

pulled_in : (pool : Pool) (cost : ℕ) (o : Option ℕ) →
    option_map (λ (m : ℕ). cost + m) (option_map (λ (inward : ℕ). pool.dead_rate * inward) o)
    ≡ option_map (λ (m : ℕ). cost + m) (option_and_then (λ (inward : ℕ). Some (pool.dead_rate * inward)) o)
pulled_in pool cost None = refl
pulled_in pool cost (Some inward) = refl

-- The cost of the trips behind a trip, walked with any cost so far, is that cost and what the rules say of these trips: none where
-- they do not rise, are not there, are not admitted or not connected, and else the sum. The induction is over the trips; the cost so
-- far is arbitrary, since each step changes it.
walked_is : (day : DayFacts) (pool : Pool) (cost k : ℕ) (ks : List ℕ) (t : Trip) → slice_get day.trips k ≡ Some t →
    walked day pool cost k ks ≡ option_map (λ m. cost + m) (rest_cost day pool t k ks)
walked_is day pool cost k [] t at = rw at (pulled_in pool cost (pull_in day pool t))
walked_is day pool cost k (u ∷ us) t at =
    let Goal : Option Trip → Type 0 = λ o. slice_get day.trips u ≡ o →
    walked day pool cost k (u ∷ us) ≡ option_map (λ (m : ℕ). cost + m) (rest_cost day pool t k (u ∷ us)) in
    let split : (o : Option Trip) → Goal o = λ o. elim o as Goal [
      | None ↦ λ none. rw (at, none)
          (ap (λ o. option_map (λ (m : ℕ). cost + m) o) (sym (given_none {A = ℕ} (nat_lt k u && rises (u ∷ us)))))
      | Some next ↦ λ there.
          let more : Option ℕ = given (nat_lt k u)
          (given (admits day next.line pool.typ) (option_map (λ (l : Link). link_cost pool next l) (link day pool t next))) in
          let is : extended day pool cost k u ≡ option_map (λ (m : ℕ). cost + m) more = rw (at, there) refl in
          let first = ap (λ (o : Option ℕ). option_and_then (λ (c : ℕ). walked day pool c u us) o) is in
          let second = and_then_same (λ (c : ℕ). walked day pool c u us)
          (λ (c : ℕ). option_map (λ (m : ℕ). c + m) (rest_cost day pool next u us)) (option_map (λ (m : ℕ). cost + m) more)
          (λ c. walked_is day pool c u us next there) in
          let Rest : Option (List Trip) → Type 0 = λ found.
          option_and_then (λ (c : ℕ). option_map (λ (m : ℕ). c + m)
          (given (rises (u ∷ us))
          (option_and_then (λ (ts : List Trip). given (all_admitted day pool ts) (cost_from day pool next ts)) found)))
          (option_map (λ (m : ℕ). cost + m) more) ≡
          option_map (λ (m : ℕ). cost + m)
          (given (nat_lt k u && rises (u ∷ us))
          (option_and_then (λ (ts : List Trip). given (all_admitted day pool ts) (cost_from day pool t ts))
          (option_and_then (λ (ts : List Trip). Some (next ∷ ts)) found))) in
          let third : (found : Option (List Trip)) → Rest found = λ found. elim found as Rest [
            | None ↦ step_none (nat_lt k u) (rises (u ∷ us)) (option_map (λ (m : ℕ). cost + m) more) cost
            | Some ts ↦ step (nat_lt k u) (rises (u ∷ us)) (admits day next.line pool.typ) (all_admitted day pool ts) (link day pool t next)
                (link_cost pool next) (cost_from day pool next ts) cost
          ] in
          first ∙ second ∙ (rw there (third (trips_at day.trips us)))
    ] in split (slice_get day.trips u) refl

-- a first trip, over plain values
pulled_out : (rise admitted rest_admitted : Bool) (out : Option ℕ) (begin : ℕ → ℕ) (rest : Option ℕ) →
    given rise (given (admitted && rest_admitted) (option_and_then (λ o. option_and_then (λ r. Some (begin o + r)) rest) out)) ≡
    option_and_then (λ c. option_map (λ m. c + m) (given rise (given rest_admitted rest))) (given admitted (option_map begin out))
pulled_out rise false rest_admitted out begin rest = given_none rise
pulled_out rise true rest_admitted None begin rest = ap (λ o. given rise o) (given_none rest_admitted) ∙ given_none rise
pulled_out false true rest_admitted (Some o) begin rest = refl
pulled_out true true false (Some o) begin rest = refl
pulled_out true true true (Some o) begin None = refl
pulled_out true true true (Some o) begin (Some r) = refl

first_none : (rise : Bool) (o : Option ℕ) →
    given {A = ℕ} rise None ≡ option_and_then (λ (c : ℕ). option_map (λ (m : ℕ). c + m) (given {A = ℕ} rise None)) o
first_none rise None = given_none rise
first_none rise (Some c) = given_none rise ∙ ap (λ o. option_map (λ (m : ℕ). c + m) o) (sym (given_none {A = ℕ} rise))

-- the cost of a list, where it rises and its trips are there
abbrev list_cost : DayFacts → Pool → List ℕ → Option ℕ
list_cost day pool list = given (rises list) (option_and_then (λ ts. block_cost day pool ts) (trips_at day.trips list))

-- The cost of a whole list as the rules state it (the list rises, its trips are there, and then the cost of these trips as a block)
-- is the one of its walk: the first trip with the fixed cost and the pull-out, and behind it `walked_is`.
list_walked : (day : DayFacts) (pool : Pool) (list : List ℕ) → list_cost day pool list ≡ walk day pool list
list_walked day pool [] = refl
list_walked day pool (k ∷ ks) =
    let Goal : Option Trip → Type 0 = λ o. slice_get day.trips k ≡ o → list_cost day pool (k ∷ ks) ≡ walk day pool (k ∷ ks) in
    let split : (o : Option Trip) → Goal o = λ o. elim o as Goal [
      | None ↦ λ none. rw none (given_none {A = ℕ} (rises (k ∷ ks)))
      | Some t ↦ λ there.
          let start : Option ℕ = given (admits day t.line pool.typ)
          (option_map (λ (out : ℕ). pool.fixed + pool.dead_rate * out) (pull_out day pool t)) in
          let is : begun day pool k ≡ start = rw there refl in
          let last = and_then_same (λ (c : ℕ). option_map (λ (m : ℕ). c + m) (rest_cost day pool t k ks))
          (λ (c : ℕ). walked day pool c k ks) start (λ c. sym (walked_is day pool c k ks t there)) in
          let back = ap (λ (o : Option ℕ). option_and_then (λ (c : ℕ). walked day pool c k ks) o) (sym is) in
          let Rest : Option (List Trip) → Type 0 = λ found.
          given (rises (k ∷ ks)) (option_and_then (λ (ts : List Trip). block_cost day pool ts)
          (option_and_then (λ (ts : List Trip). Some (t ∷ ts)) found)) ≡
          option_and_then (λ (c : ℕ). option_map (λ (m : ℕ). c + m)
          (given (rises (k ∷ ks)) (option_and_then (λ (ts : List Trip). given (all_admitted day pool ts) (cost_from day pool t ts)) found)))
          start in
          let middle : (found : Option (List Trip)) → Rest found = λ found. elim found as Rest [
            | None ↦ first_none (rises (k ∷ ks)) start
            | Some ts ↦ pulled_out (rises (k ∷ ks)) (admits day t.line pool.typ) (all_admitted day pool ts) (pull_out day pool t)
                (λ out. pool.fixed + pool.dead_rate * out) (cost_from day pool t ts)
          ] in
          let begins : list_cost day pool (k ∷ ks)
          ≡ given (rises (k ∷ ks))
          (option_and_then (λ (ts : List Trip). block_cost day pool ts)
          (option_and_then (λ (ts : List Trip). Some (t ∷ ts)) (trips_at day.trips ks))) = rw there refl in
          begins ∙ middle (trips_at day.trips ks) ∙ last ∙ back
    ] in split (slice_get day.trips k) refl

counted : {A : Type 0} (counts rise : Bool) (price : A → Option ℕ) (found : Option A) →
    given rise (option_and_then (λ ts. option_and_then (λ (c : ℕ). Some (cond counts 1 c)) (price ts)) found)
    ≡ option_and_then (λ (c : ℕ). Some (cond counts 1 c)) (given rise (option_and_then price found))
counted counts true price None = refl
counted counts true price (Some ts) = refl
counted counts false price found = refl

given_swap : {A : Type 0} (a b : Bool) (o : Option A) → given a (given b o) ≡ given b (given a o)
given_swap true b o = refl
given_swap false true o = refl
given_swap false false o = refl

given_then : {A B : Type 0} (b : Bool) (f : A → Option B) (o : Option A) → given b (option_and_then f o) ≡ option_and_then f (given b o)
given_then true f o = refl
given_then false f o = refl

given_map : {A B : Type 0} (b : Bool) (f : A → B) (o : Option A) → option_map f (given b o) ≡ given b (option_map f o)
given_map true f o = refl
given_map false f o = refl

-- Cost and driving are carried along together by the code, and each by itself in the proofs: the joint walk gives a cost exactly
-- where the driving can be kept to the end and the walk of the cost alone gives it. Neither looks at the other, so a missing answer
-- of either one is one of both.
stepped_is : (day : DayFacts) (pool : Pool) (cost driving t : ℕ) (us : List ℕ) →
    stepped day pool cost driving t us ≡ given (drives_on day pool driving t us) (walked day pool cost t us)
stepped_is day pool cost driving t [] = given_map (is_some (driven_in day pool driving t)) (λ (more : ℕ). cost + more) (ended day pool t)
stepped_is day pool cost driving t (u ∷ us) =
    let on : Option ℕ → Option ℕ → Option ℕ =
    λ more next. option_and_then (λ (step : Step). stepped day pool (cost + step.cost) step.driving u us) (joined more next) in
    let both : Option ℕ → Option ℕ → Option ℕ = λ more next.
    given (option_map_or (λ d. drives_on day pool d u us) next false)
    (option_and_then (λ (c : ℕ). walked day pool c u us) (option_map (λ (m : ℕ). cost + m) more)) in
    let Goal : Option ℕ → Type 0 = λ more. (next : Option ℕ) → on more next ≡ both more next in
    let split : (more : Option ℕ) → Goal more = λ more. elim more as Goal [
      | None ↦ λ next. sym (given_none {A = ℕ} (option_map_or (λ d. drives_on day pool d u us) next false))
      | Some m ↦ λ next. elim next as (λ n. on (Some m) n ≡ both (Some m) n) [
        | None ↦ refl
        | Some d ↦ stepped_is day pool (cost + m) d u us
      ]
    ] in split (added day pool t u) (driven_on day pool driving t u)

steps_are : (day : DayFacts) (pool : Pool) (list : List ℕ) → steps day pool list ≡ given (drives day pool list) (walk day pool list)
steps_are day pool [] = refl
steps_are day pool (t ∷ ts) =
    let on : Option ℕ → Option ℕ → Option ℕ =
    λ cost driving. option_and_then (λ (step : Step). stepped day pool step.cost step.driving t ts) (joined cost driving) in
    let both : Option ℕ → Option ℕ → Option ℕ = λ cost driving.
    given (option_map_or (λ d. drives_on day pool d t ts) driving false) (option_and_then (λ (c : ℕ). walked day pool c t ts) cost) in
    let Goal : Option ℕ → Type 0 = λ cost. (driving : Option ℕ) → on cost driving ≡ both cost driving in
    let split : (cost : Option ℕ) → Goal cost = λ cost. elim cost as Goal [
      | None ↦ λ driving. sym (given_none {A = ℕ} (option_map_or (λ d. drives_on day pool d t ts) driving false))
      | Some c ↦ λ driving. elim driving as (λ n. on (Some c) n ≡ both (Some c) n) [
        | None ↦ refl
        | Some d ↦ stepped_is day pool c d t ts
      ]
    ] in split (begun day pool t) (driven_first day pool t)

-- The main theorem of the file: the worth of a list as a block, as the rules define it over all its trips and legs at once, is what
-- the walk trip by trip gives, with cost and driving carried along. It joins the two halves, `list_walked` for the cost and
-- `driven_is` for the driving. The contract of `block_worth` is stated by the rules; the code and the labels of the search walk, and
-- both rest on this equation.
pub worth_walked : (day : DayFacts) (counts : Bool) (class : ℕ) (list : List ℕ) →
    block_worth day counts class list
    ≡ option_and_then (λ (c : ℕ). Some (cond counts 1 c)) (with_pool day class (λ pool. steps day pool list))
worth_walked day counts class list =
    let one : ℕ → Option ℕ = λ c. Some (cond counts 1 c) in
    let Goal : Option Pool → Type 0 =
    λ o. given (rises list)
    (option_and_then (λ (pool : Pool). given (can_be_driven day pool list)
    (option_and_then (λ (ts : List Trip). option_and_then one (block_cost day pool ts)) (trips_at day.trips list))) o)
    ≡ option_and_then one (option_and_then (λ (pool : Pool). steps day pool list) o) in
    let split : (o : Option Pool) → Goal o = λ o. elim o as Goal [
      | None ↦ given_none {A = ℕ} (rises list)
      | Some pool ↦
          given_swap (rises list) (can_be_driven day pool list)
          (option_and_then (λ (ts : List Trip). option_and_then one (block_cost day pool ts)) (trips_at day.trips list))
          ∙ ap (λ o. given (can_be_driven day pool list) o)
          (counted counts (rises list) (λ ts. block_cost day pool ts) (trips_at day.trips list)
          ∙ ap (λ o. option_and_then one o) (list_walked day pool list))
          ∙ ap (λ b. given b (option_and_then one (walk day pool list))) (driven_is day pool list)
          ∙ given_then (drives day pool list) one (walk day pool list)
          ∙ ap (λ o. option_and_then one o) (sym (steps_are day pool list))
    ] in split (slice_get day.params.pools class)

-- one trip of the rest is walked
pub stepped_more : (day : DayFacts) (pool : Pool) (cost driving last : ℕ) (step : Step) (rest : List ℕ) (i : ℕ) → i < length rest →
    Some step ≡ next_step day pool driving last (slice_index rest i) →
    stepped day pool cost driving last (drop i rest)
    ≡ stepped day pool (cost + step.cost) step.driving (slice_index rest i) (drop (i + 1) rest)
stepped_more day pool cost driving last step rest i within is =
    let at : drop i rest ≡ slice_index rest i ∷ drop (i + 1) rest = rw add-one (drop-cons rest i 0 within) in
    rw (at, ← is) refl

-- where no trip may follow there is no cost
pub stepped_none : (day : DayFacts) (pool : Pool) (cost driving last : ℕ) (rest : List ℕ) (i : ℕ) → i < length rest →
    None ≡ next_step day pool driving last (slice_index rest i) →
    stepped day pool cost driving last (drop i rest) ≡ None
stepped_none day pool cost driving last rest i within is =
    let at : drop i rest ≡ slice_index rest i ∷ drop (i + 1) rest = rw add-one (drop-cons rest i 0 within) in
    rw (at, ← is) refl
