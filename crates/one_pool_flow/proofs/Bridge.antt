-- The path plans of a day with one pool are the covers of its network.
use Rattle.std.proofs.Common.{◌≡◌, ℕ, ◌+◌, ◌*◌, ◌<◌, ◌≤◌, ◌&&◌, Bool, true, false, cond, nat_lt, zero, suc, List, [], ◌∷◌, length, map, Option, Some, None, refl, sym, ap, subst, ◌∙◌, arith, slice_get}
use Rattle.std.specs.Prelude.{option_and_then, slice_index, unwrap_or}
use Rattle.std.specs.Option.{option_map}
use Rattle.std.proofs.lemmas.Bool.Decides.{nat_tests}
use Rattle.trip_times.specs.declared.trip.Trip.{Trip}
use Rattle.plan_params.specs.declared.rows.pool.Pool.{Pool}
use Rattle.cover_core.specs.declared.Column.{Column}
use Rattle.cover_core.specs.Plans.{AreColumns, all_classes, cost, times}
use Rattle.day_model.specs.Facts.{DayFacts, admits}
use Rattle.day_model.specs.declared.link.Link.{Link}
use Rattle.day_model.specs.Links.{given, link, pull_in, pull_out}
use Rattle.day_model.specs.Blocks.{all_admitted, block_cost, cost_from, link_cost, rises, trips_at}
use Rattle.depot_network.specs.Walk.{added, begun, ended}
use Rattle.path_cover.specs.Nets as nets
use Rattle.path_cover.specs.Nets.{all_below, both, rest_cost}
use Rattle.one_pool_flow.specs.Paths.{IsPathPlan, path_column, path_cost, paths_of, columns_of}
use Rattle.one_pool_flow.specs.DayNets.{PlansAreCovers, arc_of, net_of}

get_in : (trips : List Trip) (u : ℕ) (trip : Trip) → slice_get trips u ≡ Some trip → u < length trips
get_in [] u trip e = absurd (cc)
get_in (t ∷ ts) zero trip e = omega arith
get_in (t ∷ ts) (suc u) trip e = let rest = get_in ts u trip e in omega arith

get_past : (trips : List Trip) (u : ℕ) → slice_get trips u ≡ None → length trips ≤ u
get_past [] u e = omega arith
get_past (t ∷ ts) zero e = absurd (cc)
get_past (t ∷ ts) (suc u) e = let rest = get_past ts u e in omega arith

-- arcs, where rows and columns are trips and where they are not
arc_link : (day : DayFacts) (pool : Pool) (x v : ℕ) → x < length day.trips → v < length day.trips → arc_of day pool x v ≡ added day pool x v
arc_link day pool x v x_in v_in =
    let row : nat_lt x (length day.trips) ≡ true = grind (arith, nat_tests) in
    let column : nat_lt v (length day.trips) ≡ true = grind (arith, nat_tests) in
    rw (row, column) refl

arc_end : (day : DayFacts) (pool : Pool) (x : ℕ) → x < length day.trips → arc_of day pool x (length day.trips) ≡ ended day pool x
arc_end day pool x x_in =
    let row : nat_lt x (length day.trips) ≡ true = grind (arith, nat_tests) in
    let column : nat_lt (length day.trips) (length day.trips) ≡ false = grind (arith, nat_tests) in
    rw (row, column) refl

arc_start : (day : DayFacts) (pool : Pool) (v : ℕ) → v < length day.trips → arc_of day pool (length day.trips) v ≡ begun day pool v
arc_start day pool v v_in =
    let row : nat_lt (length day.trips) (length day.trips) ≡ false = grind (arith, nat_tests) in
    let column : nat_lt v (length day.trips) ≡ true = grind (arith, nat_tests) in
    rw (row, column) refl

map_then : {L : Type 0} → (f : L → ℕ) (o : Option L) → option_map f o ≡ option_and_then (λ x. Some (f x)) o
map_then f None = refl
map_then f (Some x) = refl

none_right : (x : Option ℕ) → both x None ≡ None
none_right None = refl
none_right (Some c) = refl

given_none : (b : Bool) → given {A = ℕ} b None ≡ None
given_none true = refl
given_none false = refl

both_cond : (k : Bool) (x rest : Option ℕ) → cond k (both x rest) None ≡ both x (cond k rest None)
both_cond true x rest = refl
both_cond false x rest = sym (none_right x)

-- a step of a path, and one of a block
last_plain : {L : Type 0} → (a b : Bool) (l : Option L) (cost : L → ℕ) (rest : Option ℕ) →
    both (given a (option_map cost l)) (given b rest)
    ≡ given (a && b) (option_and_then (λ x. option_and_then (λ r. Some (cost x + r)) rest) l)
last_plain false b l cost rest = refl
last_plain true false l cost rest = none_right (option_map cost l)
last_plain true true None cost rest = refl
last_plain true true (Some x) cost rest = map_then (λ (r : ℕ). cost x + r) rest

-- One trip more in front, over plain values: in the network an arc and the rest of a path are there or not, and the cost is the sum;
-- by the rules of blocks a trip is tested for its number and its line, then connected, and then the cost of the trips behind is
-- added. If both readings agree on the rest, they agree with the trip in front. The day's definitions are left out, so that cases
-- over few answers prove it.
step_plain : {L : Type 0} →
    (here later admitted k : Bool) (l : Option L) (cost : L → ℕ) (rest : Option ℕ) (found : Option (List Trip)) (all : List Trip → Bool)
    (more : List Trip → Option ℕ) →
    cond k rest None ≡ given later (option_and_then (λ (ts : List Trip). given (all ts) (more ts)) found) →
    cond k (both (given here (given admitted (option_map cost l))) rest) None
    ≡ given (here && later)
    (option_and_then (λ (ts : List Trip). given (admitted && all ts)
    (option_and_then (λ x. option_and_then (λ r. Some (cost x + r)) (more ts)) l)) found)
step_plain here later admitted k l cost rest found all more e =
    both_cond k (given here (given admitted (option_map cost l))) rest
    ∙ (ap (both (given here (given admitted (option_map cost l)))) e ∙ go here later found)
  where
    go : (here later : Bool) (found : Option (List Trip)) →
        both (given here (given admitted (option_map cost l)))
        (given later (option_and_then (λ (ts : List Trip). given (all ts) (more ts)) found)) ≡
        given (here && later) (option_and_then
        (λ (ts : List Trip). given (admitted && all ts) (option_and_then (λ x. option_and_then (λ r. Some (cost x + r)) (more ts)) l))
        found)
    go false later found = refl
    go true false found = none_right (given admitted (option_map cost l))
    go true true None = none_right (given admitted (option_map cost l))
    go true true (Some ts) = last_plain admitted (all ts) l cost (more ts)

then_some : (f : List Trip → Option ℕ) (trip : Trip) (found : Option (List Trip)) →
    option_and_then f (option_and_then (λ (ts : List Trip). Some (trip ∷ ts)) found)
    ≡ option_and_then (λ (ts : List Trip). f (trip ∷ ts)) found
then_some f trip None = refl
then_some f trip (Some ts) = refl

-- what a block costs from a trip on, where the trips after it are admitted
abbrev rest_of : DayFacts → Pool → Trip → List Trip → Option ℕ
rest_of day pool trip ts = given (all_admitted day pool ts) (cost_from day pool trip ts)

-- From a trip on, the rest of a path in the day's network costs what the rules say of the trips behind it: none where they do not
-- rise, are not there, are not admitted or not connected, and else the connections and the pull-in. The induction is over the trips;
-- an arc between two trips is a connection with its tests, and the arc to the end is the pull-in.
rest_is : (day : DayFacts) (pool : Pool) (t : ℕ) (trip : Trip) → slice_get day.trips t ≡ Some trip → (us : List ℕ) →
    cond (all_below (length day.trips) us) (rest_cost (net_of day pool) t us) None
    ≡ given (rises (t ∷ us))
    (option_and_then (λ (ts : List Trip). given (all_admitted day pool ts) (cost_from day pool trip ts)) (trips_at day.trips us))
rest_is day pool t trip at [] =
    arc_end day pool t (get_in day.trips t trip at)
    ∙ (ap (λ (o : Option Trip). option_and_then (λ (x : Trip). option_map (λ (inward : ℕ). pool.dead_rate * inward) (pull_in day pool x))
    o) at ∙ map_then (λ (inward : ℕ). pool.dead_rate * inward) (pull_in day pool trip))
rest_is day pool t trip at (u ∷ us) = go (slice_get day.trips u) refl (λ next found. rest_is day pool u next found us)
  where
    go : (o : Option Trip) → slice_get day.trips u ≡ o →
        ((next : Trip) → slice_get day.trips u ≡ Some next → cond (all_below (length day.trips) us) (rest_cost (net_of day pool) u us) None
        ≡ given (rises (u ∷ us)) (option_and_then (rest_of day pool next) (trips_at day.trips us))) →
        cond (all_below (length day.trips) (u ∷ us)) (rest_cost (net_of day pool) t (u ∷ us)) None
        ≡ given (rises (t ∷ u ∷ us)) (option_and_then (rest_of day pool trip) (trips_at day.trips (u ∷ us)))
    go None none later =
        let past = get_past day.trips u none in
        let test : nat_lt u (length day.trips) ≡ false = grind (arith, nat_tests) in
        let left : cond (all_below (length day.trips) (u ∷ us)) (rest_cost (net_of day pool) t (u ∷ us)) None ≡ None =
        ap (λ (b : Bool). cond (b && all_below (length day.trips) us) (rest_cost (net_of day pool) t (u ∷ us)) None) test in
        let right : option_and_then (rest_of day pool trip) (trips_at day.trips (u ∷ us)) ≡ None =
        ap (λ (o : Option Trip). option_and_then (rest_of day pool trip)
        (option_and_then (λ (x : Trip). option_and_then (λ (ts : List Trip). Some (x ∷ ts)) (trips_at day.trips us)) o)) none in
        left ∙ sym (ap (given (rises (t ∷ u ∷ us))) right ∙ given_none (rises (t ∷ u ∷ us)))
    go (Some next) found later =
        let t_in = get_in day.trips t trip at in
        let u_in = get_in day.trips u next found in
        let test : nat_lt u (length day.trips) ≡ true = grind (arith, nat_tests) in
        let rest = rest_cost (net_of day pool) u us in
        let k = all_below (length day.trips) us in
        let arc : arc_of day pool t u
        ≡ given (nat_lt t u) (given (admits day next.line pool.typ)
        (option_map (λ (l : Link). link_cost pool next l) (link day pool trip next))) =
        arc_link day pool t u t_in u_in ∙ rw (at, found) refl in
        let left : cond (all_below (length day.trips) (u ∷ us)) (rest_cost (net_of day pool) t (u ∷ us)) None
        ≡ cond k (both (given (nat_lt t u)
        (given (admits day next.line pool.typ) (option_map (λ (l : Link). link_cost pool next l) (link day pool trip next)))) rest) None =
        ap (λ (b : Bool). cond (b && k) (both (arc_of day pool t u) rest) None) test
        ∙ ap (λ (o : Option ℕ). cond k (both o rest) None) arc in
        let middle = step_plain (nat_lt t u) (rises (u ∷ us)) (admits day next.line pool.typ) k (link day pool trip next)
        (λ (l : Link). link_cost pool next l) rest (trips_at day.trips us) (all_admitted day pool)
        (cost_from day pool next) (later next found) in
        let right : option_and_then (rest_of day pool trip) (trips_at day.trips (u ∷ us))
        ≡ option_and_then (λ (ts : List Trip). (rest_of day pool trip) (next ∷ ts)) (trips_at day.trips us) =
        ap (λ (o : Option Trip). option_and_then (rest_of day pool trip)
        (option_and_then (λ (x : Trip). option_and_then (λ (ts : List Trip). Some (x ∷ ts)) (trips_at day.trips us)) o)) found
        ∙ then_some (rest_of day pool trip) next (trips_at day.trips us) in
        left ∙ (middle ∙ sym (ap (given (rises (t ∷ u ∷ us))) right))

-- A whole path: the arc from the store to its first trip is the pull-out with the fixed cost, for an admitted trip, and behind it
-- stands `rest_is`. Where the first trip is not there both sides give nothing.
path_from : (day : DayFacts) (pool : Pool) (list : List ℕ) →
    given (rises list) (option_and_then (λ (ts : List Trip). block_cost day pool ts) (trips_at day.trips list))
    ≡ nets.path_cost (net_of day pool) list
path_from day pool [] = refl
path_from day pool (t ∷ us) = sym (go (slice_get day.trips t) refl)
  where
    go : (o : Option Trip) → slice_get day.trips t ≡ o →
        nets.path_cost (net_of day pool) (t ∷ us)
        ≡ given (rises (t ∷ us)) (option_and_then (block_cost day pool) (trips_at day.trips (t ∷ us)))
    go None none =
        let past = get_past day.trips t none in
        let test : nat_lt t (length day.trips) ≡ false = grind (arith, nat_tests) in
        let left : nets.path_cost (net_of day pool) (t ∷ us) ≡ None =
        ap (λ (b : Bool). cond (b && all_below (length day.trips) us)
        (both (arc_of day pool (length day.trips) t) (rest_cost (net_of day pool) t us)) None) test in
        let right : option_and_then (block_cost day pool) (trips_at day.trips (t ∷ us)) ≡ None =
        ap (λ (o : Option Trip). option_and_then (block_cost day pool)
        (option_and_then (λ (x : Trip). option_and_then (λ (ts : List Trip). Some (x ∷ ts)) (trips_at day.trips us)) o)) none in
        left ∙ sym (ap (given (rises (t ∷ us))) right ∙ given_none (rises (t ∷ us)))
    go (Some trip) found =
        let t_in = get_in day.trips t trip found in
        let test : nat_lt t (length day.trips) ≡ true = grind (arith, nat_tests) in
        let rest = rest_cost (net_of day pool) t us in
        let k = all_below (length day.trips) us in
        let leaving : ℕ → ℕ = λ out. pool.fixed + pool.dead_rate * out in
        let arc : arc_of day pool (length day.trips) t
        ≡ given (admits day trip.line pool.typ) (option_map leaving (pull_out day pool trip)) = arc_start day pool t t_in ∙ rw found refl in
        let left : nets.path_cost (net_of day pool) (t ∷ us)
        ≡ cond k (both (given true (given (admits day trip.line pool.typ) (option_map leaving (pull_out day pool trip)))) rest) None =
        ap (λ (b : Bool). cond (b && k) (both (arc_of day pool (length day.trips) t) rest) None) test
        ∙ ap (λ (o : Option ℕ). cond k (both o rest) None) arc in
        let middle = step_plain true (rises (t ∷ us)) (admits day trip.line pool.typ) k (pull_out day pool trip) leaving rest
        (trips_at day.trips us) (all_admitted day pool) (cost_from day pool trip) (rest_is day pool t trip found us) in
        let right : option_and_then (block_cost day pool) (trips_at day.trips (t ∷ us))
        ≡ option_and_then (λ (ts : List Trip). (block_cost day pool) (trip ∷ ts)) (trips_at day.trips us) =
        ap (λ (o : Option Trip). option_and_then (block_cost day pool)
        (option_and_then (λ (x : Trip). option_and_then (λ (ts : List Trip). Some (x ∷ ts)) (trips_at day.trips us)) o)) found
        ∙ then_some (block_cost day pool) trip (trips_at day.trips us) in
        left ∙ (middle ∙ sym (ap (given (rises (t ∷ us))) right))

-- A list costs in the day's network what it costs as a path of the day's one pool. The rules of paths ask for the pool of class 0,
-- and this is the one that the network was made of; all else is `path_from`.
pub path_net : (day : DayFacts) (pool : Pool) → day.params.pools ≡ pool ∷ [] → (list : List ℕ) →
    path_cost day 0 list ≡ nets.path_cost (net_of day pool) list
path_net day pool one list =
    let P : List Pool → Type 0 =
    λ pools. given (rises list)
    (option_and_then (λ (q : Pool). option_and_then (λ (ts : List Trip). block_cost day q ts) (trips_at day.trips list))
    (slice_get pools 0)) ≡
    given (rises list) (option_and_then (λ (ts : List Trip). block_cost day pool ts) (trips_at day.trips list)) in
    subst P (sym one) refl ∙ path_from day pool list

-- the columns are the same
columns_same : (day : DayFacts) (pool : Pool) → day.params.pools ≡ pool ∷ [] → (lists : List (List ℕ)) →
    columns_of day lists ≡ nets.columns_of (net_of day pool) lists
columns_same day pool one [] = refl
columns_same day pool one (list ∷ lists) =
    let column : path_column day list ≡ nets.path_column (net_of day pool) list =
    ap (λ (o : Option ℕ). record { class = 0; worth = unwrap_or o 0; items = list }) (path_net day pool one list) in
    let rest = columns_same day pool one lists in
    cc

columns_to : (day : DayFacts) (pool : Pool) → day.params.pools ≡ pool ∷ [] → (lists : List (List ℕ)) →
    AreColumns (paths_of day) (columns_of day lists) → AreColumns (nets.paths (net_of day pool)) (nets.columns_of (net_of day pool) lists)
columns_to day pool one [] are = tt
columns_to day pool one (list ∷ lists) are =
    let same = path_net day pool one list in
    let worth : nets.path_cost (net_of day pool) list ≡ Some (unwrap_or (path_cost day 0 list) 0) = sym same ∙ are.0.1 in
    let number : unwrap_or (path_cost day 0 list) 0 ≡ unwrap_or (nets.path_cost (net_of day pool) list) 0 =
    ap (λ (o : Option ℕ). unwrap_or o 0) same in
    ((omega arith, worth ∙ ap Some number), columns_to day pool one lists are.1)

columns_back : (day : DayFacts) (pool : Pool) → day.params.pools ≡ pool ∷ [] → (lists : List (List ℕ)) →
    AreColumns (nets.paths (net_of day pool)) (nets.columns_of (net_of day pool) lists) → AreColumns (paths_of day) (columns_of day lists)
columns_back day pool one [] are = tt
columns_back day pool one (list ∷ lists) are =
    let same = path_net day pool one list in
    let worth : path_cost day 0 list ≡ Some (unwrap_or (nets.path_cost (net_of day pool) list) 0) = same ∙ are.0.1 in
    let number : unwrap_or (nets.path_cost (net_of day pool) list) 0 ≡ unwrap_or (path_cost day 0 list) 0 =
    ap (λ (o : Option ℕ). unwrap_or o 0) (sym same) in
    let class : 0 < length (paths_of day).caps =
    (let P : List Pool → Type 0 = λ pools. 0 < length (map (λ (q : Pool). q.cap) pools) in subst P (sym one) (omega arith)) in
    ((class, worth ∙ ap Some number), columns_back day pool one lists are.1)

-- The path plans of a day with one pool are the covers of its network, at the same cost: since a list costs the same on both sides,
-- both make the same columns of it (`columns_same`), and a plan and a cover ask the same of columns: that they are worth what they
-- say, that each trip stands in exactly one, and that there are no more than vehicles. By this contract all that is proved of
-- networks, a cover of least cost and its prices, holds of the day.
pub plans_are_covers : (day : DayFacts) (pool : Pool) → PlansAreCovers day pool
plans_are_covers day pool one lists = (to, back, ap cost (columns_same day pool one lists))
  where
    caps_same : map (λ (q : Pool). q.cap) day.params.pools ≡ pool.cap ∷ []
    caps_same = ap (λ (pools : List Pool). map (λ (q : Pool). q.cap) pools) one

    same : columns_of day lists ≡ nets.columns_of (net_of day pool) lists
    same = columns_same day pool one lists

    to : IsPathPlan day lists → nets.IsCover (net_of day pool) lists
    to plan = record {
      worths = columns_to day pool one lists plan.worths;
      once = λ item below. rw (← same) (plan.once item below);
      caps = λ class below.
          let C : List Column → Type 0 = λ columns. times class (all_classes columns) ≤ slice_index (pool.cap ∷ []) class in
          let P : List ℕ → Type 0 = λ caps. times class (all_classes (columns_of day lists)) ≤ slice_index caps class in
          let L : List ℕ → Type 0 = λ caps. class < length caps in
          subst C same (subst P caps_same (plan.caps class (subst L (sym caps_same) below)));
    }

    back : nets.IsCover (net_of day pool) lists → IsPathPlan day lists
    back cover = record {
      worths = columns_back day pool one lists cover.worths;
      once = λ item below. rw same (cover.once item below);
      caps = λ class below.
          let C : List Column → Type 0 = λ columns. times class (all_classes columns) ≤ slice_index (pool.cap ∷ []) class in
          let P : List ℕ → Type 0 = λ caps. times class (all_classes (columns_of day lists)) ≤ slice_index caps class in
          let L : List ℕ → Type 0 = λ caps. class < length caps in
          subst P (sym caps_same) (subst C (sym same) (cover.caps class (subst L caps_same below)));
    }
