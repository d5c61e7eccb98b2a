-- Going on from a trip, point by point.
use Rattle.std.proofs.Common.{◌≡◌, ℕ, ℤ, pos, negsuc, ◌+◌, ◌-◌, ◌*◌, ◌<◌, ◌≤◌, ◌+ℤ◌, ◌-ℤ◌, ◌≤ℤ◌, ◌<ℤ◌, ◌&&◌, Bool, true, false, cond, nat_le, nat_lt, inl, inr, zero, suc, List, [], ◌∷◌, length, All, Option, Some, None, ◌⊎◌, refl, sym, ap, subst, ◌∙◌, arith, slice_get, mul-add}
use Rattle.std.specs.Prelude.{option_and_then, slice_index}
use Rattle.std.specs.Int.RustNames.{unsigned_abs}
use Rattle.std.specs.Option.{option_map}
use Rattle.std.proofs.Math.Nat.{eq-or-lt_of_le}
use Rattle.std.proofs.lemmas.Bool.Decides.{nat_tests}
use Rattle.std.proofs.lemmas.Int.{ints}
use Rattle.std.proofs.lemmas.Option.{slice_get_within}
use Rattle.std.proofs.lemmas.List.Elements.{All-tail}
use Rattle.plan_core.specs.declared.Price.{Price}
use Rattle.plan_core.specs.declared.types.Point.{Point}
use Rattle.cover_core.specs.Plans.{number_at, price_at}
use Rattle.vdv452_tables.specs.Keys.{point_eq}
use Rattle.trip_times.specs.declared.trip.Trip.{Trip}
use Rattle.plan_params.specs.declared.rows.pool.Pool.{Pool}
use Rattle.day_model.specs.declared.link.Link.{Link}
use Rattle.day_model.specs.declared.link.Link.TheVariants.{Direct, Depot}
use Rattle.day_model.specs.Begins.{AreBeginNumbers, IsFirstFrom}
use Rattle.day_model.specs.Facts.{DayFacts, admits, dead}
use Rattle.day_model.specs.Links.{depot_for, depot_link, direct_for, direct_link, first_of, given, link, pull_in_at, seconds, with_pool, with_trip}
use Rattle.day_model.specs.Blocks.{link_cost}
use Rattle.day_model.specs.Ranges.{IsDaily}
use Rattle.depot_network.specs.Open.{scaled}
use Rattle.depot_network.proofs.Bounds.{and_then_some, link_fits, seconds_some, some_same}
use Rattle.depot_network.proofs.Opens.{given_both, map_some}
use Rattle.path_pricing.specs.Points.{DepotAbove, DirectAbove, PointAbove, PointsAbove, by_depot, passed_value, stand_rate_at, stood_until, stood_value}

pub there : {A : Type 0} (xs : List A) (i : ℕ) → i < length xs → (x : A) × (slice_get xs i ≡ Some x)
there [] i within = absurd (omega (arith, within))
there (x ∷ xs) zero within = (x, refl)
there (x ∷ xs) (suc i) within = there xs i (omega (arith, within))

pub daily_at : (trips : List Trip) (t : ℕ) (trip : Trip) → slice_get trips t ≡ Some trip → All IsDaily trips → IsDaily trip
daily_at [] t trip e daily = absurd (cc)
daily_at (x ∷ xs) zero trip e daily = let P : Trip → Type 0 = IsDaily in subst P (some_same x trip e) (daily 0 x (omega arith))
daily_at (x ∷ xs) (suc t) trip e daily = daily_at xs t trip e (All-tail IsDaily x xs daily)

pub first_none : (trips : List Trip) (time : ℤ) → All IsDaily trips → pos 172800 <ℤ time → IsFirstFrom trips time (length trips)
first_none trips time daily late u trip at begins =
    let own = daily_at trips u trip at daily in
    let order = own.order in
    let ends = own.ends in
    absurd (omega (arith, ints, order, ends, begins, late))

pub abs_is : (z : ℤ) → pos 0 ≤ℤ z → pos (unsigned_abs z) ≡ z
abs_is (pos n) h = refl
abs_is (negsuc n) h = absurd (omega (arith, ints, h))

-- The times that the day tells are those between the trips.
pub between_at : (day : DayFacts) (t head : ℕ) (shown other : Trip) (o : Option ℕ) → slice_get day.trips t ≡ Some shown →
    slice_get day.trips head ≡ Some other →
    o ≡ with_trip day t (λ trip. with_trip day head (λ next. dead day trip.to next.from)) → dead day shown.to other.from ≡ o
between_at day t head shown other o at at' is =
    let e : with_trip day t (λ trip. with_trip day head (λ next. dead day trip.to next.from)) ≡ dead day shown.to other.from =
    rw (at, at') refl in sym (is ∙ e)

pub outward_at : (day : DayFacts) (class head : ℕ) (pool : Pool) (other : Trip) (o : Option ℕ) →
    slice_get day.params.pools class ≡ Some pool → slice_get day.trips head ≡ Some other →
    o ≡ with_pool day class (λ pool. with_trip day head (λ next. dead day pool.depot next.from)) → dead day pool.depot other.from ≡ o
outward_at day class head pool other o there at is =
    let e : with_pool day class (λ pool. with_trip day head (λ next. dead day pool.depot next.from)) ≡ dead day pool.depot other.from =
    rw (there, at) refl in sym (is ∙ e)

pub inward_at : (day : DayFacts) (class t : ℕ) (pool : Pool) (shown : Trip) (o : Option ℕ) → slice_get day.params.pools class ≡ Some pool →
    slice_get day.trips t ≡ Some shown →
    o ≡ pull_in_at day class t → dead day shown.to pool.depot ≡ o
inward_at day class t pool shown o there at is =
    let e : pull_in_at day class t ≡ dead day shown.to pool.depot = rw (there, at) refl in sym (is ∙ e)

pub by_depot_some : (o p : Option ℕ) (seconds : ℕ) → by_depot o p ≡ Some seconds →
    (i : ℕ) × (j : ℕ) × (o ≡ Some i) × (p ≡ Some j) × (i + j ≡ seconds)
by_depot_some None p seconds e = absurd (cc)
by_depot_some (Some i) None seconds e = absurd (cc)
by_depot_some (Some i) (Some j) seconds e = (i, j, refl, refl, some_same (i + j) seconds e)

pub by_depot_none : (o p : Option ℕ) → by_depot o p ≡ None → (o ≡ None) ⊎ (p ≡ None)
by_depot_none None p e = inl refl
by_depot_none (Some i) None e = inr refl
by_depot_none (Some i) (Some j) e = absurd (cc)

-- What is said of the head of a point is said of each trip that begins there.
module _ (day : DayFacts) (counts : Bool) (pool : Pool) (numbers : List ℕ) (value : ℕ → ℤ) where
  same_point : (head u : ℕ) (other next : Trip) (number : ℕ) → AreBeginNumbers day.trips numbers → slice_get day.trips head ≡ Some other →
      slice_get day.trips u ≡ Some next →
      slice_index numbers head ≡ number → slice_index numbers u ≡ number → other.from ≡ next.from
  same_point head u other next number are is at own same = are.same head u other next is at (own ∙ sym same)

  -- Direct ways from a trip to a point: one look at one trip that begins there (the head) is enough for all that do, as the deadhead
  -- and the standing rate depend on the point alone. The cell read is that of the first place whose trip begins late enough; each
  -- trip that may follow stands at this place or later, so its value is at least the cell, which is a least value over all of them.
  -- Standing is counted from midnight, so that the cell depends on the later trip alone; what was stood before the arrival is taken
  -- off here.
  pub direct_above : (cells : List ℤ) (width number t head place move time : ℕ) (shown other : Trip) (result : ℤ) →
      slice_get day.trips t ≡ Some shown → slice_get day.trips head ≡ Some other → dead day shown.to other.from ≡ Some move →
      pos time ≡ shown.end.0 +ℤ pos move → t < place →
      ((u : ℕ) (trip : Trip) → t < u → slice_get day.trips u ≡ Some trip →
      pos (time + day.params.settings.turn) ≤ℤ trip.begin.0 → place ≤ u) →
      result ≤ℤ (scaled counts (pool.dead_rate * move) -ℤ scaled counts (stand_rate_at pool other * time)
      +ℤ number_at cells ((length day.trips - place) * width + number)) →
      ((u : ℕ) → u < length day.trips → slice_index numbers u ≡ number → place ≤ u →
      number_at cells ((length day.trips - place) * width + number) ≤ℤ value u) →
      AreBeginNumbers day.trips numbers → slice_index numbers head ≡ number → DirectAbove day counts pool numbers value t number result
  direct_above cells width number t head place move time shown other result is_shown is_other is_move is_time after first low row are own u
      trip next move' time' later at at' same moved timed late =
      let one : shown ≡ trip = some_same shown trip (sym is_shown ∙ at) in
      let from : other.from ≡ next.from = same_point head u other next number are is_other at' own same in
      let ends : shown.end.0 ≡ trip.end.0 = ap (λ (x : Trip). x.end.0) one in
      let To : Trip → Type 0 = λ x. dead day x.to other.from ≡ Some move in
      let From : Point → Type 0 = λ p. dead day trip.to p ≡ Some move in
      let moves : move ≡ move' = some_same move move' (sym (subst From from (subst To one is_move)) ∙ moved) in
      let times : time ≡ time' = omega (arith, ints, ends, moves, is_time, timed) in
      let rate : stand_rate_at pool other ≡ stand_rate_at pool next =
      ap (λ (p : Point). cond (point_eq p pool.depot) 0 pool.stand_rate) from in
      let late' : pos (time + day.params.settings.turn) ≤ℤ next.begin.0 =
      let P : ℕ → Type 0 = λ n. pos (n + day.params.settings.turn) ≤ℤ next.begin.0 in subst P (sym times) late in
      let inside = slice_get_within day.trips u next at' in
      let below = row u inside same (first u next later at' late') in
      let cost : scaled counts (pool.dead_rate * move) ≡ scaled counts (pool.dead_rate * move') =
      ap (λ n. scaled counts (pool.dead_rate * n)) moves in
      let stood : scaled counts (stand_rate_at pool other * time) ≡ scaled counts (stand_rate_at pool next * time') =
      ap (λ n. scaled counts (n * time)) rate ∙ ap (λ n. scaled counts (stand_rate_at pool next * n)) times in
      omega (arith, ints, low, below, cost, stood)

  -- Where there is no deadhead to the point's head there is none to any trip that begins there, so no direct way is left to be
  -- bounded and any number will do. `depot_none` says the same of ways via the depot, where one of its two moves is not there.
  pub direct_none : (number t head : ℕ) (shown other : Trip) (least : ℤ) → slice_get day.trips t ≡ Some shown →
      slice_get day.trips head ≡ Some other → dead day shown.to other.from ≡ None →
      AreBeginNumbers day.trips numbers → slice_index numbers head ≡ number → DirectAbove day counts pool numbers value t number least
  direct_none number t head shown other least is_shown is_other none are own u trip next move time later at at' same moved timed late =
      let one : shown ≡ trip = some_same shown trip (sym is_shown ∙ at) in
      let from : other.from ≡ next.from = same_point head u other next number are is_other at' own same in
      let To : Trip → Type 0 = λ x. dead day x.to other.from ≡ None in
      let From : Point → Type 0 = λ p. dead day trip.to p ≡ None in
      let bad : None ≡ Some move = sym (subst From from (subst To one none)) ∙ moved in
      absurd (cc)

  -- Ways via the depot, by the same argument as direct ones: both moves depend on the points alone, the cell is the least of what
  -- trips of the point add from the first place whose trip begins late enough, and standing at the depot costs nothing, so nothing
  -- is taken off.
  pub depot_above : (cells : List ℤ) (width number t head place inward outward : ℕ) (shown other : Trip) (result : ℤ) →
      slice_get day.trips t ≡ Some shown → slice_get day.trips head ≡ Some other → dead day shown.to pool.depot ≡ Some inward →
      dead day pool.depot other.from ≡ Some outward → t < place →
      ((u : ℕ) (trip : Trip) → t < u → slice_get day.trips u ≡ Some trip →
      (shown.end.0 +ℤ pos (inward + outward)) ≤ℤ trip.begin.0 → place ≤ u) →
      result ≤ℤ (scaled counts (pool.dead_rate * (inward + outward)) +ℤ number_at cells ((length day.trips - place) * width + number)) →
      ((u : ℕ) → u < length day.trips → slice_index numbers u ≡ number → place ≤ u →
      number_at cells ((length day.trips - place) * width + number) ≤ℤ value u) →
      AreBeginNumbers day.trips numbers → slice_index numbers head ≡ number → DepotAbove day counts pool numbers value t number result
  depot_above cells width number t head place inward outward shown other result is_shown is_other is_in is_out after first low row are own u
      trip next inward' outward' later at at' same moved_in moved_out late =
      let one : shown ≡ trip = some_same shown trip (sym is_shown ∙ at) in
      let from : other.from ≡ next.from = same_point head u other next number are is_other at' own same in
      let ends : shown.end.0 ≡ trip.end.0 = ap (λ (x : Trip). x.end.0) one in
      let To : Trip → Type 0 = λ x. dead day x.to pool.depot ≡ Some inward in
      let From : Point → Type 0 = λ p. dead day pool.depot p ≡ Some outward in
      let ins : inward ≡ inward' = some_same inward inward' (sym (subst To one is_in) ∙ moved_in) in
      let outs : outward ≡ outward' = some_same outward outward' (sym (subst From from is_out) ∙ moved_out) in
      let late' : (shown.end.0 +ℤ pos (inward + outward)) ≤ℤ next.begin.0 = omega (arith, ints, ends, ins, outs, late) in
      let inside = slice_get_within day.trips u next at' in
      let below = row u inside same (first u next later at' late') in
      let cost : scaled counts (pool.dead_rate * (inward + outward)) ≡ scaled counts (pool.dead_rate * (inward' + outward')) =
      ap (λ n. scaled counts (pool.dead_rate * n)) (omega (arith, ins, outs)) in
      omega (arith, ints, low, below, cost)

  pub depot_none : (number t head : ℕ) (shown other : Trip) (least : ℤ) → slice_get day.trips t ≡ Some shown →
      slice_get day.trips head ≡ Some other →
      (dead day shown.to pool.depot ≡ None) ⊎ (dead day pool.depot other.from ≡ None) →
      AreBeginNumbers day.trips numbers → slice_index numbers head ≡ number → DepotAbove day counts pool numbers value t number least
  depot_none number t head shown other least is_shown is_other (inl none) are own u trip next inward outward later at at'
      same moved_in moved_out late =
      let one : shown ≡ trip = some_same shown trip (sym is_shown ∙ at) in
      let To : Trip → Type 0 = λ x. dead day x.to pool.depot ≡ None in
      let bad : None ≡ Some inward = sym (subst To one none) ∙ moved_in in
      absurd (cc)
  depot_none number t head shown other least is_shown is_other (inr none) are own u trip next inward outward later at at'
      same moved_in moved_out late =
      let from : other.from ≡ next.from = same_point head u other next number are is_other at' own same in
      let From : Point → Type 0 = λ p. dead day pool.depot p ≡ None in
      let bad : None ≡ Some outward = sym (subst From from none) ∙ moved_out in
      absurd (cc)

  pub direct_less : (t number : ℕ) (least low : ℤ) → low ≤ℤ least → DirectAbove day counts pool numbers value t number least →
      DirectAbove day counts pool numbers value t number low
  direct_less t number least low less above u trip next move time later at at' same moved timed late =
      let old = above u trip next move time later at at' same moved timed late in
      omega (arith, ints, less, old)

-- Standing between two times costs what standing from midnight to the second one does, less the same to the first one. This splits
-- the cost of a direct connection into a part of the earlier trip and its deadhead and one of the later trip, so that the least over
-- the later trips can be kept beforehand, once for all earlier ones.
stood_between : (counts b : Bool) (dead_rate rate move stand time begin : ℕ) → begin ≡ time + stand →
    (scaled counts (dead_rate * move) -ℤ scaled counts (cond b 0 rate * time) +ℤ scaled counts (cond b 0 rate * begin))
    ≡ scaled counts (dead_rate * move + rate * cond b 0 stand)
stood_between true b dead_rate rate move stand time begin is = omega (arith, ints)
stood_between false true dead_rate rate move stand time begin is = omega (arith, ints)
stood_between false false dead_rate rate move stand time begin is =
    let all : rate * begin ≡ rate * time + rate * stand = ap (λ n. rate * n) is ∙ mul-add rate time stand in
    omega (arith, ints, all)

either : (P : Link → Type 0) (a b : Option Link) (l : Link) → ((l : Link) → a ≡ Some l → P l) → ((l : Link) → b ≡ Some l → P l) →
    first_of a b ≡ Some l → P l
either P None b l first second e = second l e
either P (Some m) b l first second e = first l e

turn_kept : (turn wait stand : ℕ) → (nat_le turn stand && nat_le stand wait) ≡ true → turn ≤ stand
turn_kept turn wait stand test = grind (arith, nat_tests)

-- A connection is a direct way or one via the depot, so none adds less than both do.
module _ (day : DayFacts) (counts : Bool) (prices : List Price) (pool : Pool) (rests : List ℤ) (numbers : List ℕ) where
  abbrev Adds : ℕ → Trip → ℤ → Link → Type 0
  Adds u next low l = low ≤ℤ (scaled counts (link_cost pool next l) -ℤ price_at prices u +ℤ number_at rests u)

  -- A direct connection adds its cost, the later trip's price taken off, and the rest behind that. Its parts are those of which
  -- `DirectAbove` speaks: its arrival is the end of the trip and the deadhead, and as it keeps the minimum layover it is one of the
  -- ways that begin late enough. So the number bounds what it adds. The greatest wait is not used: a bound may only be too low.
  direct_adds : (t u : ℕ) (trip next : Trip) (low : ℤ) (l : Link) → IsDaily trip → IsDaily next → t < u →
      slice_get day.trips t ≡ Some trip → slice_get day.trips u ≡ Some next →
      DirectAbove day counts pool numbers (stood_value day counts prices pool rests) t (slice_index numbers u) low →
      direct_link day trip next ≡ Some l → Adds u next low l
  direct_adds t u trip next low l daily daily' later at at' above e =
      let (move, moved, e1) =
      and_then_some (λ (m : ℕ). direct_for day.params.settings m (seconds (next.begin.0 -ℤ trip.end.0 -ℤ pos m)))
      (dead day trip.to next.from) l e in
      let (stand, stood, e2) =
      and_then_some (λ (s : ℕ). given (nat_le day.params.settings.turn s && nat_le s day.params.settings.max_wait) (Some (Direct move s)))
      (seconds (next.begin.0 -ℤ trip.end.0 -ℤ pos move)) l e1 in
      let (test, e3) = given_both (nat_le day.params.settings.turn stand && nat_le stand day.params.settings.max_wait)
      (Some (Direct move stand)) l e2 in
      let turn = turn_kept day.params.settings.turn day.params.settings.max_wait stand test in
      let z = seconds_some (next.begin.0 -ℤ trip.end.0 -ℤ pos move) stand stood in
      let begins = daily.begins in
      let order = daily.order in
      let begins' = daily'.begins in
      let end_is = abs_is trip.end.0 (omega (arith, ints, begins, order)) in
      let begin_is = abs_is next.begin.0 begins' in
      let time : ℕ = unsigned_abs trip.end.0 + move in
      let timed : pos time ≡ trip.end.0 +ℤ pos move = omega (arith, ints, end_is) in
      let late : pos (time + day.params.settings.turn) ≤ℤ next.begin.0 = omega (arith, ints, timed, z, turn) in
      let same : unsigned_abs next.begin.0 ≡ time + stand = omega (arith, ints, begin_is, timed, z) in
      let below = above u trip next move time later at at' refl moved timed late in
      let until : stood_until counts pool (slice_get day.trips u) ≡ scaled counts (stand_rate_at pool next * unsigned_abs next.begin.0) =
      rw at' refl in
      let cost = stood_between counts (point_eq next.from pool.depot) pool.dead_rate pool.stand_rate move stand time
      (unsigned_abs next.begin.0) same in
      let P : Link → Type 0 = Adds u next low in
      subst P (some_same (Direct move stand) l e3) (omega (arith, ints, below, until, cost))

  depot_adds : (t u : ℕ) (trip next : Trip) (low : ℤ) (l : Link) → t < u → slice_get day.trips t ≡ Some trip →
      slice_get day.trips u ≡ Some next →
      DepotAbove day counts pool numbers (passed_value prices rests) t (slice_index numbers u) low →
      depot_link day pool trip next ≡ Some l → Adds u next low l
  depot_adds t u trip next low l later at at' above e =
      let (inward, is_in, e1) =
      and_then_some (λ (i : ℕ). option_and_then (λ (o : ℕ). depot_for i o (seconds (next.begin.0 -ℤ trip.end.0 -ℤ pos i -ℤ pos o)))
      (dead day pool.depot next.from)) (dead day trip.to pool.depot) l e in
      let (outward, is_out, e2) =
      and_then_some (λ (o : ℕ). depot_for inward o (seconds (next.begin.0 -ℤ trip.end.0 -ℤ pos inward -ℤ pos o)))
      (dead day pool.depot next.from) l e1 in
      let (stand, stood, e3) =
      and_then_some (λ (s : ℕ). Some (Depot inward outward s)) (seconds (next.begin.0 -ℤ trip.end.0 -ℤ pos inward -ℤ pos outward)) l e2 in
      let z = seconds_some (next.begin.0 -ℤ trip.end.0 -ℤ pos inward -ℤ pos outward) stand stood in
      let late : (trip.end.0 +ℤ pos (inward + outward)) ≤ℤ next.begin.0 = omega (arith, ints, z) in
      let below = above u trip next inward outward later at at' refl is_in is_out late in
      let cost : scaled counts (pool.dead_rate * (inward + outward) + pool.stand_rate * 0)
      ≡ scaled counts (pool.dead_rate * (inward + outward)) = ap (scaled counts) (omega arith) in
      let P : Link → Type 0 = Adds u next low in
      subst P (some_same (Depot inward outward stand) l e3) (omega (arith, ints, below, cost))

  scaled_up : (n : ℕ) → pos 0 ≤ℤ scaled counts n
  scaled_up n = elim counts as (λ c. pos 0 ≤ℤ scaled c n) [ true ↦ omega (arith, ints) | false ↦ omega (arith, ints) ]

  -- What a connection adds is bounded by what is known of its point, in one of two ways: a connection is a direct way or one via the
  -- depot, and no way of either kind adds less than the number; or the point was passed over, as every trip there with its rest adds
  -- no less, even at no cost of the connection, and a cost is never below 0.
  adds_of : (t u : ℕ) (trip next : Trip) (low : ℤ) (l : Link) {end : ℕ} → All IsDaily day.trips → t < u →
      slice_get day.trips t ≡ Some trip → slice_get day.trips u ≡ Some next →
      link day pool trip next ≡ Some l → u < length day.trips → slice_index numbers u ≡ end →
      PointAbove day counts pool numbers (stood_value day counts prices pool rests) (passed_value prices rests) t end low →
      Adds u next low l
  adds_of t u trip next low l {end = end} daily after at at' is_link inside same (inl both) =
      let (direct, depot) = both in
      let D : ℕ → Type 0 = λ n. DirectAbove day counts pool numbers (stood_value day counts prices pool rests) t n low in
      let E : ℕ → Type 0 = λ n. DepotAbove day counts pool numbers (passed_value prices rests) t n low in
      either (Adds u next low) (direct_link day trip next) (depot_link day pool trip next) l
      (λ l e. direct_adds t u trip next low l (daily_at day.trips t trip at daily) (daily_at day.trips u next at' daily) after at at'
      (subst D (sym same) direct) e)
      (λ l e. depot_adds t u trip next low l after at at' (subst E (sym same) depot) e) is_link
  adds_of t u trip next low l daily after at at' is_link inside same (inr near) =
      let fits = link_fits day pool trip next l is_link in
      let begins : trip.end.0 ≤ℤ next.begin.0 = omega (arith, ints, fits) in
      let below = near u trip next after at at' begins same in
      let up = scaled_up (link_cost pool next l) in
      omega (arith, ints, below, up)

  -- One point more is looked at: a connection to a trip that begins at it is bounded by what is known of the point (`adds_of`), and
  -- one to an earlier point was bounded before by a number that is now not greater. When all points are looked at, no connection
  -- from the trip adds less, which is the step that a completion bound needs; the search over all later trips is replaced by one
  -- look for each point.
  pub points_more : (t end : ℕ) (least low : ℤ) → All IsDaily day.trips → low ≤ℤ least →
      ((u : ℕ) → t < u → u < length day.trips → slice_index numbers u ≡ end →
      PointAbove day counts pool numbers (stood_value day counts prices pool rests) (passed_value prices rests) t end low) →
      PointsAbove day counts prices pool rests numbers t end least → PointsAbove day counts prices pool rests numbers t (end + 1) low
  points_more t end least low daily less here before u cost within linked =
      elim (eq-or-lt_of_le {n = slice_index numbers u} {m = end} (omega (arith, within))) [
        | inr other ↦ let old = before u cost other linked in omega (arith, ints, old, less)
        | inl same ↦
            let (trip, at, e1) = and_then_some
            (λ (trip : Trip). with_trip day u
            (λ next. given (nat_lt t u)
            (given (admits day next.line pool.typ) (option_map (λ l. link_cost pool next l) (link day pool trip next)))))
            (slice_get day.trips t) cost linked in
            let (next, at', e2) = and_then_some
            (λ (next : Trip). given (nat_lt t u)
            (given (admits day next.line pool.typ) (option_map (λ l. link_cost pool next l) (link day pool trip next))))
            (slice_get day.trips u) cost e1 in
            let (later, e3) = given_both (nat_lt t u)
            (given (admits day next.line pool.typ) (option_map (λ l. link_cost pool next l) (link day pool trip next))) cost e2 in
            let (admitted, e4) = given_both (admits day next.line pool.typ)
            (option_map (λ l. link_cost pool next l) (link day pool trip next)) cost e3 in
            let (l, is_link, costs) = map_some (λ (l : Link). link_cost pool next l) (link day pool trip next) cost e4 in
            let after : t < u = grind (arith, nat_tests) in
            let inside = slice_get_within day.trips u next at' in
            let Q : ℕ → Type 0 = λ n. low ≤ℤ (scaled counts n -ℤ price_at prices u +ℤ number_at rests u) in
            subst Q costs (adds_of t u trip next low l daily after at at' is_link inside same (here u after inside same))
      ]

  pub points_none : (t : ℕ) (least : ℤ) → PointsAbove day counts prices pool rests numbers t 0 least
  points_none t least u cost within linked = absurd (omega (arith, within))
