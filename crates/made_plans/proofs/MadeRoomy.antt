-- A made day is roomy.
use Rattle.std.proofs.Common.{◌≡◌, ℕ, ℤ, pos, negsuc, zero, suc, ◌+◌, ◌-◌, ◌*◌, ◌<◌, ◌≤◌, ◌≤ℤ◌, ◌-ℤ◌, ◌&&◌, ◌||◌, ◌==◌, Bool, true, false, Option, Some, None, refl, sym, ap, subst, ◌∙◌, arith, nat_le, slice_get}
use Rattle.std.specs.Prelude.{option_and_then}
use Rattle.std.specs.Int.RustNames.{unsigned_abs}
use Rattle.std.proofs.lemmas.Bool.Decides.{nat_tests}
use Rattle.std.proofs.lemmas.Int.{ints}
use Rattle.std.proofs.lemmas.Bool.{and_parts, le-leb}
use Rattle.std.proofs.lemmas.Option.{same_Some}
use Rattle.std.proofs.Math.Bool.{or-true}
use Rattle.plan_core.specs.declared.types.Point.{Point}
use Rattle.plan_core.proofs.Options.{and_then_some, given_some}
use Rattle.vdv452_tables.specs.Keys.{point_eq}
use Rattle.trip_times.specs.declared.trip.Trip.{Trip}
use Rattle.plan_params.specs.declared.rows.ParamRows.{ParamRows}
use Rattle.plan_params.specs.declared.rows.pool.Pool.{Pool}
use Rattle.plan_params.specs.LookUps.{admits_in, is_relief_in, way_in}
use Rattle.day_model.specs.declared.link.Link.{Link}
use Rattle.day_model.specs.declared.link.Link.TheVariants.{Direct, Depot}
use Rattle.day_model.specs.Facts.{DayFacts, dead, is_relief}
use Rattle.day_model.specs.Links.{depot_link, depot_over, direct_for, direct_link, direct_over, first_of, given, link, pull_out_over, seconds}
use Rattle.depot_network.specs.Driving.{is_cut_on, trip_seconds}
use Rattle.depot_network.proofs.Bounds.{seconds_some}
use Rattle.made_plans.specs.MadeDays.{IsMadeDay}
use Rattle.made_plans.specs.MadeRows.{point}
use Rattle.made_plans.specs.MadeTrips.{IsMadeTrip, IsTerminal}
use Rattle.made_plans.specs.Roomy.{IsAlone, IsNear, IsRoomy, IsRoomyWith}
use Rattle.made_plans.proofs.MadeDay.{IsMade, made_dead, made_group, made_is, made_params, made_pool}
use Rattle.made_plans.proofs.Places.{all_there}

-- What holds of each of the eight terminals holds of all. The lemmas below are shown by it, terminal by terminal, by computing with
-- the day's tables, so that later only arithmetic over the numbers of terminals is left.
by_terminal : (P : ℕ → Type 0) → P 1 → P 2 → P 3 → P 4 → P 5 → P 6 → P 7 → P 8 → (a : ℕ) → IsTerminal a → P a
by_terminal P p1 p2 p3 p4 p5 p6 p7 p8 a is = on a is.low is.high
  where
    on : (a : ℕ) → 1 ≤ a → a ≤ 8 → P a
    on zero low high = absurd (omega (arith, low))
    on (suc zero) low high = p1
    on (suc (suc zero)) low high = p2
    on (suc (suc (suc zero))) low high = p3
    on (suc (suc (suc (suc zero)))) low high = p4
    on (suc (suc (suc (suc (suc zero))))) low high = p5
    on (suc (suc (suc (suc (suc (suc zero)))))) low high = p6
    on (suc (suc (suc (suc (suc (suc (suc zero))))))) low high = p7
    on (suc (suc (suc (suc (suc (suc (suc (suc zero)))))))) low high = p8
    on (suc (suc (suc (suc (suc (suc (suc (suc (suc n))))))))) low high = absurd (omega (arith, high))

-- how long it takes between two terminals, and between a terminal and a depot that lies beside one
abbrev between : ℕ → ℕ → ℕ
between a b = 300 * ((a - b) + (b - a))

abbrev beside : ℕ → ℕ → ℕ
beside p a = 300 * ((p - a) + (a - p)) + 300

abbrev Between : ℕ → ℕ → Type 0
Between a b = made_dead (point a) (point b) ≡ Some (between a b)

from_terminal : (a : ℕ) → Between a 1 → Between a 2 → Between a 3 → Between a 4 → Between a 5 → Between a 6 → Between a 7 → Between a 8 →
    (b : ℕ) → IsTerminal b → Between a b
from_terminal a = by_terminal (Between a)

-- The 64 pairs of terminals are computed one by one; the answer is a formula, 300 seconds for each step from terminal to terminal.
between_is : (a b : ℕ) → IsTerminal a → IsTerminal b → Between a b
between_is a b at to =
    by_terminal (λ a. (b : ℕ) → IsTerminal b → Between a b)
    (from_terminal 1 refl refl refl refl refl refl refl refl)
    (from_terminal 2 refl refl refl refl refl refl refl refl)
    (from_terminal 3 refl refl refl refl refl refl refl refl)
    (from_terminal 4 refl refl refl refl refl refl refl refl)
    (from_terminal 5 refl refl refl refl refl refl refl refl)
    (from_terminal 6 refl refl refl refl refl refl refl refl)
    (from_terminal 7 refl refl refl refl refl refl refl refl)
    (from_terminal 8 refl refl refl refl refl refl refl refl)
    a at b to

-- a depot beside a terminal
record IsDepot (d p : ℕ) : Type 0 where
  pub low : 2 ≤ p
  pub high : p ≤ 7
  pub inward : (a : ℕ) → IsTerminal a → made_dead (point a) (point d) ≡ Some (beside p a)
  pub out : (a : ℕ) → IsTerminal a → made_dead (point d) (point a) ≡ Some (beside p a)

first_depot : IsDepot 101 2
first_depot = record {
  low = omega arith;
  high = omega arith;
  inward = by_terminal (λ a. made_dead (point a) (point 101) ≡ Some (beside 2 a)) refl refl refl refl refl refl refl refl;
  out = by_terminal (λ a. made_dead (point 101) (point a) ≡ Some (beside 2 a)) refl refl refl refl refl refl refl refl;
}

second_depot : IsDepot 102 7
second_depot = record {
  low = omega arith;
  high = omega arith;
  inward = by_terminal (λ a. made_dead (point a) (point 102) ≡ Some (beside 7 a)) refl refl refl refl refl refl refl refl;
  out = by_terminal (λ a. made_dead (point 102) (point a) ≡ Some (beside 7 a)) refl refl refl refl refl refl refl refl;
}

-- the ways of drivers of the first group
abbrev Home : ℕ → ℕ → Type 0
Home trips nr = (way_in (made_params trips) (point 101) (point nr) ≡ Some (beside 2 nr))
    × (way_in (made_params trips) (point nr) (point 101) ≡ Some (beside 2 nr))

home_ways : (trips a : ℕ) → IsTerminal a → Home trips a
home_ways trips = by_terminal (Home trips) (refl, refl) (refl, refl) (refl, refl) (refl, refl) (refl, refl)
    (refl, refl) (refl, refl) (refl, refl)

-- The home of the first group is the first depot, beside the second terminal; the eighth terminal is farthest, 2,100 seconds away.
near_terminal : (trips a : ℕ) → IsTerminal a → IsNear (made_params trips) (made_group 1 101 trips) 2100 (point a)
near_terminal trips a at =
    let ways = home_ways trips a at in
    let low = at.low in
    let high = at.high in
    let short : beside 2 a ≤ 2100 = omega (arith, low, high) in
    record { out = beside 2 a; inward = beside 2 a; out_is = ways.0; in_is = ways.1; out_short = short; in_short = short }

near_first : (trips : ℕ) → IsNear (made_params trips) (made_group 1 101 trips) 2100 (point 101)
near_first trips = record { out = 0; inward = 0; out_is = refl; in_is = refl; out_short = omega arith; in_short = omega arith }

near_second : (trips : ℕ) → IsNear (made_params trips) (made_group 1 101 trips) 2100 (point 102)
near_second trips = record { out = 1800; inward = 1800; out_is = refl; in_is = refl; out_short = omega arith; in_short = omega arith }

-- drivers are relieved at each terminal
reliefs : (trips a : ℕ) → IsTerminal a → is_relief_in (made_params trips) (point a) ≡ true
reliefs trips = by_terminal (λ a. is_relief_in (made_params trips) (point a) ≡ true) refl refl refl refl refl refl refl refl

-- a time that is not below 0
natural : (z : ℤ) → pos 0 ≤ℤ z → (n : ℕ) × (z ≡ pos n)
natural (pos n) low = (n, refl)
natural (negsuc n) low = absurd (omega (arith, ints, low))

point_same : (at : Point) → point_eq at at ≡ true
point_same at =
    let typ : (at.typ == at.typ) ≡ true = grind (arith, nat_tests) in
    let nr : (at.nr == at.nr) ≡ true = grind (arith, nat_tests) in
    rw (typ, nr) refl

given_none : {A : Type 0} (b : Bool) (x : A) → given b (Some x) ≡ None → b ≡ false
given_none true x e = absurd (cc)
given_none false x e = refl

-- which of two is there
either : (P : Link → Type 0) (a b : Option Link) (l : Link) → ((l : Link) → a ≡ Some l → P l) → (a ≡ None → (l : Link) → b ≡ Some l → P l) →
    first_of a b ≡ Some l → P l
either P None b l first second e = second refl l e
either P (Some m) b l first second e = first l e

-- a pool of a made day
record IsMadePool (trips : ℕ) (q : Pool) : Type 0 where
  pub d : ℕ
  pub p : ℕ
  pub depot_is : q.depot ≡ point d
  pub depot : IsDepot d p
  pub near : IsNear (made_params trips) (made_group 1 101 trips) 2100 (point d)

pool_made : (trips class : ℕ) (q : Pool) → slice_get (made_params trips).pools class ≡ Some q → IsMadePool trips q
pool_made trips zero q e =
    let P : Pool → Type 0 = λ q. IsMadePool trips q in
    subst P (same_Some (made_pool 1 101 trips) q e)
    (record { d = 101; p = 2; depot_is = refl; depot = first_depot; near = near_first trips })
pool_made trips (suc zero) q e =
    let P : Pool → Type 0 = λ q. IsMadePool trips q in
    subst P (same_Some (made_pool 2 102 trips) q e)
    (record { d = 102; p = 7; depot_is = refl; depot = second_depot; near = near_second trips })
pool_made trips (suc (suc n)) q e = absurd (cc)

module _ (trips : ℕ) (day : DayFacts) (made : IsMade trips day) where
  dead_is : (from to : Point) (a b n : ℕ) → from ≡ point a → to ≡ point b → made_dead (point a) (point b) ≡ Some n →
      dead day from to ≡ Some n
  dead_is from to a b n from_is to_is is =
      ap (λ x. dead day x to) from_is ∙ ap (λ y. dead day (point a) y) to_is ∙ made.deads_are (point a) (point b) ∙ is

  near_is : (at : Point) (a : ℕ) → at ≡ point a → IsNear (made_params trips) (made_group 1 101 trips) 2100 (point a) →
      IsNear day.params (made_group 1 101 trips) 2100 at
  near_is at a is near =
      let P : ParamRows → Type 0 = λ params. IsNear params (made_group 1 101 trips) 2100 at in
      let Q : Point → Type 0 = λ at. IsNear (made_params trips) (made_group 1 101 trips) 2100 at in
      subst P (sym made.params_are) (subst Q (sym is) near)

  trip_at : (k : ℕ) (t : Trip) → slice_get day.trips k ≡ Some t → IsMadeTrip t
  trip_at k t is = all_there IsMadeTrip day.trips k t made.trips_are is

  alone : (t : Trip) → IsMadeTrip t → IsAlone day (made_pool 1 101 trips) t
  alone t trip =
      let low = trip.begins in
      let lasts = trip.lasts in
      let short = trip.short in
      let seconds_are : trip_seconds t ≡ trip.seconds = ap unsigned_abs lasts in
      let out : ℕ = beside 2 trip.from in
      let inward : ℕ = beside 2 trip.to in
      let from_low = trip.from_there.low in
      let from_high = trip.from_there.high in
      let to_low = trip.to_there.low in
      let to_high = trip.to_there.high in
      let out_short : out ≤ 2100 = omega (arith, from_low, from_high) in
      let in_short : inward ≤ 2100 = omega (arith, to_low, to_high) in
      let out_is : dead day (point 101) t.from ≡ Some out =
      dead_is (point 101) t.from 101 trip.from out refl trip.from_is (first_depot.out trip.from trip.from_there) in
      let (leaves, leaves_is) = natural (t.begin.0 -ℤ pos out) (omega (arith, ints, low, out_short)) in
      record {
        admitted = ap (λ (params : ParamRows). admits_in params t.line 1) made.params_are;
        order = omega (arith, ints, lasts);
        out = out;
        inward = inward;
        out_is = ap (λ o. pull_out_over t o) out_is ∙ ap (λ z. option_and_then (λ (leaves : ℕ). Some out) (seconds z)) leaves_is;
        in_is = dead_is t.to (point 101) trip.to 101 inward trip.to_is refl (first_depot.inward trip.to trip.to_there);
        short = omega (arith, seconds_are, short, out_short, in_short);
      }

  -- each connection has a cut
  module _ (class : ℕ) (q : Pool) (t u : Trip) (q_is : slice_get day.params.pools class ≡ Some q) (trip : IsMadeTrip t)
      (next : IsMadeTrip u) where
    abbrev Cut : Link → Type 0
    Cut l = is_cut_on day q u l ≡ true

    pool : IsMadePool trips q
    pool = pool_made trips class q (sym (ap (λ (params : ParamRows). slice_get params.pools class) made.params_are) ∙ q_is)

    turn : day.params.settings.turn ≡ 300
    turn = ap (λ (params : ParamRows). params.settings.turn) made.params_are

    wait : day.params.settings.max_wait ≡ 7200
    wait = ap (λ (params : ParamRows). params.settings.max_wait) made.params_are

    handover : day.params.settings.handover ≡ 300
    handover = ap (λ (params : ParamRows). params.settings.handover) made.params_are

    relieved : is_relief day u.from ≡ true
    relieved = ap (λ (params : ParamRows). is_relief_in params u.from) made.params_are
        ∙ ap (λ at. is_relief_in (made_params trips) at) next.from_is ∙ reliefs trips next.from next.from_there

    between_them : dead day t.to u.from ≡ Some (between trip.to next.from)
    between_them = dead_is t.to u.from trip.to next.from (between trip.to next.from) trip.to_is next.from_is
        (between_is trip.to next.from trip.to_there next.from_there)

    long_stand : (s : ℕ) → 300 ≤ s → (nat_le 1 s ≡ true) × (nat_le day.params.settings.handover s ≡ true)
    long_stand s long = (le-leb 1 s (omega (arith, long)), ap (λ n. nat_le n s) handover ∙ le-leb 300 s long)

    direct : (l : Link) → direct_link day t u ≡ Some l → Cut l
    direct l e =
        let (move, is_dead, stands) =
        and_then_some (λ (m : ℕ). direct_for day.params.settings m (seconds (u.begin.0 -ℤ t.end.0 -ℤ pos m))) (dead day t.to u.from) l e in
        let (stand, is_stand, made_of) =
        and_then_some (λ (s : ℕ). given (nat_le day.params.settings.turn s && nat_le s day.params.settings.max_wait) (Some (Direct move s)))
        (seconds (u.begin.0 -ℤ t.end.0 -ℤ pos move)) l stands in
        let (test, is) = given_some (nat_le day.params.settings.turn stand && nat_le stand day.params.settings.max_wait)
        (Some (Direct move stand)) l made_of in
        let turned : nat_le 300 stand ≡ true =
        sym (ap (λ n. nat_le n stand) turn)
        ∙ (and_parts (nat_le day.params.settings.turn stand) (nat_le stand day.params.settings.max_wait) test).0 in
        let long : 300 ≤ stand = grind (arith, nat_tests) in
        let (some, handed) = long_stand stand long in
        let here : Cut (Direct move stand) = rw (some, handed, relieved) refl in
        let P : Link → Type 0 = λ l. Cut l in
        subst P (same_Some (Direct move stand) l is) here

    in_is : dead day t.to q.depot ≡ Some (beside pool.p trip.to)
    in_is = dead_is t.to q.depot trip.to pool.d (beside pool.p trip.to) trip.to_is pool.depot_is (pool.depot.inward trip.to trip.to_there)

    out_is : dead day q.depot u.from ≡ Some (beside pool.p next.from)
    out_is = dead_is q.depot u.from pool.d next.from (beside pool.p next.from) pool.depot_is next.from_is
        (pool.depot.out next.from next.from_there)

    -- Where there is no direct connection the vehicle stands long at the depot. The way over the depot takes at least 600 seconds more
    -- than the direct deadhead, so if it can be driven, time for a minimum layover would be left on the direct one; that it is refused
    -- must then be for the greatest wait. So more than 7,200 seconds are left for it, of which the two ways take at most 4,200, and
    -- 300 for a handover remain.
    stands_long : (s : ℕ) → direct_link day t u ≡ None →
        (u.begin.0 -ℤ t.end.0 -ℤ pos (beside pool.p trip.to) -ℤ pos (beside pool.p next.from)) ≡ pos s → 300 ≤ s
    stands_long s none is =
        let m : ℕ = between trip.to next.from in
        let i : ℕ = beside pool.p trip.to in
        let o : ℕ = beside pool.p next.from in
        let a_low = trip.to_there.low in
        let a_high = trip.to_there.high in
        let b_low = next.from_there.low in
        let b_high = next.from_there.high in
        let p_low = pool.depot.low in
        let p_high = pool.depot.high in
        let around : m + 600 ≤ i + o = omega arith in
        let in_short : i ≤ 2100 = omega (arith, a_low, a_high, p_low, p_high) in
        let out_short : o ≤ 2100 = omega (arith, b_low, b_high, p_low, p_high) in
        let n : ℕ = s + i + o - m in
        let left : (u.begin.0 -ℤ t.end.0 -ℤ pos m) ≡ pos n = omega (arith, ints, is, around) in
        let test : (nat_le day.params.settings.turn n && nat_le n day.params.settings.max_wait) ≡ false =
        given_none (nat_le day.params.settings.turn n && nat_le n day.params.settings.max_wait) (Direct m n)
        (sym (ap (λ o. direct_over day.params.settings t u o) between_them ∙ ap (λ z. direct_for day.params.settings m (seconds z)) left)
        ∙ none) in
        let tested : (nat_le 300 n && nat_le n 7200) ≡ false =
        sym (ap (λ k. nat_le k n && nat_le n day.params.settings.max_wait) turn ∙ ap (λ k. nat_le 300 n && nat_le n k) wait) ∙ test in
        let enough : nat_le 300 n ≡ true = le-leb 300 n (omega (arith, around)) in
        let past : nat_le n 7200 ≡ false = sym (ap (λ b. b && nat_le n 7200) enough) ∙ tested in
        let over : 7200 < n = grind (arith, nat_tests) in
        omega (arith, over, in_short, out_short)

    by_depot : direct_link day t u ≡ None → (l : Link) → depot_link day q t u ≡ Some l → Cut l
    by_depot none l e =
        let i : ℕ = beside pool.p trip.to in
        let o : ℕ = beside pool.p next.from in
        let told : depot_over t u (Some i) (Some o) ≡ Some l =
        sym (ap (λ x. depot_over t u x (dead day q.depot u.from)) in_is ∙ ap (λ y. depot_over t u (Some i) y) out_is) ∙ e in
        let (stand, is_stand, is) =
        and_then_some (λ (s : ℕ). Some (Depot i o s)) (seconds (u.begin.0 -ℤ t.end.0 -ℤ pos i -ℤ pos o)) l told in
        let long = stands_long stand none (seconds_some (u.begin.0 -ℤ t.end.0 -ℤ pos i -ℤ pos o) stand is_stand) in
        let (some, handed) = long_stand stand long in
        let own : (is_relief day q.depot || point_eq q.depot q.depot) ≡ true =
        ap (λ b. is_relief day q.depot || b) (point_same q.depot) ∙ or-true (is_relief day q.depot) in
        let here : Cut (Depot i o stand) = rw (some, handed, own) refl in
        let P : Link → Type 0 = λ l. Cut l in
        subst P (same_Some (Depot i o stand) l is) here

    -- A direct connection stands for its minimum layover of 300 seconds at least, which is a handover too, and at a terminal, where
    -- drivers are relieved; one via the depot stands there for 300 at least (`stands_long`), and a depot is a place for cuts. So each
    -- connection has a cut, and no piece a stand in it.
    cut : (l : Link) → link day q t u ≡ Some l → is_cut_on day q u l ≡ true
    cut l e = either Cut (direct_link day t u) (depot_link day q t u) l direct by_depot e

  made_roomy_with : IsRoomyWith day (made_pool 1 101 trips) (made_group 1 101 trips) 2100
  made_roomy_with = record {
    pool_is = ap (λ (params : ParamRows). slice_get params.pools 0) made.params_are;
    group_is = ap (λ (params : ParamRows). slice_get params.groups 0) made.params_are;
    vehicles = made.few;
    drivers = made.few;
    spread = omega arith;
    alone = λ k t is. alone t (trip_at k t is);
    begins = λ k t is. let trip = trip_at k t is in near_is t.from trip.from trip.from_is (near_terminal trips trip.from trip.from_there);
    ends = λ k t is. let trip = trip_at k t is in near_is t.to trip.to trip.to_is (near_terminal trips trip.to trip.to_there);
    depots = λ class q is.
        let pool = pool_made trips class q (sym (ap (λ (params : ParamRows). slice_get params.pools class) made.params_are) ∙ is) in
        near_is q.depot pool.d pool.depot_is pool.near;
    cuts = λ class j k q t u l q_is t_is u_is e. cut class q t u q_is (trip_at j t t_is) (trip_at k u u_is) l e;
  }

-- Ways, pull-outs and pull-ins take at most 2,100 seconds, as a depot lies beside the second or the seventh of eight terminals, and
-- trips at most 5,700; so a trip alone is driven within four and a half hours, and twice the ways with sign-on and sign-off leave
-- thirteen hours open. What is left is that each connection has a cut (`cut`). With it `made_days_are_planned` is that of roomy days.
pub made_roomy : (seed trips day : ℕ) (facts : DayFacts) → trips ≤ 3000 → IsMadeDay seed trips day facts → IsRoomy facts
made_roomy seed trips day facts few made =
    record {
      pool = made_pool 1 101 trips;
      group = made_group 1 101 trips;
      way = 2100;
      roomy =
          made_roomy_with trips facts (made_is seed trips day facts few made);
    }
