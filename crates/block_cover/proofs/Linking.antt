-- A mark's block with a trip more.
use Rattle.std.proofs.Common.{◌≡◌, ℕ, ◌&&◌, ◌<◌, ◌∙◌, ap, Bool, true, false, is_some, nat_lt, List, Option, Some, refl, subst, arith, slice_get}
use Rattle.std.specs.Prelude.{option_and_then}
use Rattle.std.proofs.lemmas.Bool.Decides.{nat_tests}
use Rattle.plan_core.specs.declared.Price.{Price}
use Rattle.cover_core.specs.declared.marks.BlockMark.{BlockMark}
use Rattle.trip_times.specs.declared.trip.Trip.{Trip}
use Rattle.plan_params.specs.declared.rows.pool.Pool.{Pool}
use Rattle.day_model.specs.Facts.{DayFacts, admits}
use Rattle.day_model.specs.declared.link.Link.{Link}
use Rattle.day_model.specs.Links.{admits_at, given, link, link_at, with_trip}
use Rattle.depot_network.specs.BlockMarks.{extended_mark, extended_over}
use Rattle.depot_network.proofs.Bounds.{and_then_some}

some-given : {A : Type 0} (test : Bool) (x : A) → is_some (given test (Some x)) ≡ true → test ≡ true
some-given true x e = refl
some-given false x e = absurd (cc)

both-given : {A : Type 0} (a b : Bool) (o : Option A) → a ≡ true → b ≡ true → given (a && b) o ≡ o
both-given true true o e h = refl
both-given true false o e h = absurd (cc)
both-given false b o e h = absurd (cc)

-- A mark with a later trip more is what is made over the connection to this trip. The definition's step tests all again: that the trip
-- is there, comes later, is admitted by the pool's vehicles and can be reached. Each of these is known from the connection that was
-- found, by opening the look-ups in their order, so every test passes and the driving and the value are left. So the code may ask the
-- day for each of them by itself.
pub extended-with : (day : DayFacts) (counts : Bool) (prices : List Price) (m : BlockMark) (k : ℕ) (pool : Pool) (next : Trip) (l : Link) →
    slice_get day.params.pools m.class ≡ Some pool → slice_get day.trips k ≡ Some next → m.trip < k → admits_at day m.class k ≡ true →
    link_at day m.class m.trip k ≡ Some l →
    extended_mark day counts prices m k ≡ extended_over day counts prices pool m k next l
extended-with day counts prices m k pool next l there next_is later admitted linked =
    let P : Option Pool → Type 0 =
    λ o. option_and_then (λ (p : Pool). with_trip day m.trip (λ t. with_trip day k (λ u. link day p t u))) o ≡ Some l in
    let linked_by : with_trip day m.trip (λ t. with_trip day k (λ u. link day pool t u)) ≡ Some l = subst P there linked in
    let (trip, trip_is, to_next) =
    and_then_some (λ (t : Trip). with_trip day k (λ u. link day pool t u)) (slice_get day.trips m.trip) l linked_by in
    let Q : Option Trip → Type 0 = λ o. option_and_then (λ (u : Trip). link day pool trip u) o ≡ Some l in
    let over : link day pool trip next ≡ Some l = subst Q next_is to_next in
    let R : Option Pool → Type 0 =
    λ o. is_some (option_and_then (λ (p : Pool). with_trip day k (λ u. given (admits day u.line p.typ) (Some u))) o) ≡ true in
    let S : Option Trip → Type 0 = λ o. is_some (option_and_then (λ (u : Trip). given (admits day u.line pool.typ) (Some u)) o) ≡ true in
    let allowed : admits day next.line pool.typ ≡ true =
    some-given (admits day next.line pool.typ) next (subst S next_is (subst R there admitted)) in
    let up : nat_lt m.trip k ≡ true = grind (arith, nat_tests) in
    ap (option_and_then (λ (p : Pool). with_trip day m.trip (λ t. with_trip day k (λ u. given (nat_lt m.trip k && admits day u.line p.typ)
    (option_and_then (extended_over day counts prices p m k u) (link day p t u)))))) there ∙
    (ap (option_and_then (λ (t : Trip). with_trip day k (λ u. given (nat_lt m.trip k && admits day u.line pool.typ)
    (option_and_then (extended_over day counts prices pool m k u) (link day pool t u))))) trip_is ∙
    (ap (option_and_then (λ (u : Trip). given (nat_lt m.trip k && admits day u.line pool.typ)
    (option_and_then (extended_over day counts prices pool m k u) (link day pool trip u)))) next_is ∙
    (both-given (nat_lt m.trip k) (admits day next.line pool.typ)
    (option_and_then (extended_over day counts prices pool m k next) (link day pool trip next)) up allowed ∙
    ap (option_and_then (extended_over day counts prices pool m k next)) over)))
