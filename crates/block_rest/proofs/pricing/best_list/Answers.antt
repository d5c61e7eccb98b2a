use Rattle.std.proofs.Common.{◌≡◌, ◌<◌, ◌≤◌, ℕ, ℤ, List, Bool, Option, length, sym, ap, subst, ◌∙◌, arith, rules, to_z, of_z, w64}
use Rattle.std.proofs.lemmas.Int.{to_z-of_z}
use Rattle.day_model.specs.Ranges.{IsDaily}
use Rattle.std.specs.Prelude.{All, FitsSigned, IfOk, Some, slice_get}
use Rattle.plan_core.specs.declared.Price.{Price}
use Rattle.cover_core.specs.declared.Column.{Column}
use Rattle.cover_core.specs.Best.{best_of, within}
use Rattle.cover_core.specs.Cover.{Problem}
use Rattle.cover_core.specs.FirstLeast.{AllWithin}
use Rattle.plan_params.specs.declared.rows.pool.Pool.{Pool}
use Rattle.cover_rest.specs.declared.begun.Begun.{Begun}
use Rattle.cover_rest.specs.Laws.{StandForAll}
use Rattle.cover_rest.specs.Rest.{bodies, body_at, free_lists, rest_of}
use Rattle.cover_rest.proofs.Kept.{many-bodies}
use Rattle.trip_times.specs.declared.trip.Trip.{Trip}
use Rattle.day_model.specs.Facts.{DayFacts}
use Rattle.day_model.specs.Blocks.{block_worth}
use Rattle.depot_network.specs.Network.{blocks_of}
use Rattle.depot_network.specs.Open.{closed_open, opening}
use Rattle.depot_network.proofs.Opens.{opening_tied}
use Rattle.path_pricing.specs.Blocks.{AreBoundsFrom, block_labels}
use Rattle.rest_labels.specs.Labels.{is_set, may_follow, may_start, more_after}
use Rattle.rest_labels.specs.Laws.{IsTiedWithin}
use Rattle.rest_labels.specs.Prices.{AreAlike}
use Rattle.rest_labels.proofs.Ranges.{range-tied-within}
use Rattle.block_rest.specs.Rest.{begun_of, may_begin, rests}
use Rattle.block_rest.proofs.Pricings.{first-alone}
use Rattle.block_rest.proofs.pricing.best_list.Goals as goal

pub rests_from-requires-clause-moderate : goal.rests_from-requires-clause-moderate
rests_from-requires-clause-moderate c =
    let P : List Price → Type 0 = AllWithin 10000000000000 in
    subst P (sym c.as_slice.ensures.value) (c.in_ok-spread.ensures.within 10000000000000 c.requires.moderate)

pub starting_items-requires : goal.starting_items-requires
starting_items-requires c =
    let rest = c.args.rest.now in
    let begun : List Begun = c.args.begun.now in
    let n : ℕ = length rest.day.trips in
    let P : List Begun → Type 0 = λ hs. length begun ≤ length (bodies hs n) in
    let many : length begun ≤ length (bodies begun n) = many-bodies begun (free_lists begun n 0) in
    let stand : length c.args.bodies.now ≡ length (bodies (begun_of rest.heads) n) = ap length c.requires.made.stand in
    let here = subst P c.requires.made.same many in
    let free = c.in_ok-free.ensures.each in
    let slice : length c.as_slice-4.result.now ≡ length c.in_ok-free.free.items = ap length c.as_slice-4.ensures.value in
    omega (arith, stand, here, free, slice)

pub invariant_of-labels-clause-moderate : goal.invariant_of-labels-clause-moderate
invariant_of-labels-clause-moderate c =
    let P : List Price → Type 0 = AllWithin 10000000000000 in
    subst P (sym c.as_slice-2.ensures.value) (c.in_ok-spread.ensures.within 10000000000000 c.requires.moderate)

pub invariant_of-labels-clause-daily : goal.invariant_of-labels-clause-daily
invariant_of-labels-clause-daily c =
    let P : List Trip → Type 0 = All IsDaily in
    subst P (c.trips.ensures.trips ∙ ap (λ (d : DayFacts). d.trips) c.day-day.ensures) c.trips.ensures.daily

pub invariant_of-labels-clause-bounds : goal.invariant_of-labels-clause-bounds
invariant_of-labels-clause-bounds c =
    let net = c.args.net.now in
    let P : List Price → Type 0 =
    λ l. AreBoundsFrom net.day net.counts l c.pool_of.result.now c.in_ok-rests.rests.items c.first_items-range.result.first in
    let Q : List ℤ → Type 0 =
    λ l. AreBoundsFrom net.day net.counts c.as_slice-2.result.now c.pool_of.result.now l c.first_items-range.result.first in
    subst Q (sym c.as_slice-3.ensures.value) (subst P (c.as_slice.ensures.value ∙ sym c.as_slice-2.ensures.value) c.in_ok-rests.ensures)

-- The best list of a rest in a pool and group. All premises of `best_of_rest` are put together here: the bodies are what the heads
-- and the other trips stand for, the marks say which of them may begin a list and which heads go on, the spread prices make
-- written-out lists as dear as the lists of the rest, and the labels of open blocks, begun where the group's bodies begin, are tied
-- to the blocks' worths (`range-tied-within`, `opening_tied`). Most of the lines carry these facts from what was computed to what
-- the contract speaks of.
pub returns-clause-best : goal.returns-clause-best
returns-clause-best c =
    let net = c.args.net.now in
    let rest = c.args.rest.now in
    let day : DayFacts = net.day in
    let bs : List (List ℕ) = c.args.bodies.now in
    let begun : List Begun = c.args.begun.now in
    let class : ℕ = c.args.class in
    let made = c.requires.made in
    let heads : List Begun = begun_of rest.heads in
    let pool : Pool = c.pool_of.result.now in
    let spread : List Price = c.as_slice-2.result.now in
    let same : spread ≡ c.in_ok-spread.spread.items = c.as_slice-2.ensures.value in
    let p : Problem = blocks_of day net.counts in
    let may : ℕ → List ℕ → Bool = may_begin day rest.moment in
    let R : DayFacts → Bool → Problem = λ d k. rest_of (blocks_of d k) heads (may_begin d rest.moment) in
    let rest_is : rests rest ≡ R day net.counts = ap (λ d. R d rest.counts) (sym c.requires.day) ∙ ap (R day) (sym c.requires.counts) in
    let stand : bs ≡ bodies heads (length day.trips) =
    made.stand ∙ ap (λ (d : DayFacts). bodies heads (length d.trips)) (sym c.requires.day) in
    let A : DayFacts → Type 0 = λ d. StandForAll (length d.trips) bs in
    let all : StandForAll (length day.trips) bs = subst A (sym c.requires.day) made.all in
    let T : List Trip → Type 0 = λ ts. StandForAll (length ts) bs in
    let D : DayFacts → ℕ → Type 0 =
    λ d m. (x : ℕ) → x < length bs → is_set c.in_ok-free.free.items x ≡ may_begin d m class (body_at bs x) in
    let D2 : ℕ → Type 0 = D day in
    let D1 : DayFacts → Type 0 = λ d. D d c.moment.result in
    let free : D day rest.moment = subst D2 c.moment.ensures (subst D1 c.day-day.ensures c.in_ok-free.ensures.free) in
    let S : List Bool → Type 0 = λ marks. (x : ℕ) → x < length bs → is_set marks x ≡ may class (body_at bs x) in
    let marked : S c.as_slice-4.result.now = subst S (sym c.as_slice-4.ensures.value) free in
    let each : length c.as_slice-4.result.now ≡ length bs = ap length c.as_slice-4.ensures.value ∙ c.in_ok-free.ensures.each in
    let H : List Begun → List Bool → Type 0 =
    λ hs marks. (x : ℕ) → x < length bs → is_set marks x ≡ may_start may class (slice_get hs x) (body_at bs x) in
    let H1 : List Begun → Type 0 = λ hs. H hs c.in_ok-starts.starts.items in
    let H2 : List Bool → Type 0 = H heads in
    let begins : H begun c.in_ok-starts.starts.items =
    λ x within. c.in_ok-starts.ensures.starts bs may x (omega (arith, within, each)) (marked x within) in
    let starts : H heads c.as_slice-5.result.now = subst H2 (sym c.as_slice-5.ensures.value) (subst H1 made.same begins) in
    let E : List Begun → List Bool → Type 0 = λ hs marks. (x : ℕ) → more_after marks x ≡ may_follow (slice_get hs x) in
    let E1 : List Begun → Type 0 = λ hs. E hs c.in_ok-ended.ended.items in
    let E2 : List Bool → Type 0 = E heads in
    let ended : E heads c.as_slice-6.result.now =
    subst E2 (sym c.as_slice-6.ensures.value) (subst E1 made.same c.in_ok-ended.ensures.ended) in
    let count : length c.as_slice-6.result.now ≡ length heads =
    ap length c.as_slice-6.ensures.value ∙ c.in_ok-ended.ensures.each ∙ ap length made.same in
    let trips : c.trips.result.now ≡ day.trips = c.trips.ensures.trips ∙ ap (λ (d : DayFacts). d.trips) c.day-day.ensures in
    let stands : StandForAll (length c.trips.result.now) bs = subst T (sym trips) all in
    let L : List Price → Type 0 = AreAlike bs c.args.prices.now in
    let alike : AreAlike bs c.args.prices.now spread = subst L (sym same) (c.in_ok-spread.ensures.alike stands) in
    let G : DayFacts → Type 0 = λ d. slice_get d.params.pools class ≡ Some pool in
    let there : slice_get day.params.pools class ≡ Some pool = subst G c.day-day.ensures c.pool_of.ensures.pool in
    let first : ℕ = c.first_items-range.result.first in
    let end : ℕ = c.first_items-range.result.end in
    let tied : IsTiedWithin first end (block_labels day net.counts spread pool first end) (closed_open day net.counts pool) spread
    (block_worth day net.counts class) =
    range-tied-within (opening day net.counts spread pool) first end (closed_open day net.counts pool) spread
    (block_worth day net.counts class)
    (opening_tied day net.counts spread pool class there) in
    let fits : FitsSigned w64 c.args.limit = search rules in
    let limit : to_z w64 (of_z w64 c.args.limit) ≡ c.args.limit = to_z-of_z w64 c.args.limit fits in
    let W : ℤ → Type 0 = λ z. IfOk c.best_of_labels.result
    (λ (answer : Option Column). answer ≡ within z c.args.prices.now (best_of (rests rest) c.args.prices.now class c.args.group)) in
    subst W limit (c.best_of_labels.ensures.best p heads may c.args.prices.now
    (record {
      rest_is = rest_is;
      bodies_are = stand;
      marks = record { starts_is = starts; ended_is = λ x within. ended x; each = count };
      are = record {
        some = all.some;
        first =
            λ x more within. first-alone day rest.moment class (body_at bs x) more (all.some x within);
        alike = alike;
      };
      first = first;
      end = end;
      begin = c.first_items-range.ensures.within;
      tied = tied;
    }))

pub first_items-range-requires : goal.first_items-range-requires
first_items-range-requires c =
    let bs : List (List ℕ) = c.args.bodies.now in
    let D : DayFacts → Type 0 = λ d. StandForAll (length d.trips) bs in
    let T : List Trip → Type 0 = λ ts. StandForAll (length ts) bs in
    subst T (sym c.trips.ensures.trips) (subst D (sym (c.day-day.ensures ∙ c.requires.day)) c.requires.made.all)
