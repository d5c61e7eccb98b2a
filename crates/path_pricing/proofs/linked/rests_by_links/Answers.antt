use Rattle.std.proofs.Common.{◌≡◌, ◌≤ℤ◌, ◌-ℤ◌, ◌+◌, ◌-◌, ℕ, ℤ, List, ap, arith, length, rules, slice_set, subst, sym, ◌∙◌, to_z, of_z, w64}
use Rattle.std.proofs.lemmas.Int.{ints, to_z-of_z}
use Rattle.std.specs.Prelude.{FitsSigned}
use Rattle.cover_core.specs.Plans.{price_at}
use Rattle.path_pricing.specs.Blocks.{AreBoundsFrom, StepsAbove}
use Rattle.path_pricing.specs.Lows.{AreLows, IsLowOver}
use Rattle.path_pricing.proofs.Cells.{set_length}
use Rattle.path_pricing.proofs.LinkSteps.{low_set, lows_set}
use Rattle.path_pricing.proofs.Places.{rests_end, rests_set}
use Rattle.path_pricing.proofs.linked.rests_by_links.Goals as goal

pub loop-t-init : goal.loop-t-init
loop-t-init c =
    let net = c.args.net.now in
    let all : length c.trips-count.result.now ≡ length net.day.trips = search rules in
    let long : length c.in_ok-rests.rests.items ≡ length net.day.trips = search rules in
    let longer : length c.in_ok-lows.lows.items ≡ length net.day.trips = search rules in
    let From : ℕ → Type 0 = λ t. AreBoundsFrom net.day net.counts c.args.prices.now c.args.pool.now c.in_ok-rests.rests.items t in
    record {
      from = omega (arith, all, c.requires.from);
      within = omega (arith, all);
      count = long;
      lows_count = longer;
      low = λ u from before. absurd (omega (arith, all, from, before));
      lows = λ u from before. absurd (omega (arith, all, from, before));
      made = subst From (sym all) (rests_end net.day net.counts c.args.prices.now c.args.pool.now c.in_ok-rests.rests.items long);
    }

pub rest_behind-rest-requires-clause-count : goal.rest_behind-rest-requires-clause-count
rest_behind-rest-requires-clause-count c = ap (length {A = ℤ}) c.as_slice-in-loop-t.ensures.value ∙ c.loop-t.invariant.lows_count

pub rest_behind-rest-requires-clause-lows : goal.rest_behind-rest-requires-clause-lows
rest_behind-rest-requires-clause-lows c =
    let end : ℕ = length c.args.net.now.day.trips in
    let same : c.loop-t.t ≡ c.loop-t.t - 1 + 1 = omega (arith, c.loop-t-test.true) in
    let At : ℕ → Type 0 = λ t. AreLows c.args.prices.now c.loop-t.rests.items c.loop-t.lows.items t end in
    let Rests : List ℤ → Type 0 = λ l. AreLows c.args.prices.now l c.loop-t.lows.items (c.loop-t.t - 1 + 1) end in
    let Lows : List ℤ → Type 0 = λ l. AreLows c.args.prices.now c.as_slice.result.now l (c.loop-t.t - 1 + 1) end in
    subst Lows (sym c.as_slice-in-loop-t.ensures.value) (subst Rests (sym c.as_slice.ensures.value) (subst At same c.loop-t.invariant.lows))

-- One trip more, from the last one back: its rest is put in (`rests_set`), and with it the least of what the trips from here on give
-- with their prices and rests, which tells the trips before it when the walk over their connections may stop (`low_set`,
-- `lows_set`).
pub loop-t-preserved : goal.loop-t-preserved
loop-t-preserved c =
    let net = c.args.net.now in
    let items : List ℤ = c.loop-t.rests.items in
    let k : ℕ = c.loop-t.t - 1 in
    let new : ℤ = c.rest_behind-rest.result in
    let fits : FitsSigned w64 new = search rules in
    let back : to_z w64 (of_z w64 new) ≡ new = to_z-of_z w64 new fits in
    let same : c.loop-t.t ≡ k + 1 = omega (arith, c.loop-t-test.true) in
    let long = c.loop-t.invariant.count in
    let within = c.loop-t.invariant.within in
    let From : ℕ → Type 0 = λ t. AreBoundsFrom net.day net.counts c.args.prices.now c.args.pool.now items t in
    let Steps : List ℤ → Type 0 = λ l. StepsAbove net.day net.counts c.args.prices.now c.args.pool.now l k (length net.day.trips) new in
    let Set : ℤ → Type 0 = λ z. AreBoundsFrom net.day net.counts c.args.prices.now c.args.pool.now (slice_set items k z) k in
    let end : ℕ = length net.day.trips in
    let lows : List ℤ = c.loop-t.lows.items in
    let lower : ℤ = c.low_with-low.result in
    let lower_fits : FitsSigned w64 lower = search rules in
    let lower_back : to_z w64 (of_z w64 lower) ≡ lower = to_z-of_z w64 lower lower_fits in
    let first : lower ≤ℤ to_z w64 c.loop-t.low-bits = search rules in
    let second : lower ≤ℤ (new -ℤ price_at c.args.prices.now k) =
    omega (arith, ints, c.low_with-low.ensures.second, c.price.ensures.value, back) in
    let Over : ℕ → Type 0 = λ t. IsLowOver c.args.prices.now items t end (to_z w64 c.loop-t.low-bits) in
    let over : IsLowOver c.args.prices.now (slice_set items k new) k end lower =
    low_set c.args.prices.now items k end new _ lower (omega (arith, within, long, same)) first second
    (subst Over same c.loop-t.invariant.low) in
    let Lows : ℕ → Type 0 = λ t. AreLows c.args.prices.now items lows t end in
    let are : AreLows c.args.prices.now (slice_set items k new) (slice_set lows k lower) k end =
    lows_set c.args.prices.now items lows k end new lower (omega (arith, within, c.loop-t.invariant.lows_count, same)) over
    (subst Lows same c.loop-t.invariant.lows) in
    let Over-new : ℤ → Type 0 = λ z. IsLowOver c.args.prices.now (slice_set items k z) k end (to_z w64 (of_z w64 lower)) in
    let Over-low : ℤ → Type 0 = λ z. IsLowOver c.args.prices.now (slice_set items k new) k end z in
    let Are-new : ℤ → Type 0 = λ z. AreLows c.args.prices.now (slice_set items k z) (slice_set lows k (to_z w64 (of_z w64 lower))) k end in
    let Are-low : ℤ → Type 0 = λ z. AreLows c.args.prices.now (slice_set items k new) (slice_set lows k z) k end in
    record {
      from = omega (arith, same, c.loop-t-test.true);
      within = omega (arith, within);
      count = set_length items k (to_z w64 (of_z w64 new)) ∙ long;
      lows_count = set_length lows k (to_z w64 (of_z w64 lower)) ∙ c.loop-t.invariant.lows_count;
      low = subst Over-new (sym back) (subst Over-low (sym lower_back) over);
      lows = subst Are-new (sym back) (subst Are-low (sym lower_back) are);
      made = subst Set (sym back)
          (rests_set net.day net.counts c.args.prices.now c.args.pool.now items k new (omega (arith, within, long, same))
          c.rest_behind-rest.ensures.closes
          (subst Steps c.as_slice.ensures.value c.rest_behind-rest.ensures.steps) c.rest_behind-rest.ensures.deep
          (subst From same c.loop-t.invariant.made));
    }

pub returns : goal.returns
returns c =
    let net = c.args.net.now in
    let end : c.loop-t.t ≡ c.args.from = omega (arith, c.loop-t-test.false, c.loop-t.invariant.from) in
    let From : ℕ → Type 0 = λ t. AreBoundsFrom net.day net.counts c.args.prices.now c.args.pool.now c.loop-t.rests.items t in
    subst From end c.loop-t.invariant.made
