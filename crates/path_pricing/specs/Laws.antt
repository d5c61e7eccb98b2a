-- Promise: the laws of the labels of blocks.
use Rattle.std.proofs.Common.{◌≡◌, ℕ, ℤ, pos, ◌+ℤ◌, ◌-ℤ◌, ◌≤ℤ◌, ◌<ℤ◌, Bool, true, false, cond, int_le, List, length, All, Some, None, is_some, refl, sym, ap, ◌∙◌, arith}
use Rattle.std.proofs.lemmas.Bool.Decides.{nat_tests}
use Rattle.std.proofs.lemmas.Int.{ints}
use Rattle.plan_core.specs.Limits.{most_price}
use Rattle.plan_core.specs.declared.Price.{Price}
use Rattle.cover_core.specs.FirstLeast.{AllWithin}
use Rattle.cover_core.specs.Labels.{IsKept, IsValued}
use Rattle.cover_core.specs.Plans.{number_at, price_at}
use Rattle.plan_params.specs.declared.rows.pool.Pool.{Pool}
use Rattle.plan_params.specs.Limits.{IsPool}
use Rattle.day_model.specs.Facts.{DayFacts}
use Rattle.day_model.specs.Ranges.{IsDaily}
use Rattle.label_search.specs.Laws.{GoodAs, IsStepwise, IsSafe, HidesNone, IsFloor}
use Rattle.label_search.specs.Levels.{IsAbove, NoneFollows, NoneFollowsAbove, NoneReachesAbove}
use Rattle.label_search.specs.Limits.{is_low, passed}
use Rattle.label_search.specs.Pricing.{is_between}
use Rattle.label_search.proofs.Limits.{floor-hides}
use Rattle.label_search.proofs.Pricing.{of_start-hides, of_start-kept, of_start-stepwise, of_start-valued, start-parts}
use Rattle.depot_network.specs.declared.open.OpenBlock.{OpenBlock}
use Rattle.depot_network.specs.Driving.{driven_in, driven_on}
use Rattle.depot_network.specs.Open.{closed_open, extended_open, first_open, is_as_good, opening, scaled}
use Rattle.depot_network.specs.Walk.{added, ended, last_step}
use Rattle.depot_network.proofs.Bounds.{some_same}
use Rattle.depot_network.proofs.Opens.{added_parts, given_both, joined_parts, map_some, next_parts, opening_kept, opening_safe, opening_stepwise, opening_valued, same_trip}
use Rattle.path_pricing.specs.Blocks.{AreBoundsFrom, IsInRange, block_labels, floor_of}

module _ (day : DayFacts) (counts : Bool) (prices : List Price) (pool : Pool) (first end : ℕ) where
  pub labels_kept : IsKept (block_labels day counts prices pool first end) (GoodAs is_as_good)
  labels_kept = of_start-kept (opening day counts prices pool) (GoodAs is_as_good) (is_between first end)
      (opening_kept day counts prices pool)

  pub labels_valued : IsValued (block_labels day counts prices pool first end) (GoodAs is_as_good) (λ a. a.value)
      (closed_open day counts pool)
  labels_valued = of_start-valued (opening day counts prices pool) (GoodAs is_as_good) (λ a. a.value) (closed_open day counts pool)
      (is_between first end) (opening_valued day counts prices pool)

  pub labels_stepwise : IsStepwise (block_labels day counts prices pool first end) (length day.trips) (λ a. a.trip)
  labels_stepwise = of_start-stepwise (opening day counts prices pool) (length day.trips) (λ a. a.trip) (is_between first end)
      (opening_stepwise day counts prices pool)

  pub labels_safe : All IsDaily day.trips → IsPool pool → AllWithin most_price prices →
      IsSafe (block_labels day counts prices pool first end) (IsInRange (length day.trips) first)
  labels_safe daily ranges moderate =
      let safe = opening_safe day counts prices pool daily ranges moderate in
      let steps = opening_stepwise day counts prices pool in
      record {
        starts = λ t a e.
            let (inside, is) = start-parts (is_between first end t) (first_open day counts prices pool t) a e in
            let (there, same) = steps.starts t a is in
            record { fits = safe.starts t a is; from = grind (arith, nat_tests) };
        steps = λ a b u fit e.
            let (later, there, same) = steps.steps a b u e in
            let from = fit.from in
            record { fits = safe.steps a b u fit.fits e; from = omega (arith, later, same, from) };
      }

  -- a connection with a trip more, in numbers
  record IsMore (a b : OpenBlock) (u : ℕ) : Type 0 where
    pub cost : ℕ
    pub is_cost : added day pool a.trip u ≡ Some cost
    pub trip : b.trip ≡ u
    pub value : b.value ≡ a.value +ℤ scaled counts cost -ℤ price_at prices u

  more : (a b : OpenBlock) (u : ℕ) → extended_open day counts prices pool a u ≡ Some b → IsMore a b u
  more a b u e =
      let x = next_parts day counts prices pool a b u e in
      let (cost, driving) = joined_parts (added day pool a.trip u) (driven_on day pool a.driving a.trip u) x.step x.is_step in
      record { cost = x.step.cost; is_cost = cost; trip = x.trip; value = x.value }

  scaled_up : (cost : ℕ) → pos 0 ≤ℤ scaled counts cost
  scaled_up cost = elim counts as (λ c. pos 0 ≤ℤ scaled c cost) [ true ↦ omega (arith, ints) | false ↦ omega (arith, ints) ]

  module _ (rests : List ℤ) where
    bounds_floor : AreBoundsFrom day counts prices pool rests first →
        IsFloor (opening day counts prices pool) (closed_open day counts pool) (IsInRange (length day.trips) first) (floor_of rests)
    bounds_floor bounds = record {
      closes = λ a v fits e.
          let (m, is, same) = map_some (λ (cost : ℕ). a.value +ℤ scaled counts cost) (last_step day pool a.driving a.trip) v e in
          let (there, cost) = given_both (is_some (driven_in day pool a.driving a.trip)) (ended day pool a.trip) m is in
          let low = bounds.closes a.trip fits.from m cost in
          omega (arith, ints, low, same);
      steps = λ a b u fits e.
          let x = more a b u e in
          let (later, there) = added_parts day counts prices pool a.trip u x.cost x.is_cost in
          let low = bounds.steps a.trip fits.from u x.cost there x.is_cost in
          let value = x.value in
          let same : number_at rests b.trip ≡ number_at rests u = ap (number_at rests) x.trip in
          omega (arith, ints, low, value, same);
    }

    pub labels_hide : AreBoundsFrom day counts prices pool rests first →
        HidesNone (block_labels day counts prices pool first end) is_as_good (closed_open day counts pool)
        (IsInRange (length day.trips) first) (is_low (floor_of rests))
    labels_hide bounds =
        of_start-hides (opening day counts prices pool) is_as_good (closed_open day counts pool) (IsInRange (length day.trips) first)
        (is_low (floor_of rests)) (is_between first end)
        (floor-hides (opening day counts prices pool) is_as_good (closed_open day counts pool) (IsInRange (length day.trips) first)
        (floor_of rests) rises (bounds_floor bounds))
      where
        rises : (a b : OpenBlock) → is_as_good a b ≡ true → floor_of rests a ≤ℤ floor_of rests b
        rises a b h =
            let (trip, driving, value) = same_trip a b h in
            let same : number_at rests a.trip ≡ number_at rests b.trip = ap (number_at rests) trip in
            omega (arith, ints, value, same)

    above : (b : OpenBlock) (limit : ℤ) → limit <ℤ floor_of rests b → passed (is_low (floor_of rests) limit) (Some b) ≡ None
    above b limit high =
        let test : int_le (floor_of rests b) limit ≡ false = grind (arith, ints) in
        ap (λ t. cond t (Some b) None) test

    -- a trip at which no block of a value above the most stays within the limit
    pub none_reaches : (limit most : ℤ) (u : ℕ) →
        ((v : ℤ) → IsAbove most v → limit <ℤ (v +ℤ pos 0 -ℤ price_at prices u +ℤ number_at rests u)) →
        NoneReachesAbove (block_labels day counts prices pool first end) (IsInRange (length day.trips) first) (λ a. a.value)
        (is_low (floor_of rests) limit) u most
    none_reaches limit most u high a fits more_than =
        elim (extended_open day counts prices pool a u) as (λ o. extended_open day counts prices pool a u ≡ o →
        passed (is_low (floor_of rests) limit) o ≡ None) [
          | None ↦ λ is. refl
          | Some b ↦ λ is.
              let x = more a b u is in
              let value = x.value in
              let up = scaled_up x.cost in
              let same : number_at rests b.trip ≡ number_at rests u = ap (number_at rests) x.trip in
              above b limit (omega (arith, ints, high a.value more_than, value, up, same))
        ] refl

    -- there is no connection to the trip
    pub none_linked : (limit : ℤ) (t u : ℕ) → added day pool t u ≡ None →
        NoneFollows (block_labels day counts prices pool first end) (IsInRange (length day.trips) first) (λ a. a.trip)
        (is_low (floor_of rests) limit) t u
    none_linked limit t u none a fits at =
        elim (extended_open day counts prices pool a u) as (λ o. extended_open day counts prices pool a u ≡ o →
        passed (is_low (floor_of rests) limit) o ≡ None) [
          | None ↦ λ is. refl
          | Some b ↦ λ is.
              let x = more a b u is in
              let bad : None ≡ Some x.cost = sym none ∙ ap (λ i. added day pool i u) (sym at) ∙ x.is_cost in
              absurd (cc)
        ] refl

    -- the connection to the trip costs so much that no block of a value above the most stays within the limit
    pub none_follows : (limit most : ℤ) (t u cost : ℕ) → added day pool t u ≡ Some cost →
        ((v : ℤ) → IsAbove most v → limit <ℤ (v +ℤ scaled counts cost -ℤ price_at prices u +ℤ number_at rests u)) →
        NoneFollowsAbove (block_labels day counts prices pool first end) (IsInRange (length day.trips) first) (λ a. a.trip) (λ a. a.value)
        (is_low (floor_of rests) limit) t u most
    none_follows limit most t u cost linked high a fits at more_than =
        elim (extended_open day counts prices pool a u) as (λ o. extended_open day counts prices pool a u ≡ o →
        passed (is_low (floor_of rests) limit) o ≡ None) [
          | None ↦ λ is. refl
          | Some b ↦ λ is.
              let x = more a b u is in
              let value = x.value in
              let both : Some x.cost ≡ Some cost = sym x.is_cost ∙ ap (λ i. added day pool i u) at ∙ linked in
              let same_cost : scaled counts x.cost ≡ scaled counts cost = ap (scaled counts) (some_same x.cost cost both) in
              let same : number_at rests b.trip ≡ number_at rests u = ap (number_at rests) x.trip in
              above b limit (omega (arith, ints, high a.value more_than, value, same_cost, same))
        ] refl
