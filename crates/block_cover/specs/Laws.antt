-- Promise: the laws of the marks of open blocks.
use Rattle.std.proofs.Common.{◌≡◌, ℕ, ℤ, pos, neg_ℤ, ◌+◌, ◌*◌, ◌<◌, ◌≤◌, ◌+ℤ◌, ◌-ℤ◌, ◌≤ℤ◌, ◌<ℤ◌, Bool, true, false, cond, nat_le, List, [], ◌∷◌, length, All, Option, Some, None, refl, sym, ap, subst, ◌∙◌, arith, zero, suc, slice_get, is_some}
use Rattle.std.specs.Prelude.{option_and_then}
use Rattle.std.specs.Option.{option_map}
use Rattle.std.proofs.lemmas.Bool.Decides.{nat_tests}
use Rattle.std.proofs.lemmas.Int.{ints}
use Rattle.std.proofs.lemmas.List.Elements.{All-tail}
use Rattle.plan_core.specs.Limits.{most_kept_price}
use Rattle.plan_core.specs.declared.Price.{Price}
use Rattle.cover_core.specs.declared.marks.BlockMark.{BlockMark}
use Rattle.cover_core.specs.FirstLeast.{AllWithin}
use Rattle.cover_core.specs.Labels.{label_of, IsValued}
use Rattle.cover_core.specs.Plans.{price_at, value_of}
use Rattle.cover_core.proofs.Values.{price_at-within}
use Rattle.label_search.specs.Laws.{GoodAs}
use Rattle.label_search.specs.Pricing.{IsTied}
use Rattle.trip_times.specs.declared.trip.Trip.{Trip}
use Rattle.plan_params.specs.declared.rows.pool.Pool.{Pool}
use Rattle.plan_params.specs.Limits.{IsPool}
use Rattle.day_model.specs.declared.link.Link.{Link}
use Rattle.day_model.specs.Facts.{DayFacts, admits}
use Rattle.day_model.specs.Links.{given, link, pull_in, pull_out, with_trip}
use Rattle.day_model.specs.Blocks.{block_worth, link_cost}
use Rattle.day_model.specs.Pieces.{longest_driving}
use Rattle.day_model.specs.Ranges.{IsDaily}
use Rattle.mark_cover.specs.Marking.{AreMarksOf, IsOrdered, IsPlaced, of_class}
use Rattle.mark_cover.specs.Minimal.{AreSafe, IsApart}
use Rattle.depot_network.specs.declared.open.OpenBlock.{OpenBlock}
use Rattle.depot_network.specs.declared.step.Step.{Step}
use Rattle.depot_network.specs.BlockMarks.{mark, first_mark, extended_mark, extended_over, closed_value, is_as_good, block_marking, moves_of, is_cut_stand, kept, driven_on}
use Rattle.depot_network.specs.Driving.{trip_seconds}
use Rattle.depot_network.specs.Network.{blocks_of, caps_of}
use Rattle.depot_network.specs.Open.{begun_open, closed_open, extended_open, first_open, first_scaled, is_as_good as open_is_as_good, next_open, opening, scaled}
use Rattle.depot_network.specs.Walk.{added, begun, first_step, next_step}
use Rattle.depot_network.specs.Driving.{driven_first as first_driving, driven_on as next_driving}
use Rattle.depot_network.proofs.Bounds.{and_then_some, some_same}
use Rattle.depot_network.proofs.Marked.{IsBetter, blocks-apart, blocks-ordered, blocks-placed, extension-parts, good-parts}
use Rattle.depot_network.proofs.Opens.{added_few, added_parts, as_good, begun_few, given_both, joined_parts, map_some, opening_tied, opening_valued}
use Rattle.unpaid_list.specs.Laws.{AreValued}
use Rattle.block_cover.specs.Seen.{MarkFits}
use Rattle.block_cover.specs.Simulation.{as_mark, as_open, first-same, next-same, close-same, list-same}

pub marks-ordered : (day : DayFacts) (counts : Bool) (prices : List Price) → IsOrdered (block_marking day counts prices)
marks-ordered = blocks-ordered

pub marks-placed : (day : DayFacts) (counts : Bool) (prices : List Price) → IsPlaced (block_marking day counts prices)
marks-placed = blocks-placed

pub marks-apart : (day : DayFacts) (counts : Bool) (prices : List Price) → IsApart (block_marking day counts prices)
marks-apart day counts prices = blocks-apart

-- the pool of a class that is there
pool-at : (pools : List Pool) (class : ℕ) → class < length (caps_of pools) → (pool : Pool) × (slice_get pools class ≡ Some pool)
pool-at [] class below = absurd (omega (arith, below))
pool-at (p ∷ ps) zero below = (p, refl)
pool-at (p ∷ ps) (suc class) below = pool-at ps class (omega (arith, below))

caps-count : (pools : List Pool) → length (caps_of pools) ≡ length pools
caps-count [] = refl
caps-count (p ∷ ps) = ap suc (caps-count ps)

ranged-at : (pools : List Pool) (class : ℕ) (pool : Pool) → slice_get pools class ≡ Some pool → All IsPool pools → IsPool pool
ranged-at [] class pool e ranges = absurd (cc)
ranged-at (p ∷ ps) zero pool e ranges = let P : Pool → Type 0 = IsPool in subst P (some_same p pool e) (ranges 0 p (omega arith))
ranged-at (p ∷ ps) (suc class) pool e ranges = ranged-at ps class pool e (All-tail IsPool p ps ranges)

-- The law of worths. A list of trips has an open block exactly where it has a mark of the class, so the tie of open blocks to the worths
-- of blocks is the tie of marks.
class-tied : (day : DayFacts) (counts : Bool) (prices : List Price) (class : ℕ) (pool : Pool) →
    slice_get day.params.pools class ≡ Some pool →
    IsTied (of_class (block_marking day counts prices) class) (closed_value day counts) prices (block_worth day counts class)
class-tied day counts prices class pool there =
    let tied = opening_tied day counts prices pool class there in
    record {
      onto = λ list worth e.
          let (a, is, closed) = tied.onto list worth e in (
            as_mark class a,
            list-same day counts prices pool class list there ∙ ap (option_map (as_mark class)) is,
            close-same day counts prices pool (as_mark class a) there ∙ closed,
          );
      from = λ list b v e closed.
          let (a, is, same) = map_some (as_mark class) (label_of (opening day counts prices pool) list) b
          (sym (list-same day counts prices pool class list there) ∙ e) in
          let P : BlockMark → Type 0 = λ m. closed_value day counts m ≡ Some v in
          tied.from list a v is (sym (close-same day counts prices pool (as_mark class a) there) ∙ subst P (sym same) closed);
    }

pub marks-tied : (day : DayFacts) (counts : Bool) (prices : List Price) →
    AreMarksOf (block_marking day counts prices) (blocks_of day counts) prices
marks-tied day counts prices = record {
  classes = caps-count day.params.pools;
  tied = λ class below. let (pool, there) = pool-at day.params.pools class below in class-tied day counts prices class pool there;
}

-- where a mark closes, its class has a pool
closed-pool : (day : DayFacts) (counts : Bool) (m : BlockMark) (v : ℤ) → closed_value day counts m ≡ Some v →
    (pool : Pool) × (slice_get day.params.pools m.class ≡ Some pool)
closed-pool day counts m v e =
    let pools = and_then_some
    (λ (pool : Pool). with_trip day m.trip
    (λ t. option_and_then (λ inward. given (nat_le (m.driving + inward) longest_driving)
    (Some (m.value +ℤ scaled counts (pool.dead_rate * inward)))) (pull_in day pool t))) (slice_get day.params.pools m.class) v e in
    (pools.0, pools.1)

open-good : (a b : BlockMark) → IsBetter a b → open_is_as_good (as_open a) (as_open b) ≡ true
open-good a b better = as_good (as_open a) (as_open b) better.trip better.driving better.value

-- The law of values, by that of open blocks.
pub marks-valued : (day : DayFacts) (counts : Bool) (prices : List Price) → AreValued (block_marking day counts prices) (λ m. m.value)
marks-valued day counts prices = λ class. record {
  at_most = λ a b h. (good-parts a b h).value;
  apart = λ a b a' b' k h less ea eb.
      let better = good-parts a b h in
      let x = extension-parts day counts prices a a' k ea in
      let P : ℕ → Type 0 = λ c. slice_get day.params.pools c ≡ Some x.pool in
      let there = subst P better.class x.pool_is in
      let (oa, is_a, same_a) =
      map_some (as_mark a.class) (extended_open day counts prices x.pool (as_open a) k) a'
      (sym (next-same day counts prices x.pool a k x.pool_is) ∙ ea) in
      let (ob, is_b, same_b) =
      map_some (as_mark b.class) (extended_open day counts prices x.pool (as_open b) k) b'
      (sym (next-same day counts prices x.pool b k there) ∙ eb) in
      let below = (opening_valued day counts prices x.pool).apart (as_open a) (as_open b) oa ob k (open-good a b better) less is_a is_b in
      let value : BlockMark → ℤ = λ m. m.value in
      let va : oa.value ≡ a'.value = ap value same_a in
      let vb : ob.value ≡ b'.value = ap value same_b in
      omega (arith, ints, below, va, vb);
  closes = λ a b v h e.
      let better = good-parts a b h in
      let (pool, there) = closed-pool day counts b v e in
      let P : ℕ → Type 0 = λ c. slice_get day.params.pools c ≡ Some pool in
      let there_a = subst P (sym better.class) there in
      let (u, is, low, strict) =
      (opening_valued day counts prices pool).closes (as_open a) (as_open b) v (open-good a b better)
      (sym (close-same day counts prices pool b there) ∙ e) in
      (u, close-same day counts prices pool a there_a ∙ is, low, strict);
}

-- what costs add to values
scaled-few : (counts : Bool) (n most : ℕ) → n ≤ most → (pos 0 ≤ℤ scaled counts n) × (scaled counts n ≤ℤ pos (1000 * most))
scaled-few true n most few = (omega (arith, ints), omega (arith, ints))
scaled-few false n most few = (omega (arith, ints), omega (arith, ints))

first-few : (counts : Bool) (n most : ℕ) → n ≤ most → 1 ≤ most →
    (pos 0 ≤ℤ first_scaled counts n) × (first_scaled counts n ≤ℤ pos (1000 * most))
first-few true n most few some = (omega (arith, ints), omega (arith, ints))
first-few false n most few some = (omega (arith, ints), omega (arith, ints))

-- driving keeps the limit
kept-few : (m b : BlockMark) → kept m ≡ Some b → b.driving ≤ longest_driving
kept-few m b e =
    let (test, is) = given_both (nat_le m.driving longest_driving) (Some m) b e in
    let P : BlockMark → Type 0 = λ x. x.driving ≤ longest_driving in
    subst P (some_same m b is) (grind (arith, nat_tests))

driven-few : (cut : Bool) (first second class k : ℕ) (value : ℤ) (b : BlockMark) → driven_on cut first second class value k ≡ Some b →
    b.driving ≤ longest_driving
driven-few true first second class k value b e =
    kept-few (mark class k second value) b (given_both (nat_le first longest_driving) (kept (mark class k second value)) b e).1
driven-few false first second class k value b e = kept-few (mark class k (first + second) value) b e

-- where the mark of a first trip comes from
record IsBegun (day : DayFacts) (counts : Bool) (prices : List Price) (class k : ℕ) (b : BlockMark) : Type 0 where
  pub pool : Pool
  pub pool_is : slice_get day.params.pools class ≡ Some pool
  pub driving : b.driving ≤ longest_driving

begun-parts : (day : DayFacts) (counts : Bool) (prices : List Price) (class k : ℕ) (b : BlockMark) →
    first_mark day counts prices class k ≡ Some b → IsBegun day counts prices class k b
begun-parts day counts prices class k b e =
    let pools = and_then_some (λ (pool : Pool). with_trip day k (λ t. given (admits day t.line pool.typ) (option_and_then (λ out.
    kept (mark class k (out + trip_seconds t)
    (cond counts (pos 1000) (pos (1000 * (pool.fixed + pool.dead_rate * out))) -ℤ price_at prices k))) (pull_out day pool t))))
    (slice_get day.params.pools class) b e in
    let pool = pools.0 in
    let trips = and_then_some (λ (t : Trip). given (admits day t.line pool.typ) (option_and_then (λ out.
    kept (mark class k (out + trip_seconds t)
    (cond counts (pos 1000) (pos (1000 * (pool.fixed + pool.dead_rate * out))) -ℤ price_at prices k))) (pull_out day pool t)))
    (slice_get day.trips k) b pools.2 in
    let t = trips.0 in
    let tested = given_both (admits day t.line pool.typ) (option_and_then (λ out.
    kept (mark class k (out + trip_seconds t)
    (cond counts (pos 1000) (pos (1000 * (pool.fixed + pool.dead_rate * out))) -ℤ price_at prices k))) (pull_out day pool t)) b trips.2 in
    let outs = and_then_some
    (λ out. kept (mark class k (out + trip_seconds t)
    (cond counts (pos 1000) (pos (1000 * (pool.fixed + pool.dead_rate * out))) -ℤ price_at prices k))) (pull_out day pool t) b tested.1 in
    let out = outs.0 in
    record {
      pool = pool;
      pool_is = pools.1;
      driving = kept-few (mark class k (out + trip_seconds t)
          (cond counts (pos 1000) (pos (1000 * (pool.fixed + pool.dead_rate * out))) -ℤ price_at prices k)) b outs.2;
    }

-- The law of numbers: each trip moves a value by its price and by what it adds to the costs, and lists rise.
pub marks-safe : (day : DayFacts) (counts : Bool) (prices : List Price) → All IsDaily day.trips → All IsPool day.params.pools →
    AllWithin most_kept_price prices →
    AreSafe (block_marking day counts prices) (MarkFits (length day.trips))
marks-safe day counts prices daily ranges moderate = record {
  starts = λ class k b e.
      let x = begun-parts day counts prices class k b e in
      let place = (blocks-placed day counts prices).starts class k b e in
      let (oa, is, same) = map_some (as_mark class) (first_open day counts prices x.pool k) b
      (sym (first-same day counts prices x.pool class k x.pool_is) ∙ e) in
      let (step, is_step, same_open) = map_some (begun_open counts prices k) (first_step day x.pool k) oa is in
      let (cost, driving) = joined_parts (begun day x.pool k) (first_driving day x.pool k) step is_step in
      let pool_in = ranged-at day.params.pools class x.pool x.pool_is ranges in
      let (low, high) = first-few counts step.cost 1828000000 (begun_few day counts prices x.pool k step.cost pool_in daily cost)
      (omega arith) in
      let price = price_at-within most_kept_price prices k moderate in
      let p_low = price.low in
      let p_high = price.high in
      let of_open : OpenBlock → ℤ = λ o. o.value in
      let of_mark : BlockMark → ℤ = λ m. m.value in
      let value : b.value ≡ first_scaled counts step.cost -ℤ price_at prices k = sym (ap of_mark same) ∙ sym (ap of_open same_open) in
      let there = place.0 in
      let trip_is = place.2 in
      record {
        trip = omega (arith, there, trip_is);
        driving = x.driving;
        low = omega (arith, ints, low, high, p_low, p_high, value);
        high = omega (arith, ints, low, high, p_low, p_high, value);
      };
  steps = λ a b k fit e.
      let x = extension-parts day counts prices a b k e in
      let place = (blocks-placed day counts prices).steps a b k e in
      let (oa, is, same) = map_some (as_mark a.class) (extended_open day counts prices x.pool (as_open a) k) b
      (sym (next-same day counts prices x.pool a k x.pool_is) ∙ e) in
      let (step, is_step, same_open) = map_some (next_open counts prices (as_open a) k) (next_step day x.pool a.driving a.trip k) oa is in
      let (cost, driving) = joined_parts (added day x.pool a.trip k) (next_driving day x.pool a.driving a.trip k) step is_step in
      let pool_in = ranged-at day.params.pools a.class x.pool x.pool_is ranges in
      let (low, high) = scaled-few counts step.cost 1728000000 (added_few day counts prices x.pool a.trip k step.cost pool_in daily cost) in
      let price = price_at-within most_kept_price prices k moderate in
      let p_low = price.low in
      let p_high = price.high in
      let of_open : OpenBlock → ℤ = λ o. o.value in
      let of_mark : BlockMark → ℤ = λ m. m.value in
      let value : b.value ≡ a.value +ℤ scaled counts step.cost -ℤ price_at prices k = sym (ap of_mark same) ∙ sym (ap of_open same_open) in
      let up = place.0 in
      let there = place.1 in
      let trip_is = place.3 in
      let a_low = fit.low in
      let a_high = fit.high in
      let moves = moves_of x.pool x.next x.over in
      record {
        trip = omega (arith, there, trip_is);
        driving = driven-few (is_cut_stand day x.pool moves) (a.driving + moves.before) (moves.behind + trip_seconds x.next) a.class k
            (a.value +ℤ scaled counts (link_cost x.pool x.next x.over) -ℤ price_at prices k) b x.made;
        low = omega (arith, ints, low, high, p_low, p_high, value, a_low, up, trip_is);
        high = omega (arith, ints, low, high, p_low, p_high, value, a_high, up, trip_is);
      };
}
