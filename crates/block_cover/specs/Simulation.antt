-- Promise: the marks of open blocks are the open blocks of pricing, each with its class.
--
-- Marks are made from the class of a mark, its trip and its driving; the open blocks of pricing from a pool, and their steps join a cost
-- and a driving. Where the class has the pool, both follow the same trips, connections and cuts: so a list of trips has a mark exactly
-- where it has an open block, the mark is that block with the class, and it closes with the same value. What is proved of open blocks,
-- above all that they are tied to the worths of blocks, is then true of marks.
use Rattle.std.proofs.Common.{◌≡◌, ℕ, ℤ, pos, ◌+◌, ◌*◌, ◌+ℤ◌, ◌-ℤ◌, ◌&&◌, Bool, true, false, cond, nat_lt, nat_le, List, [], ◌∷◌, Option, Some, None, refl, sym, ap, ◌∙◌, slice_get, is_some}
use Rattle.std.specs.Prelude.{option_and_then}
use Rattle.std.specs.Option.{option_map}
use Rattle.plan_core.specs.declared.Price.{Price}
use Rattle.cover_core.specs.declared.marks.BlockMark.{BlockMark}
use Rattle.cover_core.specs.Labels.{label_after, label_of}
use Rattle.cover_core.specs.Plans.{price_at}
use Rattle.trip_times.specs.declared.trip.Trip.{Trip}
use Rattle.plan_params.specs.declared.rows.pool.Pool.{Pool}
use Rattle.day_model.specs.declared.link.Link.{Link}
use Rattle.day_model.specs.declared.link.Link.TheVariants.{Direct, Depot}
use Rattle.day_model.specs.Facts.{DayFacts, admits}
use Rattle.day_model.specs.Links.{given, link, pull_in, pull_out, with_pool, with_trip}
use Rattle.day_model.specs.Blocks.{link_cost}
use Rattle.day_model.specs.Pieces.{longest_driving}
use Rattle.mark_cover.specs.Marking.{of_class}
use Rattle.depot_network.specs.declared.open.OpenBlock.{OpenBlock}
use Rattle.depot_network.specs.BlockMarks.{mark, first_mark, moves_of, is_cut_stand, extended_over, extended_mark, closed_value, block_marking, driven_on as mark_driven_on, kept as mark_kept}
use Rattle.depot_network.specs.Driving.{driven_first, driven_in, driven_on, driven_over, driven_past, is_cut_on, kept, seconds_after, seconds_before, trip_seconds}
use Rattle.depot_network.specs.Open.{begun_open, closed_open, extended_open, first_open, first_scaled, next_open, opening, scaled}
use Rattle.depot_network.specs.Walk.{added, begun, ended, first_step, joined, last_step, next_step}

-- an open block of a class as a mark, and a mark without its class
abbrev pub as_mark : ℕ → OpenBlock → BlockMark
as_mark class a = mark class a.trip a.driving a.value

abbrev pub as_open : BlockMark → OpenBlock
as_open m = record { trip = m.trip; driving = m.driving; value = m.value }

module _ (day : DayFacts) (counts : Bool) (prices : List Price) (pool : Pool) where
  -- A first trip.
  first-value : ℕ → ℕ → ℤ
  first-value k out = cond counts (pos 1000) (pos (1000 * (pool.fixed + pool.dead_rate * out))) -ℤ price_at prices k

  first-kept : (test : Bool) (class k out driving : ℕ) →
      given test (Some (mark class k driving
      (cond counts (pos 1000) (pos (1000 * (pool.fixed + pool.dead_rate * out))) -ℤ price_at prices k))) ≡
      option_map (as_mark class)
      (option_map (begun_open counts prices k) (joined (Some (pool.fixed + pool.dead_rate * out)) (given test (Some driving))))
  first-kept true class k out driving = refl
  first-kept false class k out driving = refl

  first-out : (test : Bool) (class k : ℕ) (t : Trip) (out : Option ℕ) →
      given test (option_and_then
      (λ out. mark_kept (mark class k (out + trip_seconds t)
      (cond counts (pos 1000) (pos (1000 * (pool.fixed + pool.dead_rate * out))) -ℤ price_at prices k))) out) ≡
      option_map (as_mark class)
      (option_map (begun_open counts prices k)
      (joined (given test (option_map (λ out. pool.fixed + pool.dead_rate * out) out))
      (option_and_then (λ out. kept (out + trip_seconds t)) out)))
  first-out false class k t out = refl
  first-out true class k t None = refl
  first-out true class k t (Some out) = first-kept (nat_le (out + trip_seconds t) longest_driving) class k out (out + trip_seconds t)

  first-trip : (class k : ℕ) (o : Option Trip) →
      option_and_then (λ t. given (admits day t.line pool.typ)
      (option_and_then (λ out.
      mark_kept (mark class k (out + trip_seconds t)
      (cond counts (pos 1000) (pos (1000 * (pool.fixed + pool.dead_rate * out))) -ℤ price_at prices k))) (pull_out day pool t))) o ≡
      option_map (as_mark class) (option_map (begun_open counts prices k) (joined
      (option_and_then (λ trip. given (admits day trip.line pool.typ)
      (option_map (λ out. pool.fixed + pool.dead_rate * out) (pull_out day pool trip))) o)
      (option_and_then (λ trip. option_and_then (λ out. kept (out + trip_seconds trip)) (pull_out day pool trip)) o)))
  first-trip class k None = refl
  first-trip class k (Some t) = first-out (admits day t.line pool.typ) class k t (pull_out day pool t)

  pub first-same : (class k : ℕ) → slice_get day.params.pools class ≡ Some pool →
      first_mark day counts prices class k ≡ option_map (as_mark class) (first_open day counts prices pool k)
  first-same class k there =
      ap (option_and_then (λ (p : Pool). with_trip day k (λ t. given (admits day t.line p.typ) (option_and_then (λ out.
      mark_kept (mark class k (out + trip_seconds t)
      (cond counts (pos 1000) (pos (1000 * (p.fixed + p.dead_rate * out))) -ℤ price_at prices k))) (pull_out day p t))))) there ∙
      first-trip class k (slice_get day.trips k)

  -- A later trip.
  next-kept : (test : Bool) (class k cost driving : ℕ) (a : OpenBlock) →
      given test (Some (mark class k driving (a.value +ℤ scaled counts cost -ℤ price_at prices k))) ≡
      option_map (as_mark class) (option_map (next_open counts prices a k) (joined (Some cost) (given test (Some driving))))
  next-kept true class k cost driving a = refl
  next-kept false class k cost driving a = refl

  next-cut : (test : Bool) (class k cost second : ℕ) (a : OpenBlock) →
      given test (mark_kept (mark class k second (a.value +ℤ scaled counts cost -ℤ price_at prices k))) ≡
      option_map (as_mark class) (option_map (next_open counts prices a k) (joined (Some cost) (given test (kept second))))
  next-cut true class k cost second a = next-kept (nat_le second longest_driving) class k cost second a
  next-cut false class k cost second a = refl

  next-past : (cut : Bool) (class k cost before second : ℕ) (a : OpenBlock) →
      mark_driven_on cut (a.driving + before) second class (a.value +ℤ scaled counts cost -ℤ price_at prices k) k ≡
      option_map (as_mark class) (option_map (next_open counts prices a k) (joined (Some cost) (driven_past cut a.driving before second)))
  next-past true class k cost before second a = next-cut (nat_le (a.driving + before) longest_driving) class k cost second a
  next-past false class k cost before second a =
      next-kept (nat_le (a.driving + before + second) longest_driving) class k cost (a.driving + before + second) a

  next-over : (m : BlockMark) (k : ℕ) (u : Trip) (l : Link) →
      extended_over day counts prices pool m k u l ≡
      option_map (as_mark m.class)
      (option_map (next_open counts prices (as_open m) k) (joined (Some (link_cost pool u l)) (driven_over day pool u l m.driving)))
  next-over m k u (Direct move stand) =
      next-past (is_cut_on day pool u (Direct move stand)) m.class k (link_cost pool u (Direct move stand)) move
      (0 + trip_seconds u) (as_open m)
  next-over m k u (Depot inward outward stand) =
      next-past (is_cut_on day pool u (Depot inward outward stand)) m.class k (link_cost pool u (Depot inward outward stand)) inward
      (outward + trip_seconds u) (as_open m)

  next-link : (later admitted : Bool) (m : BlockMark) (k : ℕ) (u : Trip) (l : Option Link) →
      given (later && admitted) (option_and_then (extended_over day counts prices pool m k u) l) ≡
      option_map (as_mark m.class) (option_map (next_open counts prices (as_open m) k) (joined
      (given later (given admitted (option_map (λ l. link_cost pool u l) l)))
      (option_and_then (λ l. driven_over day pool u l m.driving) l)))
  next-link false admitted m k u l = refl
  next-link true false m k u l = refl
  next-link true true m k u None = refl
  next-link true true m k u (Some l) = next-over m k u l

  next-trip : (m : BlockMark) (k : ℕ) (o p : Option Trip) →
      option_and_then (λ t. option_and_then
      (λ u. given (nat_lt m.trip k && admits day u.line pool.typ)
      (option_and_then (extended_over day counts prices pool m k u) (link day pool t u))) p) o ≡
      option_map (as_mark m.class) (option_map (next_open counts prices (as_open m) k) (joined
      (option_and_then (λ trip. option_and_then
      (λ next. given (nat_lt m.trip k)
      (given (admits day next.line pool.typ) (option_map (λ l. link_cost pool next l) (link day pool trip next)))) p) o)
      (option_and_then (λ trip. option_and_then
      (λ next. option_and_then (λ l. driven_over day pool next l m.driving) (link day pool trip next)) p) o)))
  next-trip m k None p = refl
  next-trip m k (Some t) None = refl
  next-trip m k (Some t) (Some u) = next-link (nat_lt m.trip k) (admits day u.line pool.typ) m k u (link day pool t u)

  pub next-same : (m : BlockMark) (k : ℕ) → slice_get day.params.pools m.class ≡ Some pool →
      extended_mark day counts prices m k ≡ option_map (as_mark m.class) (extended_open day counts prices pool (as_open m) k)
  next-same m k there =
      ap (option_and_then (λ (p : Pool). with_trip day m.trip (λ t. with_trip day k (λ u. given (nat_lt m.trip k && admits day u.line p.typ)
      (option_and_then (extended_over day counts prices p m k u) (link day p t u)))))) there ∙
      next-trip m k (slice_get day.trips m.trip) (slice_get day.trips k)

  -- The pull-in.
  close-kept : (test : Bool) (m : BlockMark) (inward : ℕ) →
      given test (Some (m.value +ℤ scaled counts (pool.dead_rate * inward))) ≡
      option_map (λ cost. m.value +ℤ scaled counts cost)
      (given (is_some (given test (Some (m.driving + inward)))) (Some (pool.dead_rate * inward)))
  close-kept true m inward = refl
  close-kept false m inward = refl

  close-in : (m : BlockMark) (o : Option ℕ) →
      option_and_then (λ inward. given (nat_le (m.driving + inward) longest_driving)
      (Some (m.value +ℤ scaled counts (pool.dead_rate * inward)))) o ≡
      option_map (λ cost. m.value +ℤ scaled counts cost)
      (given (is_some (option_and_then (λ inward. kept (m.driving + inward)) o)) (option_map (λ inward. pool.dead_rate * inward) o))
  close-in m None = refl
  close-in m (Some inward) = close-kept (nat_le (m.driving + inward) longest_driving) m inward

  close-trip : (m : BlockMark) (o : Option Trip) →
      option_and_then (λ t. option_and_then
      (λ inward. given (nat_le (m.driving + inward) longest_driving) (Some (m.value +ℤ scaled counts (pool.dead_rate * inward))))
      (pull_in day pool t)) o ≡
      option_map (λ cost. m.value +ℤ scaled counts cost)
      (given (is_some (option_and_then (λ trip. option_and_then (λ inward. kept (m.driving + inward)) (pull_in day pool trip)) o))
      (option_and_then (λ trip. option_map (λ inward. pool.dead_rate * inward) (pull_in day pool trip)) o))
  close-trip m None = refl
  close-trip m (Some t) = close-in m (pull_in day pool t)

  pub close-same : (m : BlockMark) → slice_get day.params.pools m.class ≡ Some pool →
      closed_value day counts m ≡ closed_open day counts pool (as_open m)
  close-same m there =
      ap (option_and_then (λ (p : Pool). with_trip day m.trip (λ t. option_and_then (λ inward.
      given (nat_le (m.driving + inward) longest_driving) (Some (m.value +ℤ scaled counts (p.dead_rate * inward)))) (pull_in day p t))))
      there ∙
      close-trip m (slice_get day.trips m.trip)

  -- Lists.
  after-same : (class : ℕ) (o : Option OpenBlock) (xs : List ℕ) → slice_get day.params.pools class ≡ Some pool →
      label_after (of_class (block_marking day counts prices) class) (option_map (as_mark class) o) xs
      ≡ option_map (as_mark class) (label_after (opening day counts prices pool) o xs)
  after-same class None xs there = refl
  after-same class (Some a) [] there = refl
  after-same class (Some a) (x ∷ xs) there =
      ap (λ o. label_after (of_class (block_marking day counts prices) class) o xs) (next-same (as_mark class a) x there) ∙
      after-same class (extended_open day counts prices pool a x) xs there

  pub list-same : (class : ℕ) (list : List ℕ) → slice_get day.params.pools class ≡ Some pool →
      label_of (of_class (block_marking day counts prices) class) list
      ≡ option_map (as_mark class) (label_of (opening day counts prices pool) list)
  list-same class [] there = refl
  list-same class (x ∷ xs) there =
      ap (λ o. label_after (of_class (block_marking day counts prices) class) o xs) (first-same class x there) ∙
      after-same class (first_open day counts prices pool x) xs there
