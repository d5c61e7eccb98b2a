-- The laws of the marks of open blocks.
use Rattle.std.proofs.Common.{◌≡◌, ℕ, ℤ, pos, ◌+ℤ◌, ◌-ℤ◌, ◌≤ℤ◌, ◌+◌, ◌*◌, ◌<◌, ◌≤◌, Bool, true, false, cond, ◌&&◌, nat_lt, nat_eq, List, length, refl, sym, ap, ◌∙◌, subst, arith, slice_get}
use Rattle.std.proofs.lemmas.Bool.Decides.{nat_tests}
use Rattle.std.proofs.lemmas.Int.{ints}
use Rattle.std.proofs.lemmas.Option.{slice_get_within, same_Some}
use Rattle.std.specs.Prelude.{Option, Some, option_and_then, nat_le, int_le}
use Rattle.std.proofs.lemmas.Bool.{and_from, and_parts}
use Rattle.plan_core.specs.declared.Price.{Price}
use Rattle.plan_core.proofs.Options.{and_then_some, given_some}
use Rattle.cover_core.specs.declared.marks.BlockMark.{BlockMark}
use Rattle.cover_core.specs.Plans.{price_at}
use Rattle.trip_times.specs.declared.trip.Trip.{Trip}
use Rattle.plan_params.specs.declared.rows.pool.Pool.{Pool}
use Rattle.day_model.specs.declared.link.Link.{Link}
use Rattle.day_model.specs.Facts.{DayFacts, admits}
use Rattle.day_model.specs.Links.{given, link, pull_in, pull_out, with_trip}
use Rattle.day_model.specs.Blocks.{link_cost}
use Rattle.mark_cover.specs.Marking.{IsOrdered, IsPlaced}
use Rattle.day_model.specs.Pieces.{longest_driving}
use Rattle.depot_network.specs.Driving.{trip_seconds}
use Rattle.depot_network.specs.Open.{scaled}
use Rattle.depot_network.specs.BlockMarks.{mark, kept, first_mark, moves_of, is_cut_stand, driven_on, extended_over, extended_mark, closed_value, is_as_good, block_marking}

given_onto : {A : Type 0} (b : Bool) (o : Option A) → b ≡ true → given b o ≡ o
given_onto true o e = refl
given_onto false o e = absurd (cc)

-- the parts of "at least as good"
pub record IsBetter (a b : BlockMark) : Type 0 where
  pub class : a.class ≡ b.class
  pub trip : a.trip ≡ b.trip
  pub driving : a.driving ≤ b.driving
  pub value : a.value ≤ℤ b.value

pub good-parts : (a b : BlockMark) → is_as_good a b ≡ true → IsBetter a b
good-parts a b h =
    let (left, right) = and_parts (nat_eq a.class b.class && nat_eq a.trip b.trip)
    (nat_le a.driving b.driving && int_le a.value b.value) h in
    let (class, trip) = and_parts (nat_eq a.class b.class) (nat_eq a.trip b.trip) left in
    let (driving, value) = and_parts (nat_le a.driving b.driving) (int_le a.value b.value) right in
    record {
      class = grind (arith, nat_tests);
      trip = grind (arith, nat_tests);
      driving =
          grind (arith, nat_tests);
      value = grind (arith, ints);
    }

pub parts-good : (a b : BlockMark) → IsBetter a b → is_as_good a b ≡ true
parts-good a b h =
    let class = h.class in
    let trip = h.trip in
    let driving = h.driving in
    let value = h.value in
    and_from (nat_eq a.class b.class && nat_eq a.trip b.trip) (nat_le a.driving b.driving && int_le a.value b.value)
    (and_from (nat_eq a.class b.class) (nat_eq a.trip b.trip) (grind (arith, nat_tests)) (grind (arith, nat_tests)))
    (and_from (nat_le a.driving b.driving) (int_le a.value b.value) (grind (arith, nat_tests)) (grind (arith, ints)))

below-limit : (m n : ℕ) → m ≤ n → nat_le n longest_driving ≡ true → nat_le m longest_driving ≡ true
below-limit m n h k = grind (arith, nat_tests)

-- What a mark with more driving and a greater value may do over a stand, one with less may too, and its mark behind is as good: with
-- a cut both begin afresh, without one the sums keep their order, and the limit that the greater sum keeps the smaller one keeps. It
-- is the whole of dominance; all else about an extension (pool, trips, admission, connection) depends only on class and last trip,
-- which are the same.
driven-kept : (cut : Bool) (first first' second second' class class' k : ℕ) (value value' : ℤ) (b : BlockMark) → class ≡ class' →
    first ≤ first' → second ≤ second' → (cut ≡ true → second ≡ second') →
    value ≤ℤ value' → driven_on cut first' second' class' value' k ≡ Some b →
    (a : BlockMark) × (driven_on cut first second class value k ≡ Some a) × (is_as_good a b ≡ true)
driven-kept true first first' second second' class class' k value value' b same less more equal low e =
    let (limit, rest) = given_some (nat_le first' longest_driving) (kept (mark class' k second' value')) b e in
    let (limit2, is) = given_some (nat_le second' longest_driving) (Some (mark class' k second' value')) b rest in
    let b_is = same_Some (mark class' k second' value') b is in
    let a = mark class k second value in
    let P : BlockMark → Type 0 = λ x. is_as_good a x ≡ true in (
      a,
      given_onto (nat_le first longest_driving) (kept a) (below-limit first first' less limit)
          ∙ given_onto (nat_le second longest_driving) (Some a) (below-limit second second' more limit2),
      subst P b_is (parts-good a (mark class' k second' value') (record { class = same; trip = refl; driving = more; value = low })),
    )
driven-kept false first first' second second' class class' k value value' b same less more equal low e =
    let (limit, is) = given_some (nat_le (first' + second') longest_driving) (Some (mark class' k (first' + second') value')) b e in
    let b_is = same_Some (mark class' k (first' + second') value') b is in
    let a = mark class k (first + second) value in
    let sum : first + second ≤ first' + second' = omega arith in
    let P : BlockMark → Type 0 = λ x. is_as_good a x ≡ true in (
      a,
      given_onto (nat_le (first + second) longest_driving) (Some a) (below-limit (first + second) (first' + second') sum limit),
      subst P b_is (parts-good a (mark class' k (first' + second') value')
          (record { class = same; trip = refl; driving = sum; value = low })),
    )

over-kept : (day : DayFacts) (counts : Bool) (prices : List Price) (pool : Pool) (a b b' : BlockMark) (k : ℕ) (u : Trip) (l : Link) →
    IsBetter a b →
    extended_over day counts prices pool b k u l ≡ Some b' → (a' : BlockMark) × (extended_over day counts prices pool a k u l ≡ Some a')
    × (is_as_good a' b' ≡ true)
over-kept day counts prices pool a b b' k u l better e =
    let moves = moves_of pool u l in
    let driving = better.driving in
    let value = better.value in
    driven-kept (is_cut_stand day pool moves) (a.driving + moves.before) (b.driving + moves.before) (moves.behind + trip_seconds u)
    (moves.behind + trip_seconds u) a.class b.class k
    (a.value +ℤ scaled counts (link_cost pool u l) -ℤ price_at prices k)
    (b.value +ℤ scaled counts (link_cost pool u l) -ℤ price_at prices k) b'
    better.class (omega arith) (omega arith) (λ is. refl) (omega (arith, ints)) e

-- where an extension comes from
pub record IsExtension (day : DayFacts) (counts : Bool) (prices : List Price) (m b : BlockMark) (k : ℕ) : Type 0 where
  pub pool : Pool
  pub pool_is : slice_get day.params.pools m.class ≡ Some pool
  pub last : Trip
  pub last_is : slice_get day.trips m.trip ≡ Some last
  pub next : Trip
  pub next_is : slice_get day.trips k ≡ Some next
  pub test : (nat_lt m.trip k && admits day next.line pool.typ) ≡ true
  pub over : Link
  pub over_is : link day pool last next ≡ Some over
  pub made : extended_over day counts prices pool m k next over ≡ Some b

pub extension-parts : (day : DayFacts) (counts : Bool) (prices : List Price) (m b : BlockMark) (k : ℕ) →
    extended_mark day counts prices m k ≡ Some b → IsExtension day counts prices m b k
extension-parts day counts prices m b k e =
    let pools = and_then_some
    (λ (pool : Pool). with_trip day m.trip
    (λ t. with_trip day k (λ u. given (nat_lt m.trip k && admits day u.line pool.typ)
    (option_and_then (extended_over day counts prices pool m k u) (link day pool t u))))) (slice_get day.params.pools m.class) b e in
    let pool = pools.0 in
    let trips = and_then_some
    (λ (t : Trip). with_trip day k
    (λ u. given (nat_lt m.trip k && admits day u.line pool.typ)
    (option_and_then (extended_over day counts prices pool m k u) (link day pool t u)))) (slice_get day.trips m.trip) b pools.2 in
    let t = trips.0 in
    let nexts = and_then_some
    (λ (u : Trip). given (nat_lt m.trip k && admits day u.line pool.typ)
    (option_and_then (extended_over day counts prices pool m k u) (link day pool t u))) (slice_get day.trips k) b trips.2 in
    let u = nexts.0 in
    let tested = given_some (nat_lt m.trip k && admits day u.line pool.typ)
    (option_and_then (extended_over day counts prices pool m k u) (link day pool t u)) b nexts.2 in
    let links = and_then_some (extended_over day counts prices pool m k u) (link day pool t u) b tested.1 in
    record {
      pool = pool;
      pool_is = pools.1;
      last = t;
      last_is = trips.1;
      next = u;
      next_is = nexts.1;
      test = tested.0;
      over =
          links.0;
      over_is = links.1;
      made = links.2;
    }

extension-onto : (day : DayFacts) (counts : Bool) (prices : List Price) (a a' : BlockMark) (k : ℕ) (pool : Pool) (last next : Trip)
    (l : Link) → slice_get day.params.pools a.class ≡ Some pool →
    slice_get day.trips a.trip ≡ Some last → slice_get day.trips k ≡ Some next → (nat_lt a.trip k && admits day next.line pool.typ) ≡ true →
    link day pool last next ≡ Some l →
    extended_over day counts prices pool a k next l ≡ Some a' → extended_mark day counts prices a k ≡ Some a'
extension-onto day counts prices a a' k pool last next l pool_is last_is next_is test over made =
    ap (option_and_then (λ (p : Pool). with_trip day a.trip
    (λ t. with_trip day k (λ u. given (nat_lt a.trip k && admits day u.line p.typ)
    (option_and_then (extended_over day counts prices p a k u) (link day p t u)))))) pool_is ∙
    (ap (option_and_then (λ (t : Trip). with_trip day k
    (λ u. given (nat_lt a.trip k && admits day u.line pool.typ)
    (option_and_then (extended_over day counts prices pool a k u) (link day pool t u))))) last_is ∙
    (ap (option_and_then (λ (u : Trip). given (nat_lt a.trip k && admits day u.line pool.typ)
    (option_and_then (extended_over day counts prices pool a k u) (link day pool last u)))) next_is ∙
    (given_onto (nat_lt a.trip k && admits day next.line pool.typ)
    (option_and_then (extended_over day counts prices pool a k next) (link day pool last next)) test ∙
    (ap (option_and_then (extended_over day counts prices pool a k next)) over ∙ made))))

extended-kept : (day : DayFacts) (counts : Bool) (prices : List Price) (a b b' : BlockMark) (k : ℕ) → is_as_good a b ≡ true →
    extended_mark day counts prices b k ≡ Some b' →
    (a' : BlockMark) × (extended_mark day counts prices a k ≡ Some a') × (is_as_good a' b' ≡ true)
extended-kept day counts prices a b b' k good e =
    let better = good-parts a b good in
    let x = extension-parts day counts prices b b' k e in
    let (a', made, better') = over-kept day counts prices x.pool a b b' k x.next x.over better x.made in
    let P : ℕ → Type 0 = λ c. slice_get day.params.pools c ≡ Some x.pool in
    let Q : ℕ → Type 0 = λ t. slice_get day.trips t ≡ Some x.last in
    let R : ℕ → Type 0 = λ t. (nat_lt t k && admits day x.next.line x.pool.typ) ≡ true in (
      a',
      extension-onto day counts prices a a' k x.pool x.last x.next x.over (subst P (sym better.class) x.pool_is)
          (subst Q (sym better.trip) x.last_is) x.next_is (subst R (sym better.trip) x.test) x.over_is made,
      better',
    )

-- less driving closes what more of it closes, with no greater value
closed-kept : (day : DayFacts) (counts : Bool) (a b : BlockMark) (v : ℤ) → is_as_good a b ≡ true → closed_value day counts b ≡ Some v →
    (u : ℤ) × (closed_value day counts a ≡ Some u) × (u ≤ℤ v)
closed-kept day counts a b v good e =
    let better = good-parts a b good in
    let pools = and_then_some
    (λ (pool : Pool). with_trip day b.trip
    (λ t. option_and_then (λ inward. given (nat_le (b.driving + inward) longest_driving)
    (Some (b.value +ℤ scaled counts (pool.dead_rate * inward)))) (pull_in day pool t))) (slice_get day.params.pools b.class) v e in
    let pool = pools.0 in
    let trips = and_then_some
    (λ (t : Trip). option_and_then
    (λ inward. given (nat_le (b.driving + inward) longest_driving) (Some (b.value +ℤ scaled counts (pool.dead_rate * inward))))
    (pull_in day pool t)) (slice_get day.trips b.trip) v pools.2 in
    let t = trips.0 in
    let ins = and_then_some
    (λ inward. given (nat_le (b.driving + inward) longest_driving) (Some (b.value +ℤ scaled counts (pool.dead_rate * inward))))
    (pull_in day pool t) v trips.2 in
    let inward = ins.0 in
    let tested = given_some (nat_le (b.driving + inward) longest_driving)
    (Some (b.value +ℤ scaled counts (pool.dead_rate * inward))) v ins.2 in
    let total = same_Some (b.value +ℤ scaled counts (pool.dead_rate * inward)) v tested.1 in
    let driving = better.driving in
    let value = better.value in
    let P : ℕ → Type 0 = λ c. slice_get day.params.pools c ≡ Some pool in
    let Q : ℕ → Type 0 = λ i. slice_get day.trips i ≡ Some t in
    let u = a.value +ℤ scaled counts (pool.dead_rate * inward) in (
      u,
      ap (option_and_then (λ (p : Pool). with_trip day a.trip
          (λ s. option_and_then (λ i. given (nat_le (a.driving + i) longest_driving) (Some (a.value +ℤ scaled counts (p.dead_rate * i))))
          (pull_in day p s)))) (subst P (sym better.class) pools.1) ∙
          (ap (option_and_then (λ (s : Trip). option_and_then
          (λ i. given (nat_le (a.driving + i) longest_driving) (Some (a.value +ℤ scaled counts (pool.dead_rate * i))))
          (pull_in day pool s))) (subst Q (sym better.trip) trips.1) ∙
          (ap (option_and_then (λ i. given (nat_le (a.driving + i) longest_driving) (Some (a.value +ℤ scaled counts (pool.dead_rate * i)))))
          ins.1 ∙
          given_onto (nat_le (a.driving + inward) longest_driving) (Some u)
          (below-limit (a.driving + inward) (b.driving + inward) (omega arith) tested.0))),
      omega (arith, ints),
    )

-- The law of dominance of the marks of open blocks, by which a certificate can be checked: a mark as good as another stays so over
-- each further trip (`extended-kept`), has its class and last trip, and closes wherever the other closes with no greater value. So
-- marks that meet every start and their own extensions speak for all open blocks, though most of these were never made.
pub blocks-ordered : (day : DayFacts) (counts : Bool) (prices : List Price) → IsOrdered (block_marking day counts prices)
blocks-ordered day counts prices = record {
  kept = λ class. record {
    same = λ a. parts-good a a (record { class = refl; trip = refl; driving = omega arith; value = omega (arith, ints) });
    through = λ a b c h k.
        let x = good-parts a b h in
        let y = good-parts b c k in
        let d1 = x.driving in
        let d2 = y.driving in
        let v1 = x.value in
        let v2 = y.value in
        parts-good a c (record { class = x.class ∙ y.class; trip = x.trip ∙ y.trip; driving = omega arith; value = omega (arith, ints) });
    extended = λ a b b' k h e. extended-kept day counts prices a b b' k h e;
  };
  grouped = λ a b h. let x = good-parts a b h in (x.class, x.trip);
  closes = λ a b v h e. closed-kept day counts a b v h e;
}

-- what is driven on has the class and the trip
driven-place : (cut : Bool) (first second class k : ℕ) (value : ℤ) (b : BlockMark) → driven_on cut first second class value k ≡ Some b →
    (b.class ≡ class) × (b.trip ≡ k)
driven-place true first second class k value b e =
    let (limit, rest) = given_some (nat_le first longest_driving) (kept (mark class k second value)) b e in
    let (limit2, is) = given_some (nat_le second longest_driving) (Some (mark class k second value)) b rest in
    let same = same_Some (mark class k second value) b is in
    let f : BlockMark → ℕ = λ m. m.class in
    let g : BlockMark → ℕ = λ m. m.trip in
    (sym (ap f same), sym (ap g same))
driven-place false first second class k value b e =
    let (limit, is) = given_some (nat_le (first + second) longest_driving) (Some (mark class k (first + second) value)) b e in
    let same = same_Some (mark class k (first + second) value) b is in
    let f : BlockMark → ℕ = λ m. m.class in
    let g : BlockMark → ℕ = λ m. m.trip in
    (sym (ap f same), sym (ap g same))

first-place : (day : DayFacts) (counts : Bool) (prices : List Price) (class k : ℕ) (b : BlockMark) →
    first_mark day counts prices class k ≡ Some b →
    (k < length day.trips) × (b.class ≡ class) × (b.trip ≡ k)
first-place day counts prices class k b e =
    let pools = and_then_some (λ (pool : Pool). with_trip day k (λ t. given (admits day t.line pool.typ) (option_and_then (λ out.
    kept (mark class k (out + trip_seconds t)
    (cond counts (pos 1000) (pos (1000 * (pool.fixed + pool.dead_rate * out))) -ℤ price_at prices k))) (pull_out day pool t))))
    (slice_get day.params.pools class) b e in
    let pool = pools.0 in
    let trips = and_then_some (λ (t : Trip). given (admits day t.line pool.typ) (option_and_then (λ out.
    kept (mark class k (out + trip_seconds t)
    (cond counts (pos 1000) (pos (1000 * (pool.fixed + pool.dead_rate * out))) -ℤ price_at prices k))) (pull_out day pool t)))
    (slice_get day.trips k) b pools.2 in
    let t = trips.0 in
    let tested = given_some (admits day t.line pool.typ) (option_and_then (λ out.
    kept (mark class k (out + trip_seconds t)
    (cond counts (pos 1000) (pos (1000 * (pool.fixed + pool.dead_rate * out))) -ℤ price_at prices k))) (pull_out day pool t)) b trips.2 in
    let outs = and_then_some
    (λ out. kept (mark class k (out + trip_seconds t)
    (cond counts (pos 1000) (pos (1000 * (pool.fixed + pool.dead_rate * out))) -ℤ price_at prices k))) (pull_out day pool t) b tested.1 in
    let out = outs.0 in
    let made = mark class k (out + trip_seconds t)
    (cond counts (pos 1000) (pos (1000 * (pool.fixed + pool.dead_rate * out))) -ℤ price_at prices k) in
    let (limit, is) = given_some (nat_le (out + trip_seconds t) longest_driving) (Some made) b outs.2 in
    let same = same_Some made b is in
    let f : BlockMark → ℕ = λ m. m.class in
    let g : BlockMark → ℕ = λ m. m.trip in
    (slice_get_within day.trips k t trips.1, sym (ap f same), sym (ap g same))

-- The law of items.
pub blocks-placed : (day : DayFacts) (counts : Bool) (prices : List Price) → IsPlaced (block_marking day counts prices)
blocks-placed day counts prices = record {
  starts = λ class k b e. first-place day counts prices class k b e;
  steps = λ a b k e.
      let x = extension-parts day counts prices a b k e in
      let tests = and_parts (nat_lt a.trip k) (admits day x.next.line x.pool.typ) x.test in
      let test : nat_lt a.trip k ≡ true = tests.0 in
      let moves = moves_of x.pool x.next x.over in
      let (class, trip) = driven-place (is_cut_stand day x.pool moves) (a.driving + moves.before)
      (moves.behind + trip_seconds x.next) a.class k
      (a.value +ℤ scaled counts (link_cost x.pool x.next x.over) -ℤ price_at prices k) b x.made in
      (grind (arith, nat_tests), slice_get_within day.trips k x.next x.next_is, class, trip);
}

-- marks that are at least as good as one another are the same
pub blocks-apart : (a b : BlockMark) → is_as_good a b ≡ true → is_as_good b a ≡ true → a ≡ b
blocks-apart a b h k =
    let x = good-parts a b h in
    let y = good-parts b a k in
    let d1 = x.driving in
    let d2 = y.driving in
    let v1 = x.value in
    let v2 = y.value in
    let driving : a.driving ≡ b.driving = omega arith in
    let value : a.value ≡ b.value = omega (arith, ints) in
    ap (λ c. mark c a.trip a.driving a.value) x.class
    ∙ (ap (λ t. mark b.class t a.driving a.value) x.trip
    ∙ (ap (λ d. mark b.class b.trip d a.value) driving ∙ ap (λ v. mark b.class b.trip b.driving v) value))
