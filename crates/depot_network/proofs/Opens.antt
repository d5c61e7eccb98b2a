-- The labels of open blocks: their laws, and that they are tied to the worths of blocks.
use Rattle.std.proofs.Common.{◌≡◌, ℕ, ℤ, pos, ◌+◌, ◌*◌, ◌<◌, ◌≤◌, ◌+ℤ◌, ◌-ℤ◌, ◌≤ℤ◌, ◌&&◌, Bool, true, false, cond, nat_eq, nat_le, nat_lt, int_le, List, [], ◌∷◌, length, All, Option, Some, None, refl, sym, ap, subst, ◌∙◌, arith, zero, suc, slice_get, is_some, mul-le-mul}
use Rattle.std.specs.Prelude.{option_and_then}
use Rattle.std.specs.Option.{option_map}
use Rattle.std.proofs.lemmas.Bool.Decides.{nat_tests}
use Rattle.std.proofs.lemmas.Int.{ints}
use Rattle.std.proofs.lemmas.Option.{slice_get_within, same_Some}
use Rattle.std.proofs.lemmas.List.Elements.{All-tail}
use Rattle.std.proofs.lemmas.Bool.{and_from, and_parts}
use Rattle.plan_core.specs.declared.Price.{Price}
use Rattle.plan_core.proofs.Options.{given_some, and_then_some}
pub use Rattle.plan_core.proofs.Options.{given_some as given_both}
use Rattle.cover_core.specs.FirstLeast.{AllWithin}
use Rattle.cover_core.specs.Labels.{label_after, label_of, IsKept, IsValued}
use Rattle.cover_core.specs.Plans.{price_at, price_of, value_of}
use Rattle.cover_core.proofs.Values.{price_at-within}
use Rattle.label_search.specs.Laws.{GoodAs, IsStepwise, IsSafe}
use Rattle.label_search.specs.Pricing.{IsTied}
use Rattle.trip_times.specs.declared.trip.Trip.{Trip}
use Rattle.plan_params.specs.declared.rows.pool.Pool.{Pool}
use Rattle.plan_params.specs.Limits.{IsPool}
use Rattle.day_model.specs.declared.link.Link.{Link}
use Rattle.day_model.specs.declared.link.Link.TheVariants.{Direct, Depot}
use Rattle.vdv452_tables.specs.Keys.{point_eq}
use Rattle.day_model.specs.Facts.{DayFacts, admits, dead}
use Rattle.day_model.specs.Links.{given, link, pull_in, pull_out, with_trip}
use Rattle.day_model.specs.Blocks.{block_worth, link_cost}
use Rattle.day_model.specs.Pieces.{longest_driving}
use Rattle.day_model.specs.Ranges.{IsDaily}
use Rattle.depot_network.specs.declared.open.OpenBlock.{OpenBlock}
use Rattle.depot_network.specs.declared.step.Step.{Step}
use Rattle.depot_network.specs.Driving.{driven_first, driven_in, driven_on, driven_over, driven_past, is_cut_on, kept, seconds_after, seconds_before, trip_seconds}
use Rattle.depot_network.specs.Open.{OpenFits, begun_open, closed_open, extended_open, first_scaled, is_as_good, next_open, opening, scaled}
use Rattle.depot_network.specs.Walk.{added, begun, ended, first_step, joined, last_step, next_step, seconds_of, stepped, steps}
use Rattle.depot_network.proofs.Bounds.{link_fits, pull_out_leaves}
use Rattle.depot_network.proofs.Walks.{worth_walked}

-- Options.
pub map_some : {A B : Type 0} (f : A → B) (o : Option A) (y : B) → option_map f o ≡ Some y → (x : A) × (o ≡ Some x) × (f x ≡ y)
map_some f None y e = absurd (cc)
map_some f (Some x) y e = (x, refl, same_Some (f x) y e)

is_some_some : {A : Type 0} (o : Option A) → is_some o ≡ true → (x : A) × (o ≡ Some x)
is_some_some None e = absurd (cc)
is_some_some (Some x) e = (x, refl)

-- Steps.
pub joined_parts : (c d : Option ℕ) (step : Step) → joined c d ≡ Some step → (c ≡ Some step.cost) × (d ≡ Some step.driving)
joined_parts None d step e = absurd (cc)
joined_parts (Some c) d step e =
    let made : ℕ → Step = λ driving. record { cost = c; driving = driving } in
    let (driving, is, same) = map_some made d step e in
    let cost : Step → ℕ = λ s. s.cost in
    let seconds : Step → ℕ = λ s. s.driving in
    (ap Some (ap cost same), is ∙ ap Some (ap seconds same))

parts_joined : (c d : Option ℕ) (cost driving : ℕ) → c ≡ Some cost → d ≡ Some driving →
    joined c d ≡ Some (record { cost = cost; driving = driving })
parts_joined c d cost driving e h = rw (e, h) refl

-- driving that a piece may have
kept_parts : (seconds x : ℕ) → kept seconds ≡ Some x → (nat_le seconds longest_driving ≡ true) × (seconds ≡ x)
kept_parts seconds x e = let (test, is) = given_some (nat_le seconds longest_driving) (Some seconds) x e in (test, same_Some seconds x is)

kept_is : (seconds : ℕ) → nat_le seconds longest_driving ≡ true → kept seconds ≡ Some seconds
kept_is seconds test = rw test refl

less_kept : (m n : ℕ) → m ≤ n → nat_le n longest_driving ≡ true → nat_le m longest_driving ≡ true
less_kept m n less test = grind (arith, nat_tests)

kept_few : (seconds x : ℕ) → kept seconds ≡ Some x → x ≤ longest_driving
kept_few seconds x e = let (test, is) = kept_parts seconds x e in grind (arith, nat_tests)

-- With less driving so far there is no more behind a stand: where the stand is a cut the driving behind it is afresh and the same,
-- and where it is none both sums grow by the same seconds; what is at most four and a half hours with more driving is so with less.
-- This monotony, and its forms for a whole connection (`on_less`) and the pull-in (`in_less`), is all that the dominance of open
-- blocks rests on.
past_less : (cut : Bool) (d d' before second x : ℕ) → d ≤ d' → driven_past cut d' before second ≡ Some x →
    (y : ℕ) × (driven_past cut d before second ≡ Some y) × (y ≤ x)
past_less true d d' before second x less e =
    let (test, is) = given_some (nat_le (d' + before) longest_driving) (kept second) x e in
    let low = less_kept (d + before) (d' + before) (omega arith) test in
    (x, (let all : given (nat_le (d + before) longest_driving) (kept second) ≡ kept second = rw low refl in all ∙ is), omega arith)
past_less false d d' before second x less e =
    let (test, is) = kept_parts (d' + before + second) x e in
    let low = less_kept (d + before + second) (d' + before + second) (omega arith) test in
    (d + before + second, kept_is (d + before + second) low, omega (arith, is))

past_few : (cut : Bool) (d before second x : ℕ) → driven_past cut d before second ≡ Some x → x ≤ longest_driving
past_few true d before second x e =
    let (test, is) = given_some (nat_le (d + before) longest_driving) (kept second) x e in kept_few second x is
past_few false d before second x e = kept_few (d + before + second) x e

-- the parts of driving on
pub record DrivesOn (day : DayFacts) (pool : Pool) (driving t u x : ℕ) : Type 0 where
  pub trip : Trip
  pub next : Trip
  pub l : Link
  pub trip_is : slice_get day.trips t ≡ Some trip
  pub next_is : slice_get day.trips u ≡ Some next
  pub linked : link day pool trip next ≡ Some l
  pub over : driven_over day pool next l driving ≡ Some x

pub on_parts : (day : DayFacts) (pool : Pool) (driving t u x : ℕ) → driven_on day pool driving t u ≡ Some x →
    DrivesOn day pool driving t u x
on_parts day pool driving t u x e =
    let (trip, trip_is, e1) =
    and_then_some (λ (trip : Trip). with_trip day u
    (λ next. option_and_then (λ l. driven_over day pool next l driving) (link day pool trip next))) (slice_get day.trips t) x e in
    let (next, next_is, e2) =
    and_then_some (λ (next : Trip). option_and_then (λ l. driven_over day pool next l driving) (link day pool trip next))
    (slice_get day.trips u) x e1 in
    let (l, linked, over) = and_then_some (λ (l : Link). driven_over day pool next l driving) (link day pool trip next) x e2 in
    record { trip = trip; next = next; l = l; trip_is = trip_is; next_is = next_is; linked = linked; over = over }

parts_on : (day : DayFacts) (pool : Pool) (driving t u x : ℕ) → DrivesOn day pool driving t u x → driven_on day pool driving t u ≡ Some x
parts_on day pool driving t u x p =
    let trip_is = p.trip_is in let next_is = p.next_is in let linked = p.linked in
    let is : driven_on day pool driving t u ≡ driven_over day pool p.next p.l driving = rw (trip_is, next_is, linked) refl in
    is ∙ p.over

on_less : (day : DayFacts) (pool : Pool) (d d' t u x : ℕ) → d ≤ d' → driven_on day pool d' t u ≡ Some x →
    (y : ℕ) × (driven_on day pool d t u ≡ Some y) × (y ≤ x)
on_less day pool d d' t u x less e =
    let p = on_parts day pool d' t u x e in
    let (y, is, low) = past_less (is_cut_on day pool p.next p.l) d d' (seconds_before p.l)
    (seconds_after p.l + trip_seconds p.next) x less p.over in (
      y,
      parts_on day pool d t u y (record {
        trip = p.trip;
        next = p.next;
        l = p.l;
        trip_is = p.trip_is;
        next_is = p.next_is;
        linked =
            p.linked;
        over = is;
      }),
      low,
    )

on_few : (day : DayFacts) (pool : Pool) (d t u x : ℕ) → driven_on day pool d t u ≡ Some x → x ≤ longest_driving
on_few day pool d t u x e =
    let p = on_parts day pool d t u x e in
    past_few (is_cut_on day pool p.next p.l) d (seconds_before p.l) (seconds_after p.l + trip_seconds p.next) x p.over

pub in_is : (day : DayFacts) (pool : Pool) (d t inward : ℕ) (trip : Trip) → slice_get day.trips t ≡ Some trip →
    pull_in day pool trip ≡ Some inward → driven_in day pool d t ≡ kept (d + inward)
in_is day pool d t inward trip there is = rw (there, is) refl

in_less : (day : DayFacts) (pool : Pool) (d d' t x : ℕ) → d ≤ d' → driven_in day pool d' t ≡ Some x →
    (y : ℕ) × (driven_in day pool d t ≡ Some y)
in_less day pool d d' t x less e =
    let (trip, trip_is, e1) =
    and_then_some (λ (trip : Trip). option_and_then (λ inward. kept (d' + inward)) (pull_in day pool trip)) (slice_get day.trips t) x e in
    let (inward, is_in, e2) = and_then_some (λ (inward : ℕ). kept (d' + inward)) (pull_in day pool trip) x e1 in
    let (test, same) = kept_parts (d' + inward) x e2 in
    let low = less_kept (d + inward) (d' + inward) (omega arith) test in
    (d + inward, in_is day pool d t inward trip trip_is is_in ∙ kept_is (d + inward) low)

-- A step over a connection costs the same whatever the driving before it, and with less driving before it there is no more behind.
-- So of two open blocks with one last trip the one with less driving may go on over each trip over which the other may, at the same
-- cost. Driving only forbids; it never makes a block dearer.
next_less : (day : DayFacts) (pool : Pool) (d d' t u : ℕ) (step : Step) → d ≤ d' → next_step day pool d' t u ≡ Some step →
    (s : Step) × (next_step day pool d t u ≡ Some s) × (s.cost ≡ step.cost) × (s.driving ≤ step.driving)
next_less day pool d d' t u step less e =
    let (cost, driving) = joined_parts (added day pool t u) (driven_on day pool d' t u) step e in
    let (y, is, low) = on_less day pool d d' t u step.driving less driving in
    let s : Step = record { cost = step.cost; driving = y } in
    (s, parts_joined (added day pool t u) (driven_on day pool d t u) step.cost y cost is, refl, low)

last_less : (day : DayFacts) (pool : Pool) (d d' t m : ℕ) → d ≤ d' → last_step day pool d' t ≡ Some m → last_step day pool d t ≡ Some m
last_less day pool d d' t m less e =
    let (there, is) = given_some (is_some (driven_in day pool d' t)) (ended day pool t) m e in
    let (x, is_in) = is_some_some (driven_in day pool d' t) there in
    let (y, is_on) = in_less day pool d d' t x less is_in in
    let test : is_some (driven_in day pool d t) ≡ true = ap is_some is_on in
    let all : last_step day pool d t ≡ ended day pool t = rw test refl in
    all ∙ is

-- a block that is as good
pub same_trip : (a b : OpenBlock) → is_as_good a b ≡ true → (a.trip ≡ b.trip) × (a.driving ≤ b.driving) × (a.value ≤ℤ b.value)
same_trip a b h =
    let (trip, rest) = and_parts (nat_eq a.trip b.trip) (nat_le a.driving b.driving && int_le a.value b.value) h in
    let (driving, value) = and_parts (nat_le a.driving b.driving) (int_le a.value b.value) rest in
    (grind (arith, nat_tests), grind (arith, nat_tests), grind (arith, ints))

pub as_good : (a b : OpenBlock) → a.trip ≡ b.trip → a.driving ≤ b.driving → a.value ≤ℤ b.value → is_as_good a b ≡ true
as_good a b trip driving value =
    and_from (nat_eq a.trip b.trip) (nat_le a.driving b.driving && int_le a.value b.value) (grind (arith, nat_tests))
    (and_from (nat_le a.driving b.driving) (int_le a.value b.value) (grind (arith, nat_tests)) (grind (arith, ints)))

module _ (day : DayFacts) (counts : Bool) (prices : List Price) (pool : Pool) where
  -- what an open block with a trip more is
  pub record IsNext (a b : OpenBlock) (u : ℕ) : Type 0 where
    pub step : Step
    pub is_step : next_step day pool a.driving a.trip u ≡ Some step
    pub trip : b.trip ≡ u
    pub driving : b.driving ≡ step.driving
    pub value : b.value ≡ a.value +ℤ scaled counts step.cost -ℤ price_at prices u

  pub next_parts : (a b : OpenBlock) (u : ℕ) → extended_open day counts prices pool a u ≡ Some b → IsNext a b u
  next_parts a b u e =
      let (step, is, same) = map_some (next_open counts prices a u) (next_step day pool a.driving a.trip u) b e in
      let trip : OpenBlock → ℕ = λ x. x.trip in
      let driving : OpenBlock → ℕ = λ x. x.driving in
      let value : OpenBlock → ℤ = λ x. x.value in
      record { step = step; is_step = is; trip = sym (ap trip same); driving = sym (ap driving same); value = sym (ap value same) }

  next_is : (a : OpenBlock) (u : ℕ) (step : Step) → next_step day pool a.driving a.trip u ≡ Some step →
      extended_open day counts prices pool a u ≡ Some (next_open counts prices a u step)
  next_is a u step e = ap (λ (o : Option Step). option_map (next_open counts prices a u) o) e

  -- The laws. Dominance stays over each further trip: an open block with the same last trip, no more driving and no greater value
  -- can be extended wherever the other can (`next_less`), the trip adds the same to both values, and so the extensions stand to one
  -- another as the blocks did. By this law the search may drop the worse one of two labels.
  pub opening_kept : IsKept (opening day counts prices pool) (GoodAs is_as_good)
  opening_kept = record {
    same = λ a. as_good a a refl (omega arith) (omega (arith, ints));
    through = λ a b c h k.
        let (t1, d1, v1) = same_trip a b h in
        let (t2, d2, v2) = same_trip b c k in
        as_good a c (t1 ∙ t2) (omega arith) (omega (arith, ints));
    extended = λ a b b' u h e.
        let (trip, driving, value) = same_trip a b h in
        let x = next_parts b b' u e in
        let P : ℕ → Type 0 = λ t. next_step day pool b.driving t u ≡ Some x.step in
        let (s, is, cost, less) = next_less day pool a.driving b.driving a.trip u x.step driving (subst P (sym trip) x.is_step) in
        let a' : OpenBlock = next_open counts prices a u s in
        let same : scaled counts s.cost ≡ scaled counts x.step.cost = ap (scaled counts) cost in
        let is_value = x.value in
        let is_driving = x.driving in
        (a', next_is a u s is, as_good a' b' (sym x.trip) (omega (arith, is_driving, less)) (omega (arith, ints, is_value, same, value)));
  }

  -- Dominance is true to values: a smaller value stays smaller over each further trip, since a step adds one amount to both, and a
  -- block that is as good closes wherever the other does, with a value that is smaller where it was. By this law ties may be decided
  -- when a label is made, long before its list closes.
  pub opening_valued : IsValued (opening day counts prices pool) (GoodAs is_as_good) (λ a. a.value) (closed_open day counts pool)
  opening_valued = record {
    at_most = λ a b h. (same_trip a b h).2;
    apart = λ a b a' b' u h less ea eb.
        let (trip, driving, value) = same_trip a b h in
        let x = next_parts a a' u ea in
        let y = next_parts b b' u eb in
        let P : ℕ → Type 0 = λ t. next_step day pool b.driving t u ≡ Some y.step in
        let (s, is, cost, low) = next_less day pool a.driving b.driving a.trip u y.step driving (subst P (sym trip) y.is_step) in
        let one : s ≡ x.step = same_Some s x.step (sym is ∙ x.is_step) in
        let costs : x.step.cost ≡ y.step.cost = (let f : Step → ℕ = λ z. z.cost in sym (ap f one) ∙ cost) in
        let same : scaled counts x.step.cost ≡ scaled counts y.step.cost = ap (scaled counts) costs in
        let va = x.value in
        let vb = y.value in
        omega (arith, ints, va, vb, same, less);
    closes = λ a b v h e.
        let (trip, driving, value) = same_trip a b h in
        let (m, is, same) = map_some (λ (cost : ℕ). b.value +ℤ scaled counts cost) (last_step day pool b.driving b.trip) v e in
        let P : ℕ → Type 0 = λ t. last_step day pool b.driving t ≡ Some m in
        let closes = last_less day pool a.driving b.driving a.trip m driving (subst P (sym trip) is) in (
          a.value +ℤ scaled counts m,
          ap (λ (o : Option ℕ). option_map (λ (cost : ℕ). a.value +ℤ scaled counts cost) o) closes,
          omega (arith, ints, same, value),
          (λ less. omega (arith, ints, same, less)),
        );
  }

  -- where a step is, its trips are there, and the second one is later
  pub added_parts : (t u m : ℕ) → added day pool t u ≡ Some m → (t < u) × (u < length day.trips)
  added_parts t u m e =
      let (trip, trip_is, e1) =
      and_then_some (λ (trip : Trip). with_trip day u
      (λ next. given (nat_lt t u)
      (given (admits day next.line pool.typ) (option_map (λ l. link_cost pool next l) (link day pool trip next)))))
      (slice_get day.trips t) m e in
      let (next, next_is, e2) =
      and_then_some (λ (next : Trip). given (nat_lt t u)
      (given (admits day next.line pool.typ) (option_map (λ l. link_cost pool next l) (link day pool trip next))))
      (slice_get day.trips u) m e1 in
      let (later, e3) = given_some (nat_lt t u)
      (given (admits day next.line pool.typ) (option_map (λ l. link_cost pool next l) (link day pool trip next))) m e2 in
      (grind (arith, nat_tests), slice_get_within day.trips u next next_is)

  begun_within : (t m : ℕ) → begun day pool t ≡ Some m → t < length day.trips
  begun_within t m e =
      let (trip, trip_is, e1) =
      and_then_some (λ (trip : Trip). given (admits day trip.line pool.typ)
      (option_map (λ out. pool.fixed + pool.dead_rate * out) (pull_out day pool trip))) (slice_get day.trips t) m e in
      slice_get_within day.trips t trip trip_is

  pub opening_stepwise : IsStepwise (opening day counts prices pool) (length day.trips) (λ a. a.trip)
  opening_stepwise = record {
    starts = λ t a e.
        let (step, is, same) = map_some (begun_open counts prices t) (first_step day pool t) a e in
        let (cost, driving) = joined_parts (begun day pool t) (driven_first day pool t) step is in
        let trip : OpenBlock → ℕ = λ x. x.trip in
        (begun_within t step.cost cost, sym (ap trip same));
    steps = λ a b u e.
        let x = next_parts a b u e in
        let (cost, driving) = joined_parts (added day pool a.trip u) (driven_on day pool a.driving a.trip u) x.step x.is_step in
        let (later, there) = added_parts a.trip u x.step.cost cost in
        (later, there, x.trip);
  }

  -- The tie: from a label to the cost, and from the cost to a label.
  from_label : (list : List ℕ) (a b : OpenBlock) (v : ℤ) (cost : ℕ) → label_after (opening day counts prices pool) (Some a) list ≡ Some b →
      closed_open day counts pool b ≡ Some v →
      (rest : ℕ) × (stepped day pool cost a.driving a.trip list ≡ Some (cost + rest))
      × (v +ℤ price_of prices list ≡ a.value +ℤ scaled counts rest)
  from_label [] a b v cost e c =
      let same : a ≡ b = same_Some a b e in
      let P : OpenBlock → Type 0 = λ x. closed_open day counts pool x ≡ Some v in
      let (m, is, value) = map_some (λ (m : ℕ). a.value +ℤ scaled counts m) (last_step day pool a.driving a.trip)
      v (subst P (sym same) c) in
      (m, ap (λ (o : Option ℕ). option_map (λ (more : ℕ). cost + more) o) is, omega (arith, ints, value))
  from_label (u ∷ us) a b v cost e c =
      let Goal : Option Step → Type 0 = λ o. next_step day pool a.driving a.trip u ≡ o →
      label_after (opening day counts prices pool) (option_map (next_open counts prices a u) o) us ≡ Some b →
      (rest : ℕ) × (option_and_then (λ (step : Step). stepped day pool (cost + step.cost) step.driving u us) o ≡ Some (cost + rest))
      × (v +ℤ (price_at prices u +ℤ price_of prices us) ≡ a.value +ℤ scaled counts rest) in
      let split : (o : Option Step) → Goal o = λ o. elim o as Goal [
        | None ↦ λ none e'. absurd (none_after us e')
        | Some step ↦ λ is e'.
            let (rest, costs, value) = from_label us (next_open counts prices a u step) b v (cost + step.cost) e' c in
            let sum : cost + step.cost + rest ≡ cost + (step.cost + rest) = omega arith in
            (step.cost + rest, costs ∙ ap Some sum, added_value step.cost rest value)
      ] in split (next_step day pool a.driving a.trip u) refl e
    where
      none_after : (xs : List ℕ) → label_after (opening day counts prices pool) None xs ≡ Some b → ⊥
      none_after [] e = cc
      none_after (x ∷ xs) e = cc

      added_value : (m rest : ℕ) → v +ℤ price_of prices us ≡ (a.value +ℤ scaled counts m -ℤ price_at prices u) +ℤ scaled counts rest →
          v +ℤ (price_at prices u +ℤ price_of prices us) ≡ a.value +ℤ scaled counts (m + rest)
      added_value m rest value =
          elim counts as (λ z. v +ℤ price_of prices us ≡ (a.value +ℤ scaled z m -ℤ price_at prices u) +ℤ scaled z rest →
          v +ℤ (price_at prices u +ℤ price_of prices us) ≡ a.value +ℤ scaled z (m + rest)) [
            | true ↦ λ h. omega (arith, ints, h)
            | false ↦ λ h. omega (arith, ints, h)
          ] value

  -- From the walk to the label: if the trips behind an open block can be walked to the end with a total cost, then the label goes on
  -- over all of them and closes, and its value and the prices of these trips together are the value before and what the walk added.
  -- Stated for any label and any cost so far, so that the induction over the trips may take the first one off. `from_label` is the
  -- way back; the cost so far and the value so far never meet, and only what is added is compared.
  onto_label : (list : List ℕ) (a : OpenBlock) (cost total : ℕ) → stepped day pool cost a.driving a.trip list ≡ Some total →
      (b : OpenBlock) × (v : ℤ) × (rest : ℕ) × (label_after (opening day counts prices pool) (Some a) list ≡ Some b)
      × (closed_open day counts pool b ≡ Some v) × (total ≡ cost + rest) × (v +ℤ price_of prices list ≡ a.value +ℤ scaled counts rest)
  onto_label [] a cost total e =
      let (m, is, sum) = map_some (λ (more : ℕ). cost + more) (last_step day pool a.driving a.trip) total e in (
        a,
        a.value +ℤ scaled counts m,
        m,
        refl,
        ap (λ (o : Option ℕ). option_map (λ (m : ℕ). a.value +ℤ scaled counts m) o) is,
        sym sum,
        omega (arith, ints),
      )
  onto_label (u ∷ us) a cost total e =
      let (step, is, more) = and_then_some (λ (step : Step). stepped day pool (cost + step.cost) step.driving u us)
      (next_step day pool a.driving a.trip u) total e in
      let (b, v, rest, label, closes, sum, value) = onto_label us (next_open counts prices a u step) (cost + step.cost) total more in (
        b,
        v,
        step.cost + rest,
        ap (λ (o : Option OpenBlock). label_after (opening day counts prices pool) o us) (next_is a u step is)
            ∙ label,
        closes,
        omega (arith, sum),
        added_value v step.cost rest value,
      )
    where
      added_value : (v : ℤ) (m rest : ℕ) →
          v +ℤ price_of prices us ≡ (a.value +ℤ scaled counts m -ℤ price_at prices u) +ℤ scaled counts rest →
          v +ℤ (price_at prices u +ℤ price_of prices us) ≡ a.value +ℤ scaled counts (m + rest)
      added_value v m rest value =
          elim counts as (λ z. v +ℤ price_of prices us ≡ (a.value +ℤ scaled z m -ℤ price_at prices u) +ℤ scaled z rest →
          v +ℤ (price_at prices u +ℤ price_of prices us) ≡ a.value +ℤ scaled z (m + rest)) [
            | true ↦ λ h. omega (arith, ints, h)
            | false ↦ λ h. omega (arith, ints, h)
          ] value

  -- the value of a whole list
  first_sum : (t cost rest : ℕ) (v later : ℤ) → v +ℤ later ≡ (first_scaled counts cost -ℤ price_at prices t) +ℤ scaled counts rest →
      v ≡ pos (1000 * cond counts 1 (cost + rest)) -ℤ (price_at prices t +ℤ later)
  first_sum t cost rest v later e =
      elim counts as (λ z. v +ℤ later ≡ (first_scaled z cost -ℤ price_at prices t) +ℤ scaled z rest →
      v ≡ pos (1000 * cond z 1 (cost + rest)) -ℤ (price_at prices t +ℤ later)) [
        | true ↦ λ h. omega (arith, ints, h)
        | false ↦ λ h. omega (arith, ints, h)
      ] e

  worth_is : (class : ℕ) (list : List ℕ) → slice_get day.params.pools class ≡ Some pool →
      block_worth day counts class list ≡ option_and_then (λ (c : ℕ). Some (cond counts 1 c)) (steps day pool list)
  worth_is class list there =
      worth_walked day counts class list
      ∙ ap (λ (o : Option Pool). option_and_then (λ (c : ℕ). Some (cond counts 1 c))
      (option_and_then (λ (pool : Pool). steps day pool list) o)) there

  opening_onto : (class : ℕ) → slice_get day.params.pools class ≡ Some pool → (list : List ℕ) (worth : ℕ) →
      block_worth day counts class list ≡ Some worth →
      (a : OpenBlock) × (label_of (opening day counts prices pool) list ≡ Some a)
      × (closed_open day counts pool a ≡ Some (value_of prices worth list))
  opening_onto class there [] worth e = absurd (let bad : None ≡ Some worth = sym (worth_is class [] there) ∙ e in cc)
  opening_onto class there (t ∷ ts) worth e =
      let one : ℕ → Option ℕ = λ c. Some (cond counts 1 c) in
      let (c, is, same) = and_then_some one (steps day pool (t ∷ ts)) worth (sym (worth_is class (t ∷ ts) there) ∙ e) in
      let (step, is_step, more) =
      and_then_some (λ (step : Step). stepped day pool step.cost step.driving t ts) (first_step day pool t) c is in
      let (b, v, rest, label, closes, sum, value) = onto_label ts (begun_open counts prices t step) step.cost c more in
      let is_worth : cond counts 1 (step.cost + rest) ≡ worth = ap (cond counts 1) (sym sum) ∙ same_Some (cond counts 1 c) worth same in
      let is_value : v ≡ value_of prices worth (t ∷ ts) =
      first_sum t step.cost rest v (price_of prices ts) value ∙ ap (λ n. value_of prices n (t ∷ ts)) is_worth in (
        b,
        ap (λ (o : Option Step). label_after (opening day counts prices pool) (option_map (begun_open counts prices t) o) ts) is_step
            ∙ label,
        closes ∙ ap Some is_value,
      )

  opening_from : (class : ℕ) → slice_get day.params.pools class ≡ Some pool → (list : List ℕ) (b : OpenBlock) (v : ℤ) →
      label_of (opening day counts prices pool) list ≡ Some b → closed_open day counts pool b ≡ Some v →
      (worth : ℕ) × (block_worth day counts class list ≡ Some worth) × (v ≡ value_of prices worth list)
  opening_from class there [] b v e c = absurd (cc)
  opening_from class there (t ∷ ts) b v e c =
      let Goal : Option Step → Type 0 = λ o. first_step day pool t ≡ o →
      label_after (opening day counts prices pool) (option_map (begun_open counts prices t) o) ts ≡ Some b →
      (worth : ℕ) × (block_worth day counts class (t ∷ ts) ≡ Some worth) × (v ≡ value_of prices worth (t ∷ ts)) in
      let split : (o : Option Step) → Goal o = λ o. elim o as Goal [
        | None ↦ λ none e'. absurd (no_label ts e')
        | Some step ↦ λ is e'.
            let (rest, costs, value) = from_label ts (begun_open counts prices t step) b v step.cost e' c in
            let one : ℕ → Option ℕ = λ n. Some (cond counts 1 n) in
            let all : steps day pool (t ∷ ts) ≡ Some (step.cost + rest) =
            ap (λ (o : Option Step). option_and_then (λ (step : Step). stepped day pool step.cost step.driving t ts) o) is ∙ costs in (
              cond counts 1 (step.cost + rest),
              worth_is class (t ∷ ts) there ∙ ap (λ (o : Option ℕ). option_and_then one o) all,
              first_sum t step.cost rest v (price_of prices ts) value,
            )
      ] in split (first_step day pool t) refl e
    where
      no_label : (xs : List ℕ) → label_after (opening day counts prices pool) None xs ≡ Some b → ⊥
      no_label [] e = cc
      no_label (x ∷ xs) e = cc

  -- The labels of open blocks are tied to the worths of blocks: a list of trips has a worth exactly where it has a label that
  -- closes, and it closes with a thousand times the worth less the prices of its trips. By `worth_walked` a worth is what the walk
  -- over the trips gives, step by step as labels are made; so both directions are inductions over the trips. The whole search for
  -- the best block rests on it: it turns "the list that closes first" into "the best column".
  pub opening_tied : (class : ℕ) → slice_get day.params.pools class ≡ Some pool →
      IsTied (opening day counts prices pool) (closed_open day counts pool) prices (block_worth day counts class)
  opening_tied class there = record { onto = opening_onto class there; from = opening_from class there }

  -- The numbers of open blocks fit.
  scaled_few : (n most : ℕ) → n ≤ most → (pos 0 ≤ℤ scaled counts n) × (scaled counts n ≤ℤ pos (1000 * most))
  scaled_few n most few =
      elim counts as (λ z. (pos 0 ≤ℤ scaled z n) × (scaled z n ≤ℤ pos (1000 * most))) [
        | true ↦
            (omega (arith, ints), omega (arith, ints))
        | false ↦ (omega (arith, ints), omega (arith, ints))
      ]

  first_few : (n most : ℕ) → n ≤ most → 1 ≤ most → (pos 0 ≤ℤ first_scaled counts n) × (first_scaled counts n ≤ℤ pos (1000 * most))
  first_few n most few some =
      elim counts as (λ z. (pos 0 ≤ℤ first_scaled z n) × (first_scaled z n ≤ℤ pos (1000 * most))) [
        | true ↦
            (omega (arith, ints), omega (arith, ints))
        | false ↦ (omega (arith, ints), omega (arith, ints))
      ]

  trip_daily : (t : ℕ) (trip : Trip) → slice_get day.trips t ≡ Some trip → All IsDaily day.trips → IsDaily trip
  trip_daily t trip there daily = daily_at day.trips t trip there daily
    where
      daily_at : (trips : List Trip) (t : ℕ) (trip : Trip) → slice_get trips t ≡ Some trip → All IsDaily trips → IsDaily trip
      daily_at [] t trip e daily = absurd (cc)
      daily_at (x ∷ xs) zero trip e daily = let P : Trip → Type 0 = IsDaily in subst P (same_Some x trip e) (daily 0 x (omega arith))
      daily_at (x ∷ xs) (suc t) trip e daily = daily_at xs t trip e (All-tail IsDaily x xs daily)

  cost_few : (u : Trip) (l : Link) → IsPool pool → link_cost pool u l ≤ 10000 * seconds_of l
  cost_few u (Direct move stand) ranges =
      let still : cond (point_eq u.from pool.depot) 0 stand ≤ stand =
      elim (point_eq u.from pool.depot) as (λ t. cond t 0 stand ≤ stand) [ true ↦ omega arith | false ↦ omega arith ] in
      let moves = mul-le-mul ranges.dead_rate (refl_le move) in
      let stands = mul-le-mul ranges.stand_rate still in
      omega (arith, moves, stands)
    where
      refl_le : (n : ℕ) → n ≤ n
      refl_le n = omega arith
  cost_few u (Depot inward outward stand) ranges =
      let moves = mul-le-mul ranges.dead_rate (refl_le (inward + outward)) in
      omega (arith, moves)
    where
      refl_le : (n : ℕ) → n ≤ n
      refl_le n = omega arith

  -- What a connection adds is bounded by the time that it fills: it costs at most its seconds at the highest rates, and its seconds
  -- lie between the end of one trip and the start of the next, within two days. So the value of an open block changes by a bounded
  -- number with each trip.
  pub added_few : (t u m : ℕ) → IsPool pool → All IsDaily day.trips → added day pool t u ≡ Some m → m ≤ 1728000000
  added_few t u m ranges daily e =
      let (trip, trip_is, e1) =
      and_then_some (λ (trip : Trip). with_trip day u
      (λ next. given (nat_lt t u)
      (given (admits day next.line pool.typ) (option_map (λ l. link_cost pool next l) (link day pool trip next)))))
      (slice_get day.trips t) m e in
      let (next, next_is, e2) =
      and_then_some (λ (next : Trip). given (nat_lt t u)
      (given (admits day next.line pool.typ) (option_map (λ l. link_cost pool next l) (link day pool trip next))))
      (slice_get day.trips u) m e1 in
      let (later, e3) = given_some (nat_lt t u)
      (given (admits day next.line pool.typ) (option_map (λ l. link_cost pool next l) (link day pool trip next))) m e2 in
      let (admitted, e4) = given_some (admits day next.line pool.typ)
      (option_map (λ l. link_cost pool next l) (link day pool trip next)) m e3 in
      let (l, linked, same) = map_some (λ (l : Link). link_cost pool next l) (link day pool trip next) m e4 in
      let fits = link_fits day pool trip next l linked in
      let few = cost_few next l ranges in
      let d1 = trip_daily t trip trip_is daily in
      let d2 = trip_daily u next next_is daily in
      omega (arith, ints, fits, few, same, d1.begins, d1.order, d2.order, d2.ends)

  pub begun_few : (t m : ℕ) → IsPool pool → All IsDaily day.trips → begun day pool t ≡ Some m → m ≤ 1828000000
  begun_few t m ranges daily e =
      let (trip, trip_is, e1) =
      and_then_some (λ (trip : Trip). given (admits day trip.line pool.typ)
      (option_map (λ out. pool.fixed + pool.dead_rate * out) (pull_out day pool trip))) (slice_get day.trips t) m e in
      let (admitted, e2) = given_some (admits day trip.line pool.typ)
      (option_map (λ out. pool.fixed + pool.dead_rate * out) (pull_out day pool trip)) m e1 in
      let (out, is_out, same) = map_some (λ (out : ℕ). pool.fixed + pool.dead_rate * out) (pull_out day pool trip) m e2 in
      let leaves = pull_out_leaves trip (dead day pool.depot trip.from) out is_out in
      let d = trip_daily t trip trip_is daily in
      let short : out ≤ 172800 = omega (arith, ints, leaves, d.order, d.ends) in
      let moves = mul-le-mul ranges.dead_rate short in
      let fixed = ranges.fixed in
      omega (arith, same, moves, fixed)

  first_driving : (t x : ℕ) → driven_first day pool t ≡ Some x → x ≤ longest_driving
  first_driving t x e =
      let (trip, trip_is, e1) =
      and_then_some (λ (trip : Trip). option_and_then (λ out. kept (out + trip_seconds trip)) (pull_out day pool trip))
      (slice_get day.trips t) x e in
      let (out, is_out, e2) = and_then_some (λ (out : ℕ). kept (out + trip_seconds trip)) (pull_out day pool trip) x e1 in
      kept_few (out + trip_seconds trip) x e2

  -- No number of a label is ever too large for the machine: the value is at most 20,000,000,000,000 for each trip so far, above or
  -- below 0. The bound is by the number of the last trip, and a trip more has a greater number, so each step has room for what it
  -- adds: its cost (`added_few`, `begun_few`) and its price. The search's contract asks for this of the labels that it makes.
  pub opening_safe : All IsDaily day.trips → IsPool pool → AllWithin 10000000000000 prices →
      IsSafe (opening day counts prices pool) (OpenFits (length day.trips))
  opening_safe daily ranges moderate = record {
    starts = λ t a e.
        let (step, is, same) = map_some (begun_open counts prices t) (first_step day pool t) a e in
        let (cost, driving) = joined_parts (begun day pool t) (driven_first day pool t) step is in
        let within = begun_within t step.cost cost in
        let (low, high) = first_few step.cost 1828000000 (begun_few t step.cost ranges daily cost) (omega arith) in
        let price = price_at-within 10000000000000 prices t moderate in
        let p_low = price.low in
        let p_high = price.high in
        let fits : OpenFits (length day.trips) (begun_open counts prices t step) = record {
          trip = within;
          driving = first_driving t step.driving driving;
          low = omega (arith, ints, low, high, p_low, p_high);
          high = omega (arith, ints, low, high, p_low, p_high);
        } in
        let P : OpenBlock → Type 0 = OpenFits (length day.trips) in
        subst P same fits;
    steps = λ a b u fit e.
        let (step, is, same) = map_some (next_open counts prices a u) (next_step day pool a.driving a.trip u) b e in
        let (cost, driving) = joined_parts (added day pool a.trip u) (driven_on day pool a.driving a.trip u) step is in
        let (later, there) = added_parts a.trip u step.cost cost in
        let (low, high) = scaled_few step.cost 1728000000 (added_few a.trip u step.cost ranges daily cost) in
        let price = price_at-within 10000000000000 prices u moderate in
        let p_low = price.low in
        let p_high = price.high in
        let a_low = fit.low in
        let a_high = fit.high in
        let fits : OpenFits (length day.trips) (next_open counts prices a u step) = record {
          trip = there;
          driving = on_few day pool a.driving a.trip u step.driving driving;
          low = omega (arith, ints, low, high, p_low, p_high, a_low, later);
          high = omega (arith, ints, low, high, p_low, p_high, a_high, later);
        } in
        let P : OpenBlock → Type 0 = OpenFits (length day.trips) in
        subst P same fits;
  }
