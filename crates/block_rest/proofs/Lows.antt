-- The values of open blocks without prices are low, and so are the worths of blocks.
use Rattle.std.proofs.Common.{◌≡◌, ℕ, ℤ, pos, ◌+◌, ◌*◌, ◌≤◌, ◌+ℤ◌, ◌-ℤ◌, ◌*ℤ◌, ◌≤ℤ◌, Bool, true, false, cond, nat_lt, List, [], ◌∷◌, All, Option, Some, None, refl, subst, arith, zero, suc, slice_get, mul-le-mul}
use Rattle.std.specs.Prelude.{IfSome}
use Rattle.std.specs.Option.{option_map}
use Rattle.std.proofs.lemmas.Int.{ints}
use Rattle.std.proofs.lemmas.List.Elements.{All-tail}
use Rattle.cover_core.specs.Labels.{Labelling, label_after, label_of}
use Rattle.label_search.specs.Laws.{IsSafe}
use Rattle.vdv452_tables.specs.Keys.{point_eq}
use Rattle.trip_times.specs.declared.trip.Trip.{Trip}
use Rattle.plan_params.specs.declared.rows.pool.Pool.{Pool}
use Rattle.plan_params.specs.Limits.{IsPool}
use Rattle.day_model.specs.declared.link.Link.{Link}
use Rattle.day_model.specs.declared.link.Link.TheVariants.{Direct, Depot}
use Rattle.day_model.specs.Facts.{DayFacts, admits, dead}
use Rattle.day_model.specs.Links.{given, link, pull_out, with_trip}
use Rattle.day_model.specs.Blocks.{link_cost}
use Rattle.day_model.specs.Ranges.{IsDaily}
use Rattle.depot_network.specs.declared.open.OpenBlock.{OpenBlock}
use Rattle.depot_network.specs.Driving.{driven_first, driven_on}
use Rattle.depot_network.specs.Open.{begun_open, first_scaled, next_open, opening, scaled}
use Rattle.depot_network.specs.Walk.{added, begun, end_of, first_step, next_step, seconds_of}
use Rattle.depot_network.proofs.Bounds.{and_then_some, link_fits, pull_out_leaves, some_same}
use Rattle.depot_network.proofs.Opens.{given_both, joined_parts, map_some}
use Rattle.block_rest.specs.Low.{IsLow}

-- Labels of lists are sound.
pub safe-after : {L : Type 0} (w : Labelling L) (sound : L → Type 0) → IsSafe w sound → (o : Option L) (xs : List ℕ) (b : L) →
    IfSome o sound → label_after w o xs ≡ Some b → sound b
safe-after w sound safe None [] b h e = absurd (cc)
safe-after w sound safe None (x ∷ xs) b h e = absurd (cc)
safe-after w sound safe (Some a) [] b h e = subst sound (some_same a b e) h
safe-after {L = L} w sound safe (Some a) (x ∷ xs) b h e = safe-after w sound safe (w.extend a x) xs b (each (w.extend a x) refl) e
  where
    each : (o : Option L) → w.extend a x ≡ o → IfSome o sound
    each None is = tt
    each (Some c) is = safe.steps a c x h is

pub safe-of : {L : Type 0} (w : Labelling L) (sound : L → Type 0) → IsSafe w sound → (xs : List ℕ) (b : L) →
    label_of w xs ≡ Some b → sound b
safe-of w sound safe [] b e = absurd (cc)
safe-of {L = L} w sound safe (x ∷ xs) b e = safe-after w sound safe (w.start x) xs b (each (w.start x) refl) e
  where
    each : (o : Option L) → w.start x ≡ o → IfSome o sound
    each None is = tt
    each (Some c) is = safe.starts x c is

module _ (day : DayFacts) (counts : Bool) (pool : Pool) where
  trip_daily : (t : ℕ) (trip : Trip) → slice_get day.trips t ≡ Some trip → All IsDaily day.trips → IsDaily trip
  trip_daily t trip there daily = daily_at day.trips t there daily
    where
      daily_at : (trips : List Trip) (t : ℕ) → slice_get trips t ≡ Some trip → All IsDaily trips → IsDaily trip
      daily_at [] t e daily = absurd (cc)
      daily_at (x ∷ xs) zero e daily = let P : Trip → Type 0 = IsDaily in subst P (some_same x trip e) (daily 0 x (omega arith))
      daily_at (x ∷ xs) (suc t) e daily = daily_at xs t e (All-tail IsDaily x xs daily)

  ends_at : (t : ℕ) (trip : Trip) → slice_get day.trips t ≡ Some trip → end_of day t ≡ trip.end.0
  ends_at t trip is = rw is refl

  same_le : (n : ℕ) → n ≤ n
  same_le n = omega arith

  cost_few : (u : Trip) (l : Link) → IsPool pool → link_cost pool u l ≤ 10000 * seconds_of l
  cost_few u (Direct move stand) ranges =
      let still : cond (point_eq u.from pool.depot) 0 stand ≤ stand =
      elim (point_eq u.from pool.depot) as (λ t. cond t 0 stand ≤ stand) [ true ↦ omega arith | false ↦ omega arith ] in
      let moves = mul-le-mul ranges.dead_rate (same_le move) in
      let stands = mul-le-mul ranges.stand_rate still in
      omega (arith, moves, stands)
  cost_few u (Depot inward outward stand) ranges =
      let moves = mul-le-mul ranges.dead_rate (same_le (inward + outward)) in
      omega (arith, moves)

  scaled_few : (n : ℕ) → (pos 0 ≤ℤ scaled counts n) × (scaled counts n ≤ℤ pos (1000 * n))
  scaled_few n = elim counts as (λ z. (pos 0 ≤ℤ scaled z n) × (scaled z n ≤ℤ pos (1000 * n))) [
    | true ↦
        (omega (arith, ints), omega (arith, ints))
    | false ↦ (omega (arith, ints), omega (arith, ints))
  ]

  first_few : (n : ℕ) → (pos 0 ≤ℤ first_scaled counts n) × (first_scaled counts n ≤ℤ pos (1000 * n + 1000))
  first_few n = elim counts as (λ z. (pos 0 ≤ℤ first_scaled z n) × (first_scaled z n ≤ℤ pos (1000 * n + 1000))) [
    | true ↦
        (omega (arith, ints), omega (arith, ints))
    | false ↦ (omega (arith, ints), omega (arith, ints))
  ]

  begun_low : (t m : ℕ) → IsPool pool → All IsDaily day.trips → begun day pool t ≡ Some m →
      (pos (1000 * m) ≤ℤ (pos 100000000000 +ℤ (pos 10000000 *ℤ end_of day t))) × (pos 0 ≤ℤ end_of day t) × (end_of day t ≤ℤ pos 172800)
  begun_low t m ranges daily e =
      let (trip, trip_is, e1) =
      and_then_some (λ (trip : Trip). given (admits day trip.line pool.typ)
      (option_map (λ out. pool.fixed + pool.dead_rate * out) (pull_out day pool trip))) (slice_get day.trips t) m e in
      let (admitted, e2) = given_both (admits day trip.line pool.typ)
      (option_map (λ out. pool.fixed + pool.dead_rate * out) (pull_out day pool trip)) m e1 in
      let (out, is_out, same) = map_some (λ (out : ℕ). pool.fixed + pool.dead_rate * out) (pull_out day pool trip) m e2 in
      let leaves = pull_out_leaves trip (dead day pool.depot trip.from) out is_out in
      let d = trip_daily t trip trip_is daily in
      let order = d.order in
      let begins = d.begins in
      let in_time = d.ends in
      let moves = mul-le-mul ranges.dead_rate (same_le out) in
      let fixed = ranges.fixed in
      let ends : end_of day t ≡ trip.end.0 = ends_at t trip trip_is in
      let few : m ≤ 100000000 + 10000 * out = omega (arith, same, moves, fixed) in
      (omega (arith, ints, ends, few, leaves, order), omega (arith, ints, ends, begins, order), omega (arith, ints, ends, in_time))

  added_low : (t u m : ℕ) → IsPool pool → All IsDaily day.trips → added day pool t u ≡ Some m →
      (pos (1000 * m) ≤ℤ (pos 10000000 *ℤ (end_of day u -ℤ end_of day t))) × (end_of day u ≤ℤ pos 172800)
  added_low t u m ranges daily e =
      let (trip, trip_is, e1) =
      and_then_some (λ (trip : Trip). with_trip day u
      (λ next. given (nat_lt t u)
      (given (admits day next.line pool.typ) (option_map (λ l. link_cost pool next l) (link day pool trip next)))))
      (slice_get day.trips t) m e in
      let (next, next_is, e2) =
      and_then_some (λ (next : Trip). given (nat_lt t u)
      (given (admits day next.line pool.typ) (option_map (λ l. link_cost pool next l) (link day pool trip next))))
      (slice_get day.trips u) m e1 in
      let (later, e3) = given_both (nat_lt t u)
      (given (admits day next.line pool.typ) (option_map (λ l. link_cost pool next l) (link day pool trip next))) m e2 in
      let (admitted, e4) = given_both (admits day next.line pool.typ)
      (option_map (λ l. link_cost pool next l) (link day pool trip next)) m e3 in
      let (l, linked, same) = map_some (λ (l : Link). link_cost pool next l) (link day pool trip next) m e4 in
      let fits = link_fits day pool trip next l linked in
      let few = cost_few next l ranges in
      let d = trip_daily u next next_is daily in
      let order = d.order in
      let in_time = d.ends in
      let ends : end_of day t ≡ trip.end.0 = ends_at t trip trip_is in
      let ends' : end_of day u ≡ next.end.0 = ends_at u next next_is in
      (omega (arith, ints, fits, few, same, order, ends, ends'), omega (arith, ints, ends', in_time))

  -- Without prices the value of an open block is at most the greatest fixed cost and all seconds until the end of its last trip at
  -- the highest rate. The bound grows with time: a connection and the trip behind it cost no more than the time from the one trip's
  -- end to the other's at that rate (`added_low`), and so do the pull-out and the first trip. So the worth of each written-out block
  -- is small enough for the machine, however many trips it has.
  pub opening_low : All IsDaily day.trips → IsPool pool → IsSafe (opening day counts [] pool) (IsLow day)
  opening_low daily ranges = record {
    starts = λ t a e.
        let (step, is, same) = map_some (begun_open counts [] t) (first_step day pool t) a e in
        let (cost, driving) = joined_parts (begun day pool t) (driven_first day pool t) step is in
        let (few, begins, in_time) = begun_low t step.cost ranges daily cost in
        let (low, high) = first_few step.cost in
        let fits : IsLow day (begun_open counts [] t step) = record {
          least = omega (arith, ints, low);
          most = most_first step.cost t few begins;
          in_time = in_time;
        } in
        let P : OpenBlock → Type 0 = IsLow day in
        subst P same fits;
    steps = λ a b u low e.
        let (step, is, same) = map_some (next_open counts [] a u) (next_step day pool a.driving a.trip u) b e in
        let (cost, driving) = joined_parts (added day pool a.trip u) (driven_on day pool a.driving a.trip u) step is in
        let (few, in_time) = added_low a.trip u step.cost ranges daily cost in
        let (least, high) = scaled_few step.cost in
        let a_least = low.least in
        let a_most = low.most in
        let fits : IsLow day (next_open counts [] a u step) = record {
          least = omega (arith, ints, least, a_least);
          most = omega (arith, ints, high, a_most, few);
          in_time = in_time;
        } in
        let P : OpenBlock → Type 0 = IsLow day in
        subst P same fits;
  }
    where
      most_first : (m t : ℕ) → pos (1000 * m) ≤ℤ (pos 100000000000 +ℤ (pos 10000000 *ℤ end_of day t)) → pos 0 ≤ℤ end_of day t →
          (first_scaled counts m -ℤ pos 0) ≤ℤ (pos 100000000000 +ℤ (pos 10000000 *ℤ end_of day t))
      most_first m t few begins =
          elim counts as (λ z. (first_scaled z m -ℤ pos 0) ≤ℤ (pos 100000000000 +ℤ (pos 10000000 *ℤ end_of day t))) [
            | true ↦ omega (arith, ints, begins)
            | false ↦ omega (arith, ints, few)
          ]
