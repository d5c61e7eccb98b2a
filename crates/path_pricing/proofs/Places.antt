-- The rests behind trips are bounds.
use Rattle.std.proofs.Common.{◌≡◌, ℕ, ℤ, pos, neg_ℤ, true, false, ◌+◌, ◌-◌, ◌*◌, ◌+ℤ◌, ◌-ℤ◌, ◌≤ℤ◌, ◌<◌, inl, inr, Bool, List, length, Some, refl, sym, subst, ap, ◌∙◌, arith, slice_get, slice_index_or, slice_set, zero, suc, [], ◌∷◌}
use Rattle.std.proofs.Math.Nat.{eq-or-lt_of_le}
use Rattle.std.proofs.lemmas.Int.{ints}
use Rattle.std.specs.Int.RustNames.{unsigned_abs}
use Rattle.std.specs.Option.{option_map}
use Rattle.std.proofs.lemmas.Option.{slice_get_within}
use Rattle.plan_core.specs.declared.Price.{Price}
use Rattle.cover_core.specs.FirstLeast.{AllWithin}
use Rattle.cover_core.specs.Plans.{number_at, price_at}
use Rattle.cover_core.proofs.Values.{price_at-within}
use Rattle.trip_times.specs.declared.trip.Trip.{Trip}
use Rattle.day_model.specs.Links.{pull_in}
use Rattle.depot_network.proofs.Bounds.{and_then_some}
use Rattle.plan_params.specs.declared.rows.pool.Pool.{Pool}
use Rattle.day_model.specs.Facts.{DayFacts}
use Rattle.label_search.proofs.Losses.{number-none}
use Rattle.depot_network.specs.Network.{caps_of}
use Rattle.depot_network.specs.Open.{scaled}
use Rattle.depot_network.specs.Walk.{added, ended}
use Rattle.depot_network.proofs.Opens.{added_parts}
use Rattle.path_pricing.specs.Blocks.{AreBoundsFrom, ClosesAbove, IsDeep, StepsAbove}
use Rattle.path_pricing.specs.Points.{PointsAbove, passed_value, stand_rate_at, stood_until, stood_value}
use Rattle.path_pricing.specs.Rows.{AreBelow}
use Rattle.path_pricing.proofs.Cells.{number_other, number_set}

get_there : {A : Type 0} (xs : List A) (k : ℕ) (d : A) → k < length xs → slice_get xs k ≡ Some (slice_index_or xs k d)
get_there [] k d h = absurd (omega arith)
get_there (x ∷ xs) zero d h = refl
get_there (x ∷ xs) (suc k) d h = get_there xs k d (omega arith)

caps_length : (pools : List Pool) → length (caps_of pools) ≡ length pools
caps_length [] = refl
caps_length (p ∷ ps) = omega (arith, caps_length ps)

abbrev pub no_pool : Pool
no_pool = record { number = 0; depot = record { typ = 0; nr = 0 }; typ = 0; cap = 0; fixed = 0; dead_rate = 0; stand_rate = 0 }

pub pool_there : (pools shown : List Pool) (class : ℕ) (d : Pool) → shown ≡ pools → class < length (caps_of pools) →
    slice_get pools class ≡ Some (slice_index_or shown class d)
pool_there pools shown class d same h = let P : List Pool → Type 0 = λ l. slice_get pools class ≡ Some (slice_index_or l class d) in
    subst P (sym same) (get_there pools class d (omega (arith, h, caps_length pools)))

-- The rest of one trip more is made, from the last trip back: what is known of the later trips speaks of still later ones only, so
-- it is not touched, and of this trip it is what was found, since all its connections go to later trips. At the first trip the rests
-- are bounds of each continuation; with these the search cuts off by its limit.
pub rests_set : (day : DayFacts) (counts : Bool) (prices : List Price) (pool : Pool) (rests : List ℤ) (k : ℕ) (v : ℤ) → k < length rests →
    ClosesAbove day counts pool k v → StepsAbove day counts prices pool rests k (length day.trips) v → IsDeep (length day.trips) k v →
    AreBoundsFrom day counts prices pool rests (k + 1) → AreBoundsFrom day counts prices pool (slice_set rests k v) k
rests_set day counts prices pool rests k v within closes steps deep made =
    let new : List ℤ = slice_set rests k v in
    let here : number_at new k ≡ v = number_set rests k v within in
    let later : (t : ℕ) → k < t → number_at new t ≡ number_at rests t =
    λ t h. number_other rests k t v (λ same. absurd (omega (arith, h, same))) in
    record {
      closes = λ t from. elim (eq-or-lt_of_le {n = k} {m = t} from) [
        | inl same ↦ let P : ℤ → Type 0 = λ z. ClosesAbove day counts pool k z in
            let Q : ℕ → Type 0 = λ i. ClosesAbove day counts pool i (number_at new i) in subst Q same (subst P (sym here) closes)
        | inr other ↦ let P : ℤ → Type 0 = λ z. ClosesAbove day counts pool t z in
            subst P (sym (later t other)) (made.closes t (omega (arith, other)))
      ];
      steps = λ t from u cost before linked.
          let (up, there) = added_parts day counts prices pool t u cost linked in
          let behind = later u (omega (arith, from, up)) in
          elim (eq-or-lt_of_le {n = k} {m = t} from) [
            | inl same ↦
                let P : ℕ → Type 0 = λ i. added day pool i u ≡ Some cost in
                let low = steps u cost before (subst P (sym same) linked) in
                let is : number_at new t ≡ v = ap (number_at new) (sym same) ∙ here in
                omega (arith, ints, low, is, behind)
            | inr other ↦
                let low = made.steps t (omega (arith, other)) u cost before linked in
                let is = later t other in
                omega (arith, ints, low, is, behind)
          ];
      deep = λ t from. elim (eq-or-lt_of_le {n = k} {m = t} from) [
        | inl same ↦ let P : ℤ → Type 0 = λ z. IsDeep (length day.trips) k z in
            let Q : ℕ → Type 0 = λ i. IsDeep (length day.trips) i (number_at new i) in subst Q same (subst P (sym here) deep)
        | inr other ↦ let P : ℤ → Type 0 = λ z. IsDeep (length day.trips) t z in
            subst P (sym (later t other)) (made.deep t (omega (arith, other)))
      ];
    }

-- past the last trip there is nothing to add
pub rests_end : (day : DayFacts) (counts : Bool) (prices : List Price) (pool : Pool) (rests : List ℤ) → length rests ≡ length day.trips →
    AreBoundsFrom day counts prices pool rests (length day.trips)
rests_end day counts prices pool rests long = record {
  closes = λ t from cost e. absurd (let there = ended_within t cost e in omega (arith, from, there));
  steps = λ t from u cost before linked. absurd (let (later, there) = added_parts day counts prices pool t u cost linked in
      omega (arith, from, later, there));
  deep = λ t from. let none = number-none rests t (omega (arith, from, long)) in
      record { low = omega (arith, ints, none); high = omega (arith, ints, none) };
}
  where
    ended_within : (t cost : ℕ) → ended day pool t ≡ Some cost → t < length day.trips
    ended_within t cost e =
        let (trip, there, e1) =
        and_then_some (λ (trip : Trip). option_map (λ inward. pool.dead_rate * inward) (pull_in day pool trip))
        (slice_get day.trips t) cost e in
        slice_get_within day.trips t trip there

-- What is known with all points is known of all connections. It is deep, since a connection takes off no more than the price of its trip
-- and what is deep behind that.
pub scaled_up : (counts : Bool) (cost : ℕ) → pos 0 ≤ℤ scaled counts cost
scaled_up true cost = omega (arith, ints)
scaled_up false cost = omega (arith, ints)

module _ (day : DayFacts) (counts : Bool) (prices : List Price) (pool : Pool) (rests : List ℤ) where
  -- A rest may be raised to minus the greatest prices of all later trips, where it was below: no continuation takes off more than
  -- these, as costs are not below 0 and each later trip takes off one price. What is said of all points is said of each connection,
  -- as each trip begins at one of them. It keeps rests in range for the machine, even where no connection goes on.
  pub settled_steps : (t width : ℕ) (numbers : List ℕ) (least low : ℤ) → AllWithin 10000000000000 prices →
      AreBelow width numbers (length day.trips) →
      ((u : ℕ) → t < u → IsDeep (length day.trips) u (number_at rests u)) →
      ((x : ℤ) → least ≤ℤ x → neg_ℤ (pos (10000000000000 * (length day.trips - t))) ≤ℤ x → low ≤ℤ x) →
      PointsAbove day counts prices pool rests numbers t width least → StepsAbove day counts prices pool rests t (length day.trips) low
  settled_steps t width numbers least low cheap below deep both points u cost within linked =
      let (later, there) = added_parts day counts prices pool t u cost linked in
      let adds = points u cost (below u within) linked in
      let price = price_at-within 10000000000000 prices u cheap in
      let price_high = price.high in
      let up = scaled_up counts cost in
      let own = deep u later in
      let own_low = own.low in
      both _ adds (omega (arith, ints, price_high, up, own_low, later, within))

  pub settled_closes : (t : ℕ) (least low : ℤ) →
      ((x : ℤ) → least ≤ℤ x → neg_ℤ (pos (10000000000000 * (length day.trips - t))) ≤ℤ x → low ≤ℤ x) →
      ClosesAbove day counts pool t least → ClosesAbove day counts pool t low
  settled_closes t least low both closes cost e =
      let up = scaled_up counts cost in
      both _ (closes cost e) (omega (arith, ints, up))

  -- later trips' values are as they were
  pub passed_same : (k u : ℕ) (v : ℤ) → k < u → passed_value prices (slice_set rests k v) u ≡ passed_value prices rests u
  passed_same k u v later = let is = number_other rests k u v (λ same. absurd (omega (arith, later, same))) in
      ap (λ z. z -ℤ price_at prices u) is

  pub stood_same : (k u : ℕ) (v : ℤ) → k < u →
      stood_value day counts prices pool (slice_set rests k v) u ≡ stood_value day counts prices pool rests u
  stood_same k u v later = let is = passed_same k u v later in omega (arith, ints, is)

  -- the values of the trip whose rest is made
  pub own_passed : (k : ℕ) (v value : ℤ) → k < length rests → value ≡ v -ℤ price_at prices k →
      value ≡ passed_value prices (slice_set rests k v) k
  own_passed k v value there is = let own = number_set rests k v there in is ∙ ap (λ z. z -ℤ price_at prices k) (sym own)

  pub own_stood : (k : ℕ) (trip : Trip) (v before until value : ℤ) → k < length rests → slice_get day.trips k ≡ Some trip →
      before ≡ v -ℤ price_at prices k →
      until ≡ scaled counts (stand_rate_at pool trip * unsigned_abs trip.begin.0) → value ≡ before +ℤ until →
      value ≡ stood_value day counts prices pool (slice_set rests k v) k
  own_stood k trip v before until value there at is stands all =
      let own = own_passed k v before there is in
      let stood : stood_until counts pool (slice_get day.trips k) ≡ scaled counts (stand_rate_at pool trip * unsigned_abs trip.begin.0) =
      rw at refl in
      omega (arith, ints, own, stands, all, stood)
