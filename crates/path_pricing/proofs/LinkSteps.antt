-- The bound behind a trip, connection by connection.
use Rattle.std.proofs.Common.{◌≡◌, ℕ, ℤ, pos, neg_ℤ, ◌+◌, ◌-◌, ◌*◌, ◌+ℤ◌, ◌-ℤ◌, ◌≤ℤ◌, ◌<◌, inl, inr, Bool, List, length, Some, sym, subst, ap, ◌∙◌, arith, slice_set}
use Rattle.std.proofs.Math.Nat.{eq-or-lt_of_le}
use Rattle.std.proofs.lemmas.Bool.{cases_lt}
use Rattle.std.proofs.lemmas.Int.{ints}
use Rattle.plan_core.specs.declared.Price.{Price}
use Rattle.cover_core.specs.Plans.{number_at, price_at}
use Rattle.plan_params.specs.declared.rows.pool.Pool.{Pool}
use Rattle.day_model.specs.Facts.{DayFacts}
use Rattle.depot_network.specs.Open.{scaled}
use Rattle.depot_network.specs.Walk.{added}
use Rattle.path_pricing.specs.Blocks.{IsDeep, StepsAbove}
use Rattle.path_pricing.specs.Lows.{AreLows, IsLowOver}
use Rattle.path_pricing.proofs.Cells.{number_other, number_set}
use Rattle.path_pricing.proofs.Places.{scaled_up}

-- a rest over a connection is deep
pub deep_over : (count t u : ℕ) (least cost price rest shown sum low : ℤ) → t < u → u < count → IsDeep count t least → IsDeep count u rest →
    pos 0 ≤ℤ cost → price ≤ℤ pos 10000000000000 →
    shown ≡ rest → sum ≡ cost -ℤ price +ℤ shown → low ≤ℤ least → ((x : ℤ) → x ≤ℤ least → x ≤ℤ sum → x ≤ℤ low) → IsDeep count t low
deep_over count t u least cost price rest shown sum low later there own behind up cheap same is first both =
    let own_low = own.low in
    let own_high = own.high in
    let behind_low = behind.low in
    record {
      low = both (neg_ℤ (pos (10000000000000 * (count - t)))) own_low (omega (arith, ints, later, there, behind_low, up, cheap, same, is));
      high = omega (arith, ints, first, own_high);
    }

-- one trip more is looked at
pub steps_more : (day : DayFacts) (counts : Bool) (prices : List Price) (pool : Pool) (rests : List ℤ) (t end : ℕ) (least low : ℤ) →
    low ≤ℤ least →
    ((cost : ℕ) → added day pool t end ≡ Some cost → low ≤ℤ (scaled counts cost -ℤ price_at prices end +ℤ number_at rests end)) →
    StepsAbove day counts prices pool rests t end least → StepsAbove day counts prices pool rests t (end + 1) low
steps_more day counts prices pool rests t end least low first here before u cost within linked =
    elim (eq-or-lt_of_le {n = u} {m = end} (omega (arith, within))) [
      | inl same ↦
          let P : ℕ → Type 0 = λ i. added day pool t i ≡ Some cost →
          low ≤ℤ (scaled counts cost -ℤ price_at prices i +ℤ number_at rests i) in
          subst P (sym same) (here cost) linked
      | inr other ↦ let old = before u cost other linked in omega (arith, ints, old, first)
    ]

-- The walk over connections may stop early: a connection costs at least nothing, so it adds at least what its trip gives, the rest
-- less the price. Once the least that any of the trips left gives is not below the bound so far, no connection to one of them adds
-- less: these trips need no look.
pub steps_past : (day : DayFacts) (counts : Bool) (prices : List Price) (pool : Pool) (rests : List ℤ) (t from : ℕ) (least low : ℤ) →
    least ≤ℤ low →
    IsLowOver prices rests from (length day.trips) low → StepsAbove day counts prices pool rests t from least →
    StepsAbove day counts prices pool rests t (length day.trips) least
steps_past day counts prices pool rests t from least low below over before u cost within linked =
    elim (cases_lt u from) [
      | inl early ↦ before u cost early linked
      | inr late ↦ let own = over u late within in let up = scaled_up counts cost in omega (arith, ints, below, own, up)
    ]

-- The number that tells when to stop is made along with the rests, from the last trip back: it is the least of itself and what the
-- trip just made gives, so none of the trips from here on gives less.
pub low_set : (prices : List Price) (rests : List ℤ) (k end : ℕ) (v low new : ℤ) → k < length rests → new ≤ℤ low →
    new ≤ℤ (v -ℤ price_at prices k) →
    IsLowOver prices rests (k + 1) end low → IsLowOver prices (slice_set rests k v) k end new
low_set prices rests k end v low new there first second over u from before =
    elim (eq-or-lt_of_le {n = k} {m = u} from) [
      | inl same ↦
          let is : number_at (slice_set rests k v) u ≡ v = ap (number_at (slice_set rests k v)) (sym same) ∙ number_set rests k v there in
          let price : price_at prices u ≡ price_at prices k = ap (price_at prices) (sym same) in
          omega (arith, ints, is, price, second)
      | inr other ↦
          let is = number_other rests k u v (λ same. absurd (omega (arith, other, same))) in
          let old = over u (omega (arith, other)) before in
          omega (arith, ints, is, old, first)
    ]

pub lows_set : (prices : List Price) (rests lows : List ℤ) (k end : ℕ) (v new : ℤ) → k < length lows →
    IsLowOver prices (slice_set rests k v) k end new →
    AreLows prices rests lows (k + 1) end → AreLows prices (slice_set rests k v) (slice_set lows k new) k end
lows_set prices rests lows k end v new there over are u from before =
    elim (eq-or-lt_of_le {n = k} {m = u} from) [
      | inl same ↦
          let is : number_at (slice_set lows k new) u ≡ new =
          ap (number_at (slice_set lows k new)) (sym same) ∙ number_set lows k new there in
          λ w up within. (let own = over w (omega (arith, up, from)) within in omega (arith, ints, is, own))
      | inr other ↦
          let is = number_other lows k u new (λ same. absurd (omega (arith, other, same))) in
          λ w up within. (
          let old = are u (omega (arith, other)) before w up within in
          let rest = number_other rests k w v (λ same. absurd (omega (arith, up, other, same))) in
          omega (arith, ints, is, old, rest))
    ]
