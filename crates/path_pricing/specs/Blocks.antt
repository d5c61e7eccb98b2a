-- Promise: the labels of the open blocks of a pool whose first trips are a range, and what no continuation of them adds less than.
use Rattle.std.specs.Prelude.{◌≡◌, ℕ, ℤ, pos, neg_ℤ, ◌-◌, ◌*◌, ◌<◌, ◌≤◌, ◌+ℤ◌, ◌-ℤ◌, ◌≤ℤ◌, Bool, List, [], ◌∷◌, length, Some}
use Rattle.std.specs.Coded.{Unit-prop}
use Rattle.std.proofs.Props.{props}
use Rattle.plan_core.specs.Limits.{most_price}
use Rattle.plan_core.specs.declared.Price.{Price}
use Rattle.cover_core.specs.FirstLeast.{AllWithin}
use Rattle.cover_core.specs.Labels.{Labelling}
use Rattle.cover_core.specs.Plans.{number_at, price_at}
use Rattle.plan_params.specs.declared.rows.pool.Pool.{Pool}
use Rattle.day_model.specs.Facts.{DayFacts}
use Rattle.label_search.specs.Pricing.{of_range}
use Rattle.depot_network.specs.declared.open.OpenBlock.{OpenBlock}
use Rattle.depot_network.specs.Open.{OpenFits, opening, scaled}
use Rattle.depot_network.specs.Walk.{added, ended}

-- the labels of the open blocks whose first trip is one from a first one on and before an end
abbrev pub block_labels : DayFacts → Bool → List Price → Pool → ℕ → ℕ → Labelling OpenBlock
block_labels day counts prices pool first end = of_range (opening day counts prices pool) first end

-- what a block closes with at least: its value and the rest behind its last trip
abbrev pub floor_of : List ℤ → OpenBlock → ℤ
floor_of rests a = a.value +ℤ number_at rests a.trip

-- no pull-in behind a trip adds less than a number
abbrev pub ClosesAbove : DayFacts → Bool → Pool → ℕ → ℤ → Type 0
ClosesAbove day counts pool t least = (cost : ℕ) → ended day pool t ≡ Some cost → least ≤ℤ scaled counts cost

-- no connection from a trip to one before the end adds less, with the rest behind that
abbrev pub StepsAbove : DayFacts → Bool → List Price → Pool → List ℤ → ℕ → ℕ → ℤ → Type 0
StepsAbove day counts prices pool rests t end least =
    (u cost : ℕ) → u < end → added day pool t u ≡ Some cost → least ≤ℤ (scaled counts cost -ℤ price_at prices u +ℤ number_at rests u)

-- a rest is no lower than what the later trips' prices can take off, and not far above
pub record IsDeep (count t : ℕ) (rest : ℤ) : Type 0 where
  pub low : neg_ℤ (pos (most_price * (count - t))) ≤ℤ rest
  pub high : rest ≤ℤ pos 100000000000000000

-- For each trip from one on a rest that no continuation adds less than: the pull-in does not, nor does a connection to a later trip with
-- the rest behind that. It knows nothing of what may be driven between two cuts.
pub record AreBoundsFrom (day : DayFacts) (counts : Bool) (prices : List Price) (pool : Pool) (rests : List ℤ) (from : ℕ) : Type 0 where
  pub closes : (t : ℕ) → from ≤ t → ClosesAbove day counts pool t (number_at rests t)
  pub steps : (t : ℕ) → from ≤ t → StepsAbove day counts prices pool rests t (length day.trips) (number_at rests t)
  pub deep : (t : ℕ) → from ≤ t → IsDeep (length day.trips) t (number_at rests t)

-- the label of a list of the range: its trips are not before the range's first one
pub record IsInRange (count first : ℕ) (a : OpenBlock) : Type 0 where
  pub fits : OpenFits count a
  pub from : first ≤ a.trip

pub AllWithin-prop : (n : ℕ) (prices : List Price) → IsProp (AllWithin n prices)
AllWithin-prop n [] = Unit-prop
AllWithin-prop n (x ∷ xs) = hlevel (props, AllWithin-prop n xs)
