-- Promise: the ranges of what an estimate is made from.
use Rattle.std.specs.Prelude.{ℕ, ℤ, pos, neg_ℤ, ◌≤ℤ◌, ◌≤◌, List, [], ◌∷◌}
use Rattle.plan_core.specs.Limits.{most_places}
use Rattle.offer_estimate.specs.declared.scales.Scale.{Scale}

-- each least value is from -30,000,000,000,000,000 to 0
abbrev pub AreLeasts : List ℤ → Type 0
AreLeasts [] = Unit {0}
AreLeasts (z ∷ zs) = (neg_ℤ (pos 30000000000000000) ≤ℤ z) × (z ≤ℤ pos 0) × AreLeasts zs

-- each least worth of an item alone, in thousandths, is from 1 to 4,000,000,000,000
abbrev pub AreWorths : List ℤ → Type 0
AreWorths [] = Unit {0}
AreWorths (z ∷ zs) = (pos 1 ≤ℤ z) × (z ≤ℤ pos 4000000000000) × AreWorths zs

-- a part of a whole, at least 1
pub record IsScale (scale : Scale) : Type 0 where
  pub some : pos 1 ≤ℤ scale.part
  pub ordered : scale.part ≤ℤ scale.whole
  pub part : scale.part ≤ℤ pos 4000000000000
  pub whole : scale.whole ≤ℤ pos 40000000000000000

-- each cap is at most 10,000
abbrev pub AreCaps : List ℕ → Type 0
AreCaps [] = Unit {0}
AreCaps (c ∷ cs) = (c ≤ most_places) × AreCaps cs
