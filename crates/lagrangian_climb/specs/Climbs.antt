-- Promise: the ranges of a climb.
use Rattle.std.specs.Prelude.{◌≡◌, ℕ, ℤ, pos, neg_ℤ, ◌≤ℤ◌, ◌<◌, ◌≤◌, List, [], ◌∷◌, length}
use Rattle.plan_core.specs.Limits.{most_price}
use Rattle.cover_core.specs.declared.Prices.{Prices}
use Rattle.cover_core.specs.FirstLeast.{AllWithin}
use Rattle.lagrangian_climb.specs.declared.vectors.Span.{Span}
use Rattle.lagrangian_climb.specs.declared.climbing.Peak.{Peak}
use Rattle.lagrangian_climb.specs.declared.climbing.Ascent.{Ascent}
use Rattle.lagrangian_climb.specs.Choices.{AreAsked}

-- each number is from -n to n
abbrev pub AreNear : ℕ → List ℤ → Type 0
AreNear n [] = Unit {0}
AreNear n (z ∷ zs) = (neg_ℤ (pos n) ≤ℤ z) × (z ≤ℤ pos n) × AreNear n zs

-- each span is from a low number to a high one, within 10,000,000,000,000
abbrev pub AreSpans : List Span → Type 0
AreSpans [] = Unit {0}
AreSpans (s ∷ ss) = (neg_ℤ (pos most_price) ≤ℤ s.low) × (s.low ≤ℤ s.high) × (s.high ≤ℤ pos most_price) × AreSpans ss

-- so many prices, each within 10,000,000,000,000
pub record IsPriced (items : ℕ) (prices : Prices) : Type 0 where
  pub len : length prices.items ≡ items
  pub moderate : AllWithin most_price prices.items

-- prices with what classes ask, and a Lagrangian in range
pub record IsPeak (items places : ℕ) (peak : Peak) : Type 0 where
  pub prices : IsPriced items peak.prices
  pub classes : length peak.class_prices ≡ places
  pub asked : AreAsked peak.class_prices
  pub low : neg_ℤ (pos 10000000000000000000000) ≤ℤ peak.bound
  pub high : peak.bound ≤ℤ pos 10000000000000000000000
  pub pace : peak.pace ≤ 512

-- a climb over so many items, classes and columns
pub record IsAscent (items classes columns : ℕ) (ascent : Ascent) : Type 0 where
  pub prices : IsPriced items ascent.prices
  pub directions : length ascent.directions ≡ items
  pub near : AreNear 1600000 ascent.directions
  pub idle : ascent.idle < 20
  pub pace : ascent.pace ≤ 512
  pub peak : IsPeak items classes ascent.peak
  pub counts : length ascent.counts ≡ columns
