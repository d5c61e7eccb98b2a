-- Promise: the ranges of the numbers of marks.
use Rattle.std.specs.Prelude.{ℕ, ℤ, pos, neg_ℤ, ◌≤◌, ◌<◌, ◌≤ℤ◌, ◌+◌, ◌*◌, List, [], ◌∷◌}
use Rattle.std.proofs.Props.{props}
use Rattle.std.specs.Coded.{Unit-prop}
use Rattle.plan_core.specs.Limits.{most_items, most_kept_price}
use Rattle.plan_core.specs.declared.types.Price.{Price}
use Rattle.cover_core.specs.declared.marks.Mark.{Mark}
use Rattle.cover_core.specs.FirstLeast.{AllWithin}

-- the numbers of the mark of an open list of `count` pieces, under prices of which none is further from 0 than 3 * 10^15
pub record MarkHasRanges (count : ℕ) (m : Mark) : Type 0 where
  pub piece : m.piece < count
  pub few : count ≤ most_items
  pub early : neg_ℤ (pos 345600) ≤ℤ m.start.0
  pub late : m.start.0 ≤ℤ pos 345600
  pub driving : m.driving ≤ 16200
  pub total : m.total ≤ 36000
  pub low : neg_ℤ (pos (7000000000000 + most_kept_price * (m.piece + 1))) ≤ℤ m.value
  pub high : m.value ≤ℤ pos (7000000000000 + most_kept_price * (m.piece + 1))

pub AllWithin-prop : (n : ℕ) (prices : List Price) → IsProp (AllWithin n prices)
AllWithin-prop n [] = Unit-prop
AllWithin-prop n (x ∷ xs) = hlevel (props, AllWithin-prop n xs)
