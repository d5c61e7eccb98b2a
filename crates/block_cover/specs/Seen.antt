-- Promise: open blocks as marks, and the numbers of the marks of open blocks.
use Rattle.std.specs.Prelude.{ℕ, pos, neg_ℤ, ◌+◌, ◌*◌, ◌<◌, ◌≤◌, ◌≤ℤ◌, List, [], ◌∷◌}
use Rattle.std.specs.Ordering.{nat_cmp, int_cmp, ordering_then}
use Rattle.std.specs.declared.cmp.Ordering.{Ordering}
use Rattle.std.specs.Coded.{Unit-prop}
use Rattle.std.proofs.Props.{props}
use Rattle.plan_core.specs.declared.Price.{Price}
use Rattle.cover_core.specs.FirstLeast.{AllWithin}
use Rattle.cover_core.specs.declared.marks.BlockMark.{BlockMark}
use Rattle.day_model.specs.Pieces.{longest_driving}
use Rattle.depot_network.specs.BlockMarks.{mark}
use Rattle.block_cover.specs.declared.made.OpenMark.{OpenMark}

-- the mark of an open block
abbrev pub seen_mark : OpenMark → BlockMark
seen_mark made = mark made.class made.trip made.driving made.value

-- marks by their fields: class, trip, driving, value
abbrev pub mark_order : BlockMark → BlockMark → Ordering
mark_order a b = ordering_then (nat_cmp a.class b.class)
    (ordering_then (nat_cmp a.trip b.trip) (ordering_then (nat_cmp a.driving b.driving) (int_cmp a.value b.value)))

-- The trip is one of so many, the driving keeps the limit, and the value is at most 3,002,000,000,000,000 for each trip so far, above or
-- below 0: a price is at most 3,000,000,000,000,000, and a trip adds less than 2,000,000,000,000 to the costs.
pub record MarkFits (count : ℕ) (a : BlockMark) : Type 0 where
  pub trip : a.trip < count
  pub driving : a.driving ≤ longest_driving
  pub low : neg_ℤ (pos (3002000000000000 * (a.trip + 1))) ≤ℤ a.value
  pub high : a.value ≤ℤ pos (3002000000000000 * (a.trip + 1))

pub AllWithin-prop : (n : ℕ) (prices : List Price) → IsProp (AllWithin n prices)
AllWithin-prop n [] = Unit-prop
AllWithin-prop n (x ∷ xs) = hlevel (props, AllWithin-prop n xs)
