-- Promise: the ranges of sums over links.
use Rattle.std.specs.Prelude.{ℕ, ℤ, pos, neg_ℤ, ◌≤ℤ◌, ◌+◌, ◌*◌, ◌<◌, ◌≤◌, Bool, not, ◌&&◌, ◌||◌, int_lt, List, length, slice_index_or}
use Rattle.column_weave.specs.declared.sums.Least.{Least}
use Rattle.column_weave.specs.declared.link.Link.{Link}

-- the least list that ends in this item: its sum is within 20,000,000,000,000 for each item up to it, and the item before is an earlier one
pub record IsSummed (item : ℕ) (l : Least) : Type 0 where
  pub low : neg_ℤ (pos (20000000000000 * (item + 1))) ≤ℤ l.sum
  pub high : l.sum ≤ℤ pos (20000000000000 * (item + 1))
  pub before : l.before ≤ item

-- so is each of a list, at its item
abbrev pub AreSummed : List Least → Type 0
AreSummed least = (i : ℕ) (d : Least) → i < length least → IsSummed i (slice_index_or least i d)

-- a list into an item, before the item's price is taken off
pub record IsOpen (items : ℕ) (l : Least) : Type 0 where
  pub low : neg_ℤ (pos (20000000000000 * items + 4000000000000)) ≤ℤ l.sum
  pub high : l.sum ≤ℤ pos (20000000000000 * items + 4000000000000)
  pub before : l.before ≤ items

-- a link into an item comes from an earlier one, and its rise is within 4,000,000,000,000
pub record IsReach (item : ℕ) (link : Link) : Type 0 where
  pub from : link.from < item
  pub low : neg_ℤ (pos 4000000000000) ≤ℤ link.rise
  pub high : link.rise ≤ℤ pos 4000000000000

-- whether a list is there and less than another, or that is not there
abbrev pub is_less : Least → Least → Bool
is_less next best = next.known && (not best.known || int_lt next.sum best.sum)
