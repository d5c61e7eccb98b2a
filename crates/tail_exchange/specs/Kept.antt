-- Inner: what is kept of the swaps of each column between steps.
use Rattle.std.specs.Prelude.{◌≡◌, ◌≢◌, ◌==◌, ℕ, ◌+◌, ◌-◌, ◌<◌, nat_lt, Bool, false, ◌||◌, cond, List, [], length, Option, Some, None, IfSome, slice_index_or}
use Rattle.std.specs.List.{Contains}
use Rattle.std.specs.declared.cmp.Ordering.TheVariants.{Less}
use Rattle.rayon.specs.Lists.{IsLeast}
use Rattle.cover_core.specs.declared.Column.{Column}
use Rattle.cover_core.specs.Cover.{Problem}
use Rattle.cover_core.specs.Parts.{column_at}
use Rattle.tail_exchange.specs.declared.candidate.Candidate.{Candidate}
use Rattle.tail_exchange.specs.Order.{candidate_cmp}
use Rattle.tail_exchange.specs.Exchange.{swaps_of, all_swaps_of}

-- the least swap that is kept for a column, if it has one
abbrev pub least_at : List (Option Candidate) → ℕ → Option Candidate
least_at leasts a = slice_index_or leasts a None

-- the least swap of each column with those behind it
pub record ShowsLeasts (p : Problem) (columns : List Column) (leasts : List (Option Candidate)) : Type 0 where
  pub len : length leasts ≡ length columns
  pub shown : (a : ℕ) → a < length columns → IsLeast candidate_cmp (all_swaps_of p columns a) (least_at leasts a)

-- where a column stood before one vanished, and where it stands after
abbrev pub place_before : ℕ → ℕ → ℕ
place_before gone k = cond (nat_lt k gone) k (k + 1)

abbrev pub place_after : ℕ → ℕ → ℕ
place_after gone k = cond (nat_lt gone k) (k - 1) k

-- columns before and after a step: those after it stood before it, but x and y, and those before it stand after it, but the one that
-- has vanished; gone is past the end where none has
pub record IsMoved (old new : List Column) (gone x y : ℕ) : Type 0 where
  pub first : x < length new
  pub second : y < length new
  pub stood : (k : ℕ) → k < length new → k ≢ x → k ≢ y → place_before gone k < length old
  pub same : (k : ℕ) → k < length new → k ≢ x → k ≢ y → column_at new k ≡ column_at old (place_before gone k)
  pub stands : (k : ℕ) → k < length old → k ≢ gone → place_after gone k < length new

-- a kept swap by the places after a step; a swap with the vanished column becomes one with column x
abbrev pub moved_swap : ℕ → ℕ → Candidate → Candidate
moved_swap gone x c = record c { a = place_after gone c.a; b = cond (c.b == gone) x (place_after gone c.b) }

abbrev pub moved_least : ℕ → ℕ → Option Candidate → Option Candidate
moved_least gone x None = None
moved_least gone x (Some c) = Some (moved_swap gone x c)

-- what was kept for a column before a step
abbrev pub kept_at : ℕ → ℕ → List (Option Candidate) → ℕ → Option Candidate
kept_at gone x leasts a = moved_least gone x (least_at leasts (place_before gone a))

-- whether a kept swap is one with column x or y
abbrev pub swaps_with : ℕ → ℕ → Option Candidate → Bool
swaps_with x y None = false
swaps_with x y (Some c) = (c.b == x) || (c.b == y)

-- whether what is kept for column a says nothing any more once columns x and y have changed
abbrev pub is_stale : ℕ → ℕ → ℕ → Option Candidate → Bool
is_stale x y a least = (a == x) || ((a == y) || swaps_with x y least)

-- the swaps of column a with column b, where that stands behind it
abbrev pub swaps_behind : Problem → List Column → ℕ → ℕ → List Candidate
swaps_behind p columns a b = cond (nat_lt a b) (swaps_of p columns a b) []

-- a candidate is not before the least one
abbrev pub IsNotBefore : Candidate → Option Candidate → Type 0
IsNotBefore c None = ⊥
IsNotBefore c (Some least) = candidate_cmp c least ≢ Less

-- a swap of column a, if it has one, that none of its swaps with other columns than x and y is before
pub record IsLeastOfOthers (p : Problem) (columns : List Column) (x y a : ℕ) (least : Option Candidate) : Type 0 where
  pub there : IfSome least (Contains (all_swaps_of p columns a))
  pub others : (b : ℕ) → a < b → b < length columns → b ≢ x → b ≢ y → (c : Candidate) →
      Contains (swaps_of p columns a b) c → IsNotBefore c least

-- what is kept for column a after columns x and y have changed
abbrev pub IsKept : Problem → List Column → ℕ → ℕ → ℕ → Option Candidate → Type 0
IsKept p columns x y a least = is_stale x y a least ≡ false → IsLeastOfOthers p columns x y a least

-- what was kept before a step is of use after it
pub record IsUseful (p : Problem) (columns : List Column) (gone x y : ℕ) (leasts : List (Option Candidate)) : Type 0 where
  pub first : x < length columns
  pub second : y < length columns
  pub kept : (a : ℕ) → a < length columns → IsKept p columns x y a (kept_at gone x leasts a)
