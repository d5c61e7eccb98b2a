-- Inner: the row of a piece lowered to what going on with the later pieces adds: with the one that follows directly, and with those of each
-- number.
use Rattle.std.specs.Prelude.{◌≡◌, ◌≢◌, ℕ, ℤ, pos, neg_ℤ, ◌*◌, ◌<◌, ◌≤◌, ◌≤ℤ◌, ◌+ℤ◌, ◌-ℤ◌, List, Some, length}
use Rattle.plan_core.specs.Limits.{most_price}
use Rattle.plan_core.specs.declared.types.Price.{Price}
use Rattle.cover_core.specs.Plans.{number_at}
use Rattle.duty_network.specs.Duties.{DutyFacts, pause_at}
use Rattle.duty_network.specs.Followers.{entry_at}
use Rattle.duty_pricing.specs.Bounds.{IsLow, IsUnder, behind, cell_at, low_of, row_at}
use Rattle.duty_pricing.specs.declared.reach.Reach.{Reach}

-- For each number a piece behind another one. No piece that comes before the one of its number follows after such a pause, a direct one
-- aside.
pub record AreFirsts (d : DutyFacts) (numbers : List ℕ) (item direct : ℕ) (Such : ℕ → Type 0) (firsts : List ℕ) : Type 0 where
  pub own : (m : ℕ) → m < length firsts → entry_at firsts m < length d.pieces → entry_at numbers (entry_at firsts m) ≡ m
  pub behind : (m : ℕ) → m < length firsts → item < entry_at firsts m
  pub first : (next time : ℕ) → item < next → next < length d.pieces → next ≢ direct → pause_at d item next ≡ Some time → Such time →
      (entry_at numbers next < length firsts) × (entry_at firsts (entry_at numbers next) ≤ next)

-- the numbers of the rows from a place on are in their ranges
pub record AreInReach (place : ℕ) (chain : List (List ℤ)) : Type 0 where
  pub low : (k : ℕ) → place ≤ k → k < length chain →
      IsLow (neg_ℤ (pos 30000000000000000) +ℤ pos (most_price * k) -ℤ pos most_price) (row_at chain k)
  pub high : (k x : ℕ) → cell_at chain k x ≤ℤ pos 7000000000000

-- a row lowered to what going on with the piece that follows directly adds, where there is a pause before it
pub record IsLoweredByDirect (d : DutyFacts) (prices : List Price) (r : Reach) (long : ℕ) (rows over : List (List ℤ)) (item direct : ℕ)
    (old new : List ℤ) : Type 0 where
  pub at_most : (x : ℕ) → number_at new x ≤ℤ number_at old x
  pub low : IsLow (low_of item) old → IsLow (low_of item) new
  pub under : (time x : ℕ) → direct < length d.pieces → pause_at d item direct ≡ Some time →
      IsUnder d prices r (behind long time rows over) direct x (number_at new x)

-- a row lowered to the one that a chain has at a place
pub record IsLoweredByOne (r : Reach) (chain : List (List ℤ)) (item place : ℕ) (old new : List ℤ) : Type 0 where
  pub at_most : (x : ℕ) → number_at new x ≤ℤ number_at old x
  pub low : IsLow (low_of item) old → IsLow (low_of item) new
  pub under : (x : ℕ) → place < length chain → x < r.width → number_at new x ≤ℤ cell_at chain place x

-- a row lowered to those that a chain has at the places of the first so many numbers
pub record IsLoweredByAll (r : Reach) (chain : List (List ℤ)) (firsts : List ℕ) (item count : ℕ) (old new : List ℤ) : Type 0 where
  pub at_most : (x : ℕ) → number_at new x ≤ℤ number_at old x
  pub low : IsLow (low_of item) old → IsLow (low_of item) new
  pub under : (m x : ℕ) → m < count → entry_at firsts m < length chain → x < r.width →
      number_at new x ≤ℤ cell_at chain (entry_at firsts m) x
