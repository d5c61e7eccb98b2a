-- Numbers of lists in range, one at a time.
use Rattle.std.proofs.Common.{ℕ, ℤ, pos, neg_ℤ, ◌≤ℤ◌, ◌≤◌, ◌<◌, zero, suc, List, [], ◌∷◌, length, get_or, arith}
use Rattle.offer_estimate.specs.Scales.{AreLeasts, AreWorths, AreCaps}

pub record IsLeast (z : ℤ) : Type 0 where
  pub low : neg_ℤ (pos 30000000000000000) ≤ℤ z
  pub high : z ≤ℤ pos 0

pub record IsWorth (z : ℤ) : Type 0 where
  pub low : pos 1 ≤ℤ z
  pub high : z ≤ℤ pos 4000000000000

pub least-get : (zs : List ℤ) (i : ℕ) (d : ℤ) → i < length zs → AreLeasts zs → IsLeast (get_or zs i d)
least-get [] i d h are = absurd (omega arith)
least-get (z ∷ zs) zero d h are = record { low = are.0; high = are.1 }
least-get (z ∷ zs) (suc i) d h are = least-get zs i d (omega arith) are.2

pub worth-get : (zs : List ℤ) (i : ℕ) (d : ℤ) → i < length zs → AreWorths zs → IsWorth (get_or zs i d)
worth-get [] i d h are = absurd (omega arith)
worth-get (z ∷ zs) zero d h are = record { low = are.0; high = are.1 }
worth-get (z ∷ zs) (suc i) d h are = worth-get zs i d (omega arith) are.2

pub cap-get : (cs : List ℕ) (i : ℕ) → i < length cs → AreCaps cs → get_or cs i 0 ≤ 10000
cap-get [] i h are = absurd (omega arith)
cap-get (c ∷ cs) zero h are = are.0
cap-get (c ∷ cs) (suc i) h are = cap-get cs i (omega arith) are.1
