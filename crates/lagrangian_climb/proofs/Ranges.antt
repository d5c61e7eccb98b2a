-- Numbers of lists in range, one at a time.
use Rattle.std.proofs.Common.{◌≡◌, ℕ, ℤ, pos, neg_ℤ, ◌≤ℤ◌, ◌<◌, zero, suc, List, [], ◌∷◌, ◌++◌, length, get_or, arith}
use Rattle.std.proofs.lemmas.Int.{ints}
use Rattle.cover_core.specs.Plans.{number_at}
use Rattle.cover_core.proofs.Values.{IsWithin}
use Rattle.lagrangian_climb.specs.declared.vectors.Span.{Span}
use Rattle.lagrangian_climb.specs.Climbs.{AreNear, AreSpans}

pub near-get : (n : ℕ) (zs : List ℤ) (i : ℕ) (d : ℤ) → i < length zs → AreNear n zs → IsWithin n (get_or zs i d)
near-get n [] i d h near = absurd (omega arith)
near-get n (z ∷ zs) zero d h near = record { low = near.0; high = near.1 }
near-get n (z ∷ zs) (suc i) d h near = near-get n zs i d (omega arith) near.2

pub near-push : (n : ℕ) (zs : List ℤ) (z : ℤ) → AreNear n zs → IsWithin n z → AreNear n (zs ++ z ∷ [])
near-push n [] z near w = (w.low, w.high, tt)
near-push n (y ∷ ys) z near w = (near.0, near.1, near-push n ys z near.2 w)

pub near-zeros : (n : ℕ) (zs : List ℤ) → ((i : ℕ) → number_at zs i ≡ pos 0) → AreNear n zs
near-zeros n [] h = tt
near-zeros n (z ∷ zs) h = let here : z ≡ pos 0 = h 0 in (omega (arith, ints), omega (arith, ints), near-zeros n zs (λ i. h (suc i)))

pub record IsSpan (s : Span) : Type 0 where
  pub low : neg_ℤ (pos 10000000000000) ≤ℤ s.low
  pub ordered : s.low ≤ℤ s.high
  pub high : s.high ≤ℤ pos 10000000000000

pub span-get : (ss : List Span) (i : ℕ) (d : Span) → i < length ss → AreSpans ss → IsSpan (get_or ss i d)
span-get [] i d h are = absurd (omega arith)
span-get (s ∷ ss) zero d h are = record { low = are.0; ordered = are.1; high = are.2 }
span-get (s ∷ ss) (suc i) d h are = span-get ss i d (omega arith) are.3
