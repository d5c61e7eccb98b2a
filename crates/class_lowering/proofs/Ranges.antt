-- Numbers and columns of lists in range, one at a time.
use Rattle.std.proofs.Common.{◌≢◌, ℕ, ℤ, pos, ◌≤ℤ◌, ◌≤◌, ◌+◌, ◌<◌, zero, suc, List, [], ◌∷◌, length, get_or, arith, All, IsPermutation}
use Rattle.std.proofs.lemmas.List.Elements.{All-get_or, All-nil, All-cons}
use Rattle.std.proofs.lemmas.List.Sorted.{All-permutation}
use Rattle.cover_core.specs.declared.Column.{Column}
use Rattle.column_pool.specs.Pools.{places_from}
use Rattle.lagrangian_climb.specs.Choices.{AreAsked}
use Rattle.class_lowering.specs.Lowering.{HaveItems}

pub record IsAsked (z : ℤ) : Type 0 where
  pub low : pos 0 ≤ℤ z
  pub high : z ≤ℤ pos 30000000000000000

pub asked-get : (zs : List ℤ) (i : ℕ) (d : ℤ) → i < length zs → AreAsked zs → IsAsked (get_or zs i d)
asked-get [] i d h are = absurd (omega arith)
asked-get (z ∷ zs) zero d h are = record { low = are.0; high = are.1 }
asked-get (z ∷ zs) (suc i) d h are = asked-get zs i d (omega arith) are.2

pub items-get : (cs : List Column) (i : ℕ) (d : Column) → i < length cs → HaveItems cs → (get_or cs i d).items ≢ []
items-get [] i d h are = absurd (omega arith)
items-get (c ∷ cs) zero d h are = are.0
items-get (c ∷ cs) (suc i) d h are = items-get cs i d (omega arith) are.1

abbrev IsBelow : ℕ → ℕ → Type 0
IsBelow n x = x < n

places-below : (n k m : ℕ) → k + n ≤ m → All (IsBelow m) (places_from n k)
places-below zero k m h = All-nil (IsBelow m)
places-below (suc n) k m h = All-cons (IsBelow m) k (places_from n (suc k)) (omega arith) (places-below n (suc k) m (omega arith))

pub place-there : (m : ℕ) (places : List ℕ) (i : ℕ) → IsPermutation (places_from m 0) places → i < length places → get_or places i 0 < m
place-there m places i perm h =
    let all : All (IsBelow m) (places_from m 0) = places-below m 0 m (omega arith) in
    All-get_or (IsBelow m) places i 0 h (All-permutation (IsBelow m) (places_from m 0) places perm all)
