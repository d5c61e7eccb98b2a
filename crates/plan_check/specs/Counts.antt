-- Inner: counts of numbers in a list, and the first of some numbers that passes a test.
use Rattle.std.specs.Prelude.{◌≡◌, ℕ, ◌+◌, ◌<◌, ◌^◌, Bool, true, false, List, length, Option, Some, None, slice_index}
use Rattle.cover_core.specs.Plans.{times}

-- each count is how often its place stands in a list of numbers
abbrev pub AreCounts : List ℕ → List ℕ → Type 0
AreCounts counts numbers = (n : ℕ) → n < length counts → slice_index counts n ≡ times n numbers

-- each count has risen by how often its place stands in a list of numbers
abbrev pub HaveRisen : List ℕ → List ℕ → List ℕ → Type 0
HaveRisen before now numbers = (n : ℕ) → n < length before → slice_index now n ≡ slice_index before n + times n numbers

-- each count has room for how often its place stands in a list of numbers
abbrev pub HaveRoom : List ℕ → List ℕ → Type 0
HaveRoom counts numbers = (n : ℕ) → n < length counts → slice_index counts n + times n numbers < 2 ^ 32

-- the first of so many numbers, from 0, that passes a test, or none where none of them does
abbrev pub IsFirstOf : ℕ → (ℕ → Bool) → Option ℕ → Type 0
IsFirstOf count test (Some k) = (k < count) × (test k ≡ true) × ((j : ℕ) → j < k → test j ≡ false)
IsFirstOf count test None = (j : ℕ) → j < count → test j ≡ false
