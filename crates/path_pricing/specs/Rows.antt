-- Inner: running minima by the points at which trips begin.
use Rattle.std.specs.Prelude.{◌≡◌, ℕ, ℤ, pos, neg_ℤ, ◌+◌, ◌-◌, ◌*◌, ◌<◌, ◌≤◌, ◌≤ℤ◌, List, length, slice_index}
use Rattle.cover_core.specs.Plans.{number_at}

-- no number is far from 0
pub record IsModerate (x : ℤ) : Type 0 where
  pub low : neg_ℤ (pos 40000000000000000) ≤ℤ x
  pub high : x ≤ℤ pos 200000000000000000

abbrev pub AreModerate : List ℤ → Type 0
AreModerate cells = (i : ℕ) → IsModerate (number_at cells i)

-- The first places of a row are copied to the row behind it.
pub record IsRowCopied (old new : List ℤ) (base width end : ℕ) : Type 0 where
  pub count : length new ≡ length old
  pub kept : (i : ℕ) → i < base + width → number_at new i ≡ number_at old i
  pub copied : (p : ℕ) → p < end → number_at new (base + width + p) ≡ number_at old (base + p)
  pub moderate : AreModerate old → AreModerate new

-- a number is lowered to a value, if it was above
pub record IsCellLowered (old new : List ℤ) (place : ℕ) (value : ℤ) : Type 0 where
  pub count : length new ≡ length old
  pub kept : (i : ℕ) → i < place → number_at new i ≡ number_at old i
  pub lower : (i : ℕ) → number_at new i ≤ℤ number_at old i
  pub own : number_at new place ≤ℤ value
  pub moderate : AreModerate old → IsModerate value → AreModerate new

-- A row stands behind another one: it has no greater numbers, and the one of a point is at most a value.
pub record IsRowAdded (old new : List ℤ) (base width number : ℕ) (value : ℤ) : Type 0 where
  pub count : length new ≡ length old
  pub kept : (i : ℕ) → i < base + width → number_at new i ≡ number_at old i
  pub lower : (p : ℕ) → p < width → number_at new (base + width + p) ≤ℤ number_at old (base + p)
  pub own : number_at new (base + width + number) ≤ℤ value
  pub moderate : AreModerate old → IsModerate value → AreModerate new

-- For each trip from one on and each later one, or the same, the row of the first has at the number of the second at most what that gives.
abbrev pub AreRows : ℕ → ℕ → ℕ → List ℕ → (ℕ → ℤ) → List ℤ → Type 0
AreRows count width from numbers value cells =
    (j u : ℕ) → from ≤ j → j ≤ u → u < count → number_at cells ((count - j) * width + slice_index numbers u) ≤ℤ value u

-- the first numbers are below so many
abbrev pub AreBelow : ℕ → List ℕ → ℕ → Type 0
AreBelow width numbers end = (u : ℕ) → u < end → slice_index numbers u < width
