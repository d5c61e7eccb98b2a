-- Promise: labels by number, with the numbers that were given back.
use Rattle.std.specs.Prelude.{ℕ, ◌+◌, ◌-◌, ◌<◌, ◌≤◌, ◌==◌, List, [], ◌∷◌, length, Option, None, IsSome, slice_get, if◌then◌else◌, refl, All}
use Rattle.std.specs.Coded.{Coded, code_by, coded×, coded_list, coded_ℕ}

-- what each number ever used held last, the numbers of these that are not live, and how many labels more there is memory for
pub record Shelf (X : Type 0) : Type 0 where
  pub cells : List X
  pub back : List ℕ
  pub spare : ℕ

-- how often x stands in the list
abbrev pub times : ℕ → List ℕ → ℕ
times x [] = 0
times x (y ∷ ys) = (if y == x then 1 else 0) + times x ys

-- numbers that were given back: each was used before, and none stands twice
pub record AreBack (used : ℕ) (back : List ℕ) : Type 0 where
  pub used_before : All (λ b. b < used) back
  pub once : (x : ℕ) → times x back ≤ 1

module _ {X : Type 0} where
  abbrev pub shelf : List X → List ℕ → ℕ → Shelf X
  shelf cells back spare = record { cells = cells; back = back; spare = spare }

  abbrev pub shelf_code : Coded X → Coded (Shelf X)
  shelf_code c = code_by (List X × (List ℕ × ℕ)) (coded× (coded_list c) (coded× (coded_list coded_ℕ) coded_ℕ))
      (λ s. (s.cells, (s.back, s.spare))) (λ p. shelf p.0 p.1.0 p.1.1) (λ _. refl)

  -- the label of a number, where it is live
  abbrev pub label_at : Shelf X → ℕ → Option X
  label_at s id = if times id s.back == 0 then slice_get s.cells id else None

  abbrev pub IsLive : Shelf X → ℕ → Type 0
  IsLive s id = IsSome (label_at s id)

  -- the least number never used
  abbrev pub next_of : Shelf X → ℕ
  next_of s = length s.cells

  -- how many numbers are live
  abbrev pub live_count : Shelf X → ℕ
  live_count s = next_of s - length s.back

  -- memory for this many labels, and for this many numbers given back, holds the region
  pub record IsHeld (s : Shelf X) (room back_room : ℕ) : Type 0 where
    pub back : AreBack (next_of s) s.back
    pub cells_fit : next_of s ≤ room
    pub spare_fits : next_of s + s.spare ≤ room + length s.back
    pub back_fits : next_of s ≤ back_room
    pub spare_back_fits : next_of s + s.spare ≤ back_room + length s.back
    pub few : next_of s + s.spare < 2147483648 + length s.back
    pub few_used : next_of s < 2147483648
