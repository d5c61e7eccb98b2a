-- Inner: the greatest potentials of a matching, as they are kept.
use Rattle.std.specs.Prelude.{◌≡◌, ℕ, pos, ◌+◌, ◌-◌, ◌-ℤ◌, ◌≤ℤ◌, ◌<◌, ◌≤◌, Bool, true, false, List, [], ◌∷◌, Some, slice_index}
use Rattle.path_cover.specs.declared.growth.Falls.{Falls}
use Rattle.path_cover.specs.declared.placing.Placing.{Placing}
use Rattle.path_cover.specs.Augmenting.{potentials_of}
use Rattle.path_cover.specs.Nets.{Net}
use Rattle.path_cover.specs.Potentials.{Potentials, AreFeasible}
use Rattle.path_cover.specs.Matchings.{IsTightMatching}
use Rattle.path_cover.specs.Searching.{HasPlaces}

-- the arcs of the matching are tight, and store and end are equal where a path is not used
abbrev pub IsTightFor : Net → Placing → Potentials → Type 0
IsTightFor net placing q = IsTightMatching net q (slice_index placing.to.items) (slice_index placing.from.items) placing.spare

-- potentials that meet all conditions of the matching
pub record AreNumbersOf (net : Net) (placing : Placing) (q : Potentials) : Type 0 where
  pub tails : (x : ℕ) → x ≤ net.nodes → q.tail x ≤ℤ pos 0
  pub heads : (v : ℕ) → v ≤ net.nodes → q.head v ≤ℤ pos 0
  pub feasible : AreFeasible net q
  pub tight : IsTightFor net placing q

-- none is lower than in any such
abbrev pub AreHigh : Net → Placing → Falls → Type 0
AreHigh net placing numbers = (q : Potentials) → AreNumbersOf net placing q → (x : ℕ) → x ≤ net.nodes →
    (q.tail x ≤ℤ (potentials_of numbers).tail x) × (q.head x ≤ℤ (potentials_of numbers).head x)

-- an arc is tight in all of them
abbrev pub IsTightIn : Net → Placing → ℕ → ℕ → Type 0
IsTightIn net placing x v = (q : Potentials) → AreNumbersOf net placing q → (c : ℕ) → net.arc x v ≡ Some c → q.head v -ℤ q.tail x ≡ pos c

-- some such are not far below 0
pub record AreAboveFloor (net : Net) (placing : Placing) (q : Potentials) : Type 0 where
  pub numbers : AreNumbersOf net placing q
  pub tails : (x : ℕ) → x ≤ net.nodes → (pos 0 -ℤ pos 5000000000000000) ≤ℤ q.tail x
  pub heads : (v : ℕ) → v ≤ net.nodes → (pos 0 -ℤ pos 5000000000000000) ≤ℤ q.head v

abbrev pub IsFloored : Net → Placing → Type 0
IsFloored net placing = (q : Potentials) × AreAboveFloor net placing q

-- how far numbers are from the floor, together
abbrev pub list_gap : List ℕ → ℕ
list_gap [] = 0
list_gap (x ∷ xs) = (5000000000000000 - x) + list_gap xs

abbrev pub gap : Falls → ℕ
gap falls = list_gap falls.tails.items + list_gap falls.heads.items

-- what moves keep: numbers have come nearer to the floor, or are as they were
pub record IsSwept (net : Net) (placing : Placing) (old new : Falls) (moved : Bool) : Type 0 where
  pub places : HasPlaces net.nodes new
  pub high : AreHigh net placing new
  pub nearer : moved ≡ true → gap new < gap old
  pub same : moved ≡ false → new ≡ old

-- what one arc asks of its column
abbrev pub IsFitting : Net → Falls → ℕ → ℕ → Type 0
IsFitting net numbers x v = (c : ℕ) → net.arc x v ≡ Some c → slice_index numbers.tails.items x ≤ c + slice_index numbers.heads.items v

-- and what an arc of the matching asks of its row
abbrev pub IsTaut : Net → Falls → ℕ → ℕ → Type 0
IsTaut net numbers x v = (c : ℕ) → net.arc x v ≡ Some c → c + slice_index numbers.heads.items v ≤ slice_index numbers.tails.items x
