-- Promise: labels that are kept, and labels that may still be taken out again, in the cells of a region.
use Rattle.std.specs.Prelude.{◌≢◌, ℕ, List, [], ◌∷◌, ◌++◌, refl}
use Rattle.std.specs.List.{filter_map}
use Rattle.std.specs.Coded.{Coded, code_by, coded×, coded_list}
use Rattle.label_region.specs.Shelf.{IsLive, Shelf, label_at}

pub record Stock (X : Type 0) : Type 0 where
  pub kept : List X
  pub made : List X

-- a number is in no place of a list
abbrev pub IsNotIn : ℕ → List ℕ → Type 0
IsNotIn x [] = Unit {0}
IsNotIn x (y ∷ ys) = (x ≢ y) × IsNotIn x ys

-- no number stands twice
abbrev pub AreOnce : List ℕ → Type 0
AreOnce [] = Unit {0}
AreOnce (x ∷ xs) = IsNotIn x xs × AreOnce xs

module _ {X : Type 0} where
  abbrev pub stock : List X → List X → Stock X
  stock kept made = record { kept = kept; made = made }

  abbrev pub stock_code : Coded X → Coded (Stock X)
  stock_code c = code_by (List X × List X) (coded× (coded_list c) (coded_list c)) (λ s. (s.kept, s.made)) (λ p. stock p.0 p.1) (λ _. refl)

  -- the labels of numbers
  abbrev pub shown : Shelf X → List ℕ → List X
  shown shelf ids = filter_map (label_at shelf) ids

  abbrev pub AreLive : Shelf X → List ℕ → Type 0
  AreLive shelf [] = Unit {0}
  AreLive shelf (id ∷ ids) = IsLive shelf id × AreLive shelf ids

  -- the numbers of both lists are live, and none stands twice
  pub record IsStocked (shelf : Shelf X) (kept made : List ℕ) : Type 0 where
    pub live : AreLive shelf (kept ++ made)
    pub once : AreOnce (kept ++ made)
