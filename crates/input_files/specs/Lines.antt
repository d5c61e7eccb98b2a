-- Promise: a line on standard error, written part by part.
use Rattle.std.specs.Prelude.{◌≡◌, ℕ, ◌≤◌, Bool, true, false, ◌++◌, ◌⊎◌, List, [], ◌∷◌, Option, Some, IfSome}
use Rattle.plan_core.specs.Outside.{Rose}
use Rattle.input_files.specs.Taken.{TakesFront}

-- the parts of a line after one another
abbrev pub joined : List (List ℕ) → List ℕ
joined [] = []
joined (part ∷ parts) = part ++ joined parts

-- a line was written whole, or an initial part of it, and then the count of faults rose
abbrev pub IsTold : Option (List ℕ) → Option (List ℕ) → ℕ → ℕ → List ℕ → Type 0
IsTold old new before now line =
    IfSome old (λ bytes. TakesFront bytes new line) × (IfSome old (λ bytes. new ≡ Some (bytes ++ line)) ⊎ Rose before now)

-- of a line all was written but this rest
pub record IsLeft (old new : Option (List ℕ)) (line rest : List ℕ) : Type 0 where
  pub done : List ℕ
  pub all : done ++ rest ≡ line
  pub taken : IfSome old (λ bytes. new ≡ Some (bytes ++ done))

-- a line is being written: all but this rest is there, or a write failed before
abbrev pub IsTelling : Option (List ℕ) → Option (List ℕ) → ℕ → ℕ → List ℕ → List ℕ → Bool → Type 0
IsTelling old new before now line rest true = IsLeft old new line rest × (before ≤ now)
IsTelling old new before now line rest false = IfSome old (λ bytes. TakesFront bytes new line) × Rose before now
