-- Inner: places that are empty or hold a value.
use Rattle.std.specs.Prelude.{◌≡◌, ℕ, List, [], ◌∷◌, get_or, Option, Some, None}

module _ {X : Type 0} where
  -- the place at the index holds a value
  abbrev pub IsFilled : List (Option X) → ℕ → Type 0
  IsFilled places i = (x : X) × (get_or places i None ≡ Some x)

  -- the values that are there, in their order
  abbrev pub values : List (Option X) → List X
  values [] = []
  values (None ∷ places) = values places
  values (Some x ∷ places) = x ∷ values places
