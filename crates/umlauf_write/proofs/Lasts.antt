-- The last of a list.
use Rattle.std.proofs.Common.{◌≡◌, ℕ, List, [], ◌∷◌, refl}
use Rattle.umlauf_write.specs.Answers.{last_of}

-- the last item, or another where there is none
abbrev pub last_or : ℕ → List ℕ → ℕ
last_or d [] = d
last_or d (x ∷ xs) = last_or x xs

pub last_or-last : (items : List ℕ) → last_or 0 items ≡ last_of items
last_or-last [] = refl
last_or-last (x ∷ []) = refl
last_or-last (x ∷ y ∷ xs) = last_or-last (y ∷ xs)
