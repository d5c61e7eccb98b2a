-- Promise: the words of the command line.
use Rattle.std.specs.Prelude.{ℕ, Bool, true, false, ◌==◌, ◌&&◌, not, List, [], ◌∷◌, length, Option, Some, None, if◌then◌else◌, codes}
use Rattle.std.specs.Str.{bytes_eq}

-- the name of a file is not empty and no option
abbrev pub is_file : List ℕ → Bool
is_file [] = false
is_file (b ∷ []) = true
is_file (b ∷ c ∷ bytes) = not (b == 45)

abbrev pub is_dashes : List ℕ → Bool
is_dashes word = bytes_eq word (codes "--")

-- the name of the file that the words ask for: one word, or one behind `--`
abbrev pub asked : List (List ℕ) → Option (List ℕ)
asked [] = None
asked (name ∷ []) = if is_file name then Some name else None
asked (dashes ∷ name ∷ []) = if is_dashes dashes && not (length name == 0) then Some name else None
asked (a ∷ b ∷ c ∷ words) = None
