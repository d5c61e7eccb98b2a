-- Promise: numbers of seconds, and values that are there where a test holds.
use Rattle.std.specs.Prelude.{ℕ, ℤ, pos, negsuc, Bool, true, ◌&&◌, nat_lt, List, [], ◌∷◌, Option, Some, None, if◌then◌else◌}

-- a number of seconds that is not below 0
abbrev pub seconds : ℤ → Option ℕ
seconds (pos n) = Some n
seconds (negsuc n) = None

-- a value that is there where a test holds
abbrev pub given : {A : Type 0} → Bool → Option A → Option A
given test o = if test then o else None

-- each item is below the next
abbrev pub rises : List ℕ → Bool
rises [] = true
rises (x ∷ []) = true
rises (x ∷ y ∷ rest) = nat_lt x y && rises (y ∷ rest)
