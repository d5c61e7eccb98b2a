-- Items at places.
use Rattle.std.proofs.Common.{◌≡◌, ℕ, ◌<◌, ◌≤◌, zero, suc, List, [], ◌∷◌, length, get_or, slice_get, refl, arith}
use Rattle.std.specs.Prelude.{Some, None}

pub at-get : {A : Type 0} (xs : List A) (k : ℕ) (d : A) → k < length xs → slice_get xs k ≡ Some (get_or xs k d)
at-get [] k d h = absurd (omega arith)
at-get (x ∷ xs) zero d h = refl
at-get (x ∷ xs) (suc k) d h = at-get xs k d (omega arith)

pub at-none : {A : Type 0} (xs : List A) (k : ℕ) → length xs ≤ k → slice_get xs k ≡ None
at-none [] k h = refl
at-none (x ∷ xs) zero h = absurd (omega arith)
at-none (x ∷ xs) (suc k) h = at-none xs k (omega arith)
