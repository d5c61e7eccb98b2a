-- Elements of lists at their places, and options.
use Rattle.std.proofs.Common.{◌≡◌, ℕ, ◌<◌, zero, suc, List, [], ◌∷◌, length, All, Some, refl, ap, subst, arith, slice_get}
use Rattle.std.specs.Prelude.{slice_index, map}
use Rattle.std.proofs.lemmas.Option.{get_or_from_slice_get, slice_get_within, same_Some}

-- what is within a list is there
pub there : {A : Type 0} (xs : List A) (i : ℕ) → i < length xs → (x : A) × (slice_get xs i ≡ Some x)
there [] i within = absurd (omega (arith, within))
there (x ∷ xs) zero within = (x, refl)
there (x ∷ xs) (suc i) within = there xs i (omega (arith, within))

-- what holds of each element holds of one that is there
pub all_there : {A : Type 0} (P : A → Type 0) (xs : List A) (i : ℕ) (x : A) → All P xs → slice_get xs i ≡ Some x → P x
all_there P xs i x all is = subst P (get_or_from_slice_get xs i x x is) (all i x (slice_get_within xs i x is))

-- the first of mapped elements
pub first_mapped : {A : Type 0} (f : A → ℕ) (xs : List A) (x : A) → slice_get xs 0 ≡ Some x →
    (0 < length (map f xs)) × (slice_index (map f xs) 0 ≡ f x)
first_mapped f [] x is = absurd (cc)
first_mapped f (y ∷ ys) x is = (omega arith, ap f (same_Some y x is))
