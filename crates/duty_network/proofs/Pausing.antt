-- The pauses between pieces, row by row.
use Rattle.std.proofs.Common.{◌≡◌, ℕ, ℤ, pos, negsuc, ◌+◌, ◌<◌, ◌≤ℤ◌, List, [], ◌∷◌, ◌++◌, ◌∙◌, length, sym, subst, ap, arith}
use Rattle.std.proofs.lemmas.Int.{ints}
use Rattle.std.specs.Prelude.{IfSome, Some, slice_get, slice_index_or}
use Rattle.std.proofs.lemmas.Option.{get_or_from_slice_get}
use Rattle.point_grid.proofs.Flat.{there}
use Rattle.duty_network.specs.Duties.{DutyFacts, pause_at}
use Rattle.duty_network.specs.Followers.{entry_at}
use Rattle.duty_network.specs.Pauses.{told}
use Rattle.duty_network.specs.Times.{seconds}
use Rattle.duty_network.proofs.Entries.{entry-before, entry-last, split}

-- seconds that are few are a number that a cell can hold
pub few-seconds : (z : ℤ) → z ≤ℤ pos 345600 → IfSome (seconds z) (λ time. time < 4294967295)
few-seconds (pos n) few = omega (arith, ints)
few-seconds (negsuc n) few = tt

-- The pauses of the pieces before a place, with the one at the place behind them.
pub paused-more : (d : DutyFacts) (q p cell : ℕ) (row : List ℕ) → length row ≡ p → told cell ≡ pause_at d p q →
    ((k : ℕ) → k < p → told (entry_at row k) ≡ pause_at d k q) →
    (k : ℕ) → k < p + 1 → told (entry_at (row ++ cell ∷ []) k) ≡ pause_at d k q
paused-more d q p cell row count is so_far k below =
    split (told (entry_at (row ++ cell ∷ []) k) ≡ pause_at d k q) k p
    (λ same. let P : ℕ → Type 0 = λ n. told (entry_at (row ++ cell ∷ []) n) ≡ pause_at d n q in
    let Q : ℕ → Type 0 = λ n. told (entry_at (row ++ cell ∷ []) n) ≡ pause_at d p q in
    let last : told (entry_at (row ++ cell ∷ []) p) ≡ pause_at d p q =
    subst Q count (ap told (entry-last row cell) ∙ is) in
    subst P (sym same) last)
    (λ apart. ap told (entry-before row cell k (omega arith)) ∙ so_far k (omega arith))

-- the row that a list of rows has at a place
pub row-there : {A : Type 0} (rows : List A) (q : ℕ) (row : A) → q < length rows → row ≡ slice_index_or rows q row →
    slice_get rows q ≡ Some row
row-there {A = A} rows q row within is =
    let (own, there) = there rows q within in
    let same : own ≡ row = sym (is ∙ get_or_from_slice_get rows q own row there) in
    subst (λ (x : A). slice_get rows q ≡ Some x) same there
