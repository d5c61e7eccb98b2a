-- How many flags of a list are set.
use Rattle.std.proofs.Common.{◌≡◌, ℕ, ◌+◌, ◌<◌, ◌≤◌, Bool, true, false, zero, suc, List, [], ◌∷◌, length, get_or, set, refl, arith}
use Rattle.path_cover.specs.Searching.{seen_count}

pub count_most : (xs : List Bool) → seen_count xs ≤ length xs
count_most [] = omega arith
count_most (true ∷ xs) = let rest = count_most xs in omega arith
count_most (false ∷ xs) = let rest = count_most xs in omega arith

pub count_full : (xs : List Bool) → seen_count xs ≡ length xs → (i : ℕ) → i < length xs → get_or xs i false ≡ true
count_full [] all i within = absurd (omega arith)
count_full (true ∷ xs) all zero within = refl
count_full (true ∷ xs) all (suc i) within = count_full xs (omega arith) i (omega arith)
count_full (false ∷ xs) all i within = absurd (let most = count_most xs in omega arith)

pub count_none : (xs : List Bool) → ((i : ℕ) → i < length xs → get_or xs i false ≡ false) → seen_count xs ≡ 0
count_none [] none = refl
count_none (true ∷ xs) none = absurd (let bad : true ≡ false = none 0 (omega arith) in cc)
count_none (false ∷ xs) none = let rest = count_none xs (λ i within. none (suc i) (omega arith)) in omega arith

pub count_more : (xs : List Bool) (i : ℕ) → i < length xs → get_or xs i false ≡ false → seen_count (set xs i true) ≡ seen_count xs + 1
count_more [] i within unseen = absurd (omega arith)
count_more (true ∷ xs) zero within unseen = absurd (cc)
count_more (false ∷ xs) zero within unseen = omega arith
count_more (true ∷ xs) (suc i) within unseen = let rest = count_more xs i (omega arith) unseen in omega arith
count_more (false ∷ xs) (suc i) within unseen = let rest = count_more xs i (omega arith) unseen in omega arith
