-- Lists of numbers by their places.
use Rattle.std.proofs.Common.{◌≡◌, ◌≢◌, ℕ, ◌+◌, ◌<◌, zero, suc, List, [], ◌∷◌, ◌++◌, length, replicate, set, get_or, refl, ap, arith}
use Rattle.std.specs.Prelude.{slice_index_or}
use Rattle.duty_network.specs.Followers.{entry_at}

pub entry-get : (xs : List ℕ) (i : ℕ) → get_or xs i 0 ≡ entry_at xs i
entry-get [] zero = refl
entry-get [] (suc i) = refl
entry-get (x ∷ xs) zero = refl
entry-get (x ∷ xs) (suc i) = entry-get xs i

pub entry-read : (xs : List ℕ) (i v : ℕ) → i < length xs → slice_index_or xs i v ≡ entry_at xs i
entry-read [] i v h = absurd (omega arith)
entry-read (x ∷ xs) zero v h = refl
entry-read (x ∷ xs) (suc i) v h = entry-read xs i v (omega arith)

pub entry-others : (xs : List ℕ) (i k v : ℕ) → k ≢ i → entry_at (set xs i v) k ≡ entry_at xs k
entry-others [] i k v h = refl
entry-others (x ∷ xs) zero zero v h = absurd (h refl)
entry-others (x ∷ xs) zero (suc k) v h = refl
entry-others (x ∷ xs) (suc i) zero v h = refl
entry-others (x ∷ xs) (suc i) (suc k) v h = entry-others xs i k v (λ e. h (ap suc e))

pub entry-here : (xs : List ℕ) (i v : ℕ) → i < length xs → entry_at (set xs i v) i ≡ v
entry-here [] i v h = absurd (omega arith)
entry-here (x ∷ xs) zero v h = refl
entry-here (x ∷ xs) (suc i) v h = entry-here xs i v (omega arith)

pub entry-count : (xs : List ℕ) (i v : ℕ) → length (set xs i v) ≡ length xs
entry-count [] i v = refl
entry-count (x ∷ xs) zero v = refl
entry-count (x ∷ xs) (suc i) v = omega (arith, entry-count xs i v)

-- a number put last
pub entry-before : (xs : List ℕ) (v k : ℕ) → k < length xs → entry_at (xs ++ v ∷ []) k ≡ entry_at xs k
entry-before [] v k h = absurd (omega arith)
entry-before (x ∷ xs) v zero h = refl
entry-before (x ∷ xs) v (suc k) h = entry-before xs v k (omega arith)

pub entry-last : (xs : List ℕ) (v : ℕ) → entry_at (xs ++ v ∷ []) (length xs) ≡ v
entry-last [] v = refl
entry-last (x ∷ xs) v = entry-last xs v

pub entry-more : (xs : List ℕ) (v : ℕ) → length (xs ++ v ∷ []) ≡ length xs + 1
entry-more [] v = refl
entry-more (x ∷ xs) v = omega (arith, entry-more xs v)

-- a number again and again
pub entry-replicate : (n v k : ℕ) → k < n → entry_at (replicate n v) k ≡ v
entry-replicate zero v k h = absurd (omega arith)
entry-replicate (suc n) v zero h = refl
entry-replicate (suc n) v (suc k) h = entry-replicate n v k (omega arith)

pub count-replicate : (n v : ℕ) → length (replicate n v) ≡ n
count-replicate zero v = refl
count-replicate (suc n) v = omega (arith, count-replicate n v)

-- two places are the same or apart
pub split : (P : Type 0) (a b : ℕ) → (a ≡ b → P) → (a ≢ b → P) → P
split P zero zero f g = f refl
split P zero (suc b) f g = g (λ e. absurd (omega arith))
split P (suc a) zero f g = g (λ e. absurd (omega arith))
split P (suc a) (suc b) f g = split P a b (λ e. f (ap suc e)) (λ n. g (λ e. n (omega arith)))
