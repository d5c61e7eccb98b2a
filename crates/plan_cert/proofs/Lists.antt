-- Lists of what is said for each number, and the row at a place.
use Rattle.std.proofs.Common.{◌≡◌, ◌≢◌, ℕ, zero, suc, ◌+◌, ◌<◌, ◌≤◌, List, ◌∷◌, length, drop, get_or, map, refl, sym, ap, ◌∙◌, arith, add-one, drop-cons}
use Rattle.std.specs.List.{range_with_len}
use Rattle.std.specs.Prelude.{slice_set}

-- the items from a place on are the one there and the others
pub at-place : {A : Type 0} (xs : List A) (i : ℕ) (x : A) → i < length xs → x ≡ get_or xs i x → drop i xs ≡ x ∷ drop (i + 1) xs
at-place {A} xs i x below is =
    let at : drop i xs ≡ get_or xs i x ∷ drop (i + 1) xs = rw add-one (drop-cons xs i x below) in
    at ∙ ap (λ (y : A). y ∷ drop (i + 1) xs) (sym is)

-- two functions that are the same on numbers from one on
pub same-on : {A : Type 0} (f g : ℕ → A) (from count : ℕ) → ((n : ℕ) → f n ≡ g n) →
    map f (range_with_len from count) ≡ map g (range_with_len from count)
same-on f g from zero same = refl
same-on {A} f g from (suc count) same =
    ap (λ (x : A). x ∷ map f (range_with_len (from + 1) count)) (same from)
    ∙ ap (λ (xs : List A). g from ∷ xs) (same-on f g (from + 1) count same)

-- two functions that are the same from a number on
pub same-from : {A : Type 0} (f g : ℕ → A) (from count : ℕ) → ((n : ℕ) → from ≤ n → f n ≡ g n) →
    map f (range_with_len from count) ≡ map g (range_with_len from count)
same-from f g from zero same = refl
same-from {A} f g from (suc count) same =
    let first : f from ≡ g from = same from (omega arith) in
    let rest : map f (range_with_len (from + 1) count) ≡ map g (range_with_len (from + 1) count) =
    same-from f g (from + 1) count (λ n above. let low : from + 1 ≤ n = above in same n (omega arith)) in
    ap (λ (y : A). y ∷ map f (range_with_len (from + 1) count)) first ∙ ap (λ (ys : List A). g from ∷ ys) rest

-- Where functions differ at one number alone, their lists differ at its place: setting that place leads from one to the other.
pub set-one : {A : Type 0} (f g : ℕ → A) (from count k : ℕ) (x : A) → k < count → g (from + k) ≡ x → ((n : ℕ) → n ≢ from + k → f n ≡ g n) →
    slice_set (map f (range_with_len from count)) k x ≡ map g (range_with_len from count)
set-one f g from zero k x below is same = absurd (omega arith)
set-one {A} f g from (suc count) zero x below is same =
    let here : from + 0 ≡ from = omega arith in
    let value : x ≡ g from = sym is ∙ ap g here in
    let rest : map f (range_with_len (from + 1) count) ≡ map g (range_with_len (from + 1) count) =
    same-from f g (from + 1) count (λ n above. same n (λ e. let low : from + 1 ≤ n = above in absurd (omega arith))) in
    ap (λ (y : A). y ∷ map f (range_with_len (from + 1) count)) value ∙ ap (λ (ys : List A). g from ∷ ys) rest
set-one {A} f g from (suc count) (suc k) x below is same =
    let there : from + 1 + k ≡ from + suc k = omega arith in
    let first : f from ≡ g from = same from (λ e. absurd (omega arith)) in
    let rest : slice_set (map f (range_with_len (from + 1) count)) k x ≡ map g (range_with_len (from + 1) count) =
    set-one f g (from + 1) count k x (omega arith) (ap g there ∙ is) (λ n other. same n (λ e. other (e ∙ sym there))) in
    ap (λ (y : A). y ∷ slice_set (map f (range_with_len (from + 1) count)) k x) first ∙ ap (λ (ys : List A). g from ∷ ys) rest
