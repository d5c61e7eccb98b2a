-- Lists of items and of numbers, one more at a time.
use Rattle.std.proofs.Common.{◌≡◌, ℕ, ℤ, pos, ◌≤ℤ◌, ◌+◌, ◌-◌, ◌*◌, ◌<◌, ◌≤◌, zero, suc, List, [], ◌∷◌, ◌++◌, length, get_or, take, reverse, sym, subst, arith}
use Rattle.std.proofs.lemmas.List.{get_or-reverse, length-reverse}
use Rattle.std.proofs.lemmas.Nat.{row_fits}
use Rattle.cover_core.specs.Cover.{AllBelow, Rises}
use Rattle.cover_core.proofs.Values.{AllBelow-get, AllBelow-take}
use Rattle.cover_core.proofs.Duality.{AllBelow-append}
use Rattle.lagrangian_climb.specs.Choices.{AreAsked}

pub AllBelow-push : (n : ℕ) (xs : List ℕ) (x : ℕ) → AllBelow n xs → x < n → AllBelow n (xs ++ x ∷ [])
AllBelow-push n [] x all h = (h, tt)
AllBelow-push n (y ∷ ys) x all h = (all.0, AllBelow-push n ys x all.1 h)

AllBelow-from : (n : ℕ) (xs : List ℕ) → ((i : ℕ) → i < length xs → get_or xs i 0 < n) → AllBelow n xs
AllBelow-from n [] h = tt
AllBelow-from n (x ∷ xs) h = (h 0 (omega arith), AllBelow-from n xs (λ i b. h (suc i) (omega arith)))

pub AllBelow-reverse : (n : ℕ) (xs : List ℕ) → AllBelow n xs → AllBelow n (reverse xs)
AllBelow-reverse n xs all =
    AllBelow-from n (reverse xs) (λ i h.
    (let long = length-reverse xs in
    let inside : i < length xs = omega arith in
    let back : length xs - 1 - i < length xs = omega arith in
    let e : get_or (reverse xs) i 0 ≡ get_or xs (length xs - 1 - i) 0 = get_or-reverse xs i 0 inside in
    let b : get_or xs (length xs - 1 - i) 0 < n = AllBelow-get n xs (length xs - 1 - i) all back in
    omega (arith, e, b)))

-- neighbours in a list that rises
rises-next : (xs : List ℕ) (i : ℕ) → Rises xs → suc i < length xs → get_or xs i 0 < get_or xs (suc i) 0
rises-next [] i r h = absurd (omega arith)
rises-next (x ∷ []) i r h = absurd (omega arith)
rises-next (x ∷ y ∷ rest) zero r h = r.0
rises-next (x ∷ y ∷ rest) (suc i) r h = rises-next (y ∷ rest) i r.1 (omega arith)

pub Rises-next : (xs : List ℕ) (i j : ℕ) → j ≡ suc i → Rises xs → j < length xs → get_or xs i 0 < get_or xs j 0
Rises-next xs i j e r h =
    let P : ℕ → Type 0 = λ k. get_or xs i 0 < get_or xs k 0 in
    let inside : suc i < length xs = omega arith in
    subst P (sym e) (rises-next xs i r inside)

-- the place of a pair lies among those of all pairs
pub pair-inside : (from item n : ℕ) → from < n → item < n → from * n + item < n * n
pair-inside from item n h k = let row : from * n + n ≤ n * n = row_fits from n n n h (omega arith) in omega arith

pub record IsAsked (z : ℤ) : Type 0 where
  pub low : pos 0 ≤ℤ z
  pub high : z ≤ℤ pos 30000000000000000

pub asked-get : (zs : List ℤ) (i : ℕ) (d : ℤ) → i < length zs → AreAsked zs → IsAsked (get_or zs i d)
asked-get [] i d h are = absurd (omega arith)
asked-get (z ∷ zs) zero d h are = record { low = are.0; high = are.1 }
asked-get (z ∷ zs) (suc i) d h are = asked-get zs i d (omega arith) are.2

pub AllBelow-front : (n k : ℕ) (xs ys : List ℕ) → AllBelow n xs → AllBelow n ys → AllBelow n (take k (xs ++ ys))
AllBelow-front n k xs ys all more = AllBelow-take n k (xs ++ ys) (AllBelow-append n xs ys all more)
