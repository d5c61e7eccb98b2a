-- Numbers below n of which none stands twice are at most n.
use Rattle.std.proofs.Common.{◌≡◌, ◌≢◌, ℕ, zero, suc, ◌+◌, ◌<◌, ◌≤◌, List, [], ◌∷◌, ◌++◌, length, All, refl, sym, ap, ◌∙◌, arith, eq-eqb, ne_eqb}
use Rattle.std.specs.Prelude.{◌==◌, if◌then◌else◌, Some}
use Rattle.std.proofs.lemmas.List.Elements.{All-head, All-tail, All-push, All-pop, All-nil}
use native.Mathlib.Decide.{ℕ_discrete}
use Rattle.label_region.specs.Shelf.{times, AreBack}

-- f 0 to f (n - 1), added up
abbrev sum_below : (ℕ → ℕ) → ℕ → ℕ
sum_below f zero = 0
sum_below f (suc n) = sum_below f n + f n

sum_of_sums : (f g : ℕ → ℕ) (n : ℕ) → sum_below (λ x. f x + g x) n ≡ sum_below f n + sum_below g n
sum_of_sums f g zero = refl
sum_of_sums f g (suc n) = let r = sum_of_sums f g n in omega arith

abbrev one_at : ℕ → ℕ → ℕ
one_at b x = if b == x then 1 else 0

at_same : (b : ℕ) → one_at b b ≡ 1
at_same b = rw (eq-eqb b b refl) refl

at_other : (b x : ℕ) → b ≢ x → one_at b x ≡ 0
at_other b x n = rw (ne_eqb b x n) refl

none_below : (b n : ℕ) → n ≤ b → sum_below (one_at b) n ≡ 0
none_below b zero h = refl
none_below b (suc n) h = let r = none_below b n (omega arith) in let o = at_other b n (λ e. omega arith) in omega arith

one_below : (b n : ℕ) → b < n → sum_below (one_at b) n ≡ 1
one_below b zero h = absurd (omega arith)
one_below b (suc n) h = elim (ℕ_discrete b n) [
  | yes same ↦ let r = none_below b n (omega arith) in let o : one_at b n ≡ 1 = ap (one_at b) (sym same) ∙ at_same b in omega arith
  | no apart ↦ let r = one_below b n (omega arith) in let o = at_other b n apart in omega arith
]

zero_sum : (n : ℕ) → sum_below (λ _. 0) n ≡ 0
zero_sum zero = refl
zero_sum (suc n) = let r = zero_sum n in omega arith

-- A list of numbers below n is as long as all numbers below n are counted in it. Counting the list in these two ways turns "none
-- stands twice" into a bound on its length: n at most (`back_fits`), and less than n where a number is known that does not stand in
-- it (`back_has_room`). A region never needs more memory for numbers given back than for numbers used.
length_counted : (xs : List ℕ) (n : ℕ) → All (λ b. b < n) xs → length xs ≡ sum_below (λ x. times x xs) n
length_counted [] n h = sym (zero_sum n)
length_counted (y ∷ ys) n h =
    let r = length_counted ys n (All-tail (λ b. b < n) y ys h) in let o = one_below y n (All-head (λ b. b < n) y ys h) in
    let s = sum_of_sums (one_at y) (λ x. times x ys) n in omega arith

at_most : (f : ℕ → ℕ) (n : ℕ) → ((x : ℕ) → f x ≤ 1) → sum_below f n ≤ n
at_most f zero h = omega arith
at_most f (suc n) h = let r = at_most f n h in let o = h n in omega arith

less_than : (f : ℕ → ℕ) (n i : ℕ) → ((x : ℕ) → f x ≤ 1) → i < n → f i ≡ 0 → sum_below f n < n
less_than f zero i h l z = absurd (omega arith)
less_than f (suc n) i h l z = elim (ℕ_discrete i n) [
  | yes same ↦ let r = at_most f n h in let o : f n ≡ 0 = ap f (sym same) ∙ z in omega arith
  | no apart ↦ let r = less_than f n i h (omega arith) z in let o = h n in omega arith
]

pub back_fits : (n : ℕ) (back : List ℕ) → AreBack n back → length back ≤ n
back_fits n back h = let c = length_counted back n h.used_before in let l = at_most (λ x. times x back) n h.once in omega arith

pub back_has_room : (n id : ℕ) (back : List ℕ) → AreBack n back → id < n → times id back ≡ 0 → length back < n
back_has_room n id back h l z =
    let c = length_counted back n h.used_before in let s = less_than (λ x. times x back) n id h.once l z in omega arith

one_more : (x : ℕ) (xs : List ℕ) (y : ℕ) → times x (xs ++ y ∷ []) ≡ times x xs + one_at y x
one_more x [] y = omega arith
one_more x (z ∷ xs) y = let r = one_more x xs y in let o : ℕ = one_at z x in omega arith

-- a live number joins those given back
pub back_push : (used id : ℕ) (back : List ℕ) → AreBack used back → id < used → times id back ≡ 0 → AreBack used (back ++ id ∷ [])
back_push used id back h l z = record {
  used_before = All-push (λ b. b < used) back id h.used_before l;
  once = λ x. elim (ℕ_discrete id x) [
    | yes same ↦ let m = one_more x back id in let o : one_at id x ≡ 1 = ap (one_at id) (sym same) ∙ at_same id in
        let e : times x back ≡ 0 = ap (λ y. times y back) (sym same) ∙ z in omega arith
    | no apart ↦ let m = one_more x back id in let o = at_other id x apart in let e = h.once x in omega arith
  ];
}

-- the last number leaves: it was used before and does not stand among the others
pub back_pop : (used id : ℕ) (back : List ℕ) → AreBack used (back ++ id ∷ []) → AreBack used back × (id < used) × (times id back ≡ 0)
back_pop used id back h =
    let parts = All-pop (λ b. b < used) (back ++ id ∷ []) back (Some id) refl h.used_before in
    let left : AreBack used back =
    record { used_before = parts.0; once = λ x. let m = one_more x back id in let e = h.once x in omega arith } in
    let alone : times id back ≡ 0 = let m = one_more id back id in let e = h.once id in let o = at_same id in omega arith in
    (left, parts.1, alone)

pub back_wider : (used more : ℕ) (back : List ℕ) → used ≤ more → AreBack used back → AreBack more back
back_wider used more [] l h = record { used_before = All-nil (λ b. b < more); once = h.once }
back_wider used more (y ∷ ys) l h =
    record { used_before = λ k d p. let b = h.used_before k d p in omega arith; once = h.once }

pub none_back : (used : ℕ) → AreBack used []
none_back used = record { used_before = All-nil (λ b. b < used); once = λ x. omega arith }

pub times_more : (x id : ℕ) (back : List ℕ) → x ≢ id → times x (back ++ id ∷ []) ≡ times x back
times_more x id back n = let m = one_more x back id in let o = at_other id x (λ e. n (sym e)) in omega arith

pub times_last : (id : ℕ) (back : List ℕ) → 0 < times id (back ++ id ∷ [])
times_last id back = let m = one_more id back id in let o = at_same id in omega arith
