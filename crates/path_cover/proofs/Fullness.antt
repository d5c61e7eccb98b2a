-- Where all rows have columns, all columns have rows.
use Rattle.std.proofs.Common.{◌≡◌, ◌==◌, ℕ, pos, ◌+ℤ◌, ◌*ℤ◌, ◌≤ℤ◌, ◌<◌, ◌≤◌, Bool, true, false, cond, nat_lt, zero, suc, inl, inr, refl, sym, subst, ◌∙◌, arith}
use Rattle.std.proofs.lemmas.Int.{ints}
use Rattle.std.proofs.lemmas.Bool.{cases_lt}
use Rattle.std.proofs.lemmas.Bool.Decides.{nat_tests}
use Rattle.cover_core.proofs.Sums.{sum_first, sum_first-plus, sum_first-same}
use Rattle.path_cover.specs.Matchings.{IsHeld, one}
use Rattle.path_cover.proofs.Counting.{held, inside, matched, sum_first-less}

ones : (n : ℕ) → sum_first (λ i. pos 1) n ≡ pos n
ones zero = refl
ones (suc n) = omega (arith, ints, ones n)

-- a number up to n is below n or n
row_one : (n v : ℕ) → v ≤ n → inside n (λ w. pos 1) v +ℤ one (v == n) ≡ pos 1
row_one n v there = elim (cases_lt v n) [
  | inl below ↦
      let test : nat_lt v n ≡ true = grind (arith, nat_tests) in
      let other : (v == n) ≡ false = grind (arith, nat_tests) in
      rw (test, other) (omega (arith, ints))
  | inr past ↦
      let test : nat_lt v n ≡ false = grind (arith, nat_tests) in
      let other : (v == n) ≡ true = grind (arith, nat_tests) in
      rw (test, other) (omega (arith, ints))
]

column_most : (n : ℕ) (from : ℕ → ℕ) (u : ℕ) → (held n (λ w. pos 1) from u +ℤ one (from u == n)) ≤ℤ pos 1
column_most n from u = elim (cases_lt (from u) n) [
  | inl below ↦
      let test : nat_lt (from u) n ≡ true = grind (arith, nat_tests) in
      let other : (from u == n) ≡ false = grind (arith, nat_tests) in
      rw (test, other) (omega (arith, ints))
  | inr past ↦ let test : nat_lt (from u) n ≡ false = grind (arith, nat_tests) in rw test (go (from u == n))
]
  where
    go : (b : Bool) → (pos 0 +ℤ one b) ≤ℤ pos 1
    go true = omega (arith, ints)
    go false = omega (arith, ints)

column_none : (n : ℕ) (from : ℕ → ℕ) (u : ℕ) → n < from u → held n (λ w. pos 1) from u +ℤ one (from u == n) ≡ pos 0
column_none n from u above =
    let test : nat_lt (from u) n ≡ false = grind (arith, nat_tests) in
    let other : (from u == n) ≡ false = grind (arith, nat_tests) in
    rw (test, other) (omega (arith, ints))

-- Where all rows have columns, all columns have rows, by counting both sides: rows and the store have as many places as columns and
-- the end, and the equations of the matching say so. A column without a row would leave one place too many.
pub all_held : (n most : ℕ) (to from : ℕ → ℕ) (spare room : ℕ) → IsHeld n most to from spare room → ((t : ℕ) → t < n → to t ≤ n) →
    (u : ℕ) → u < n → from u ≤ n
all_held n most to from spare room is placed u u_in = elim (cases_lt n (from u)) [
  | inr there ↦ there
  | inl above ↦ absurd (
      let rows : sum_first (λ t. inside n (λ w. pos 1) (to t) +ℤ one (to t == n)) n ≡ pos n =
      sum_first-same _ _ n (λ t t_in. row_one n (to t) (placed t t_in)) ∙ ones n in
      let rows_apart : sum_first (λ t. inside n (λ w. pos 1) (to t) +ℤ one (to t == n)) n ≡ sum_first (λ t. inside n (λ w. pos 1) (to t)) n
      +ℤ sum_first (λ t. one (to t == n)) n = sum_first-plus _ _ n in
      let columns_apart : sum_first (λ w. held n (λ w. pos 1) from w +ℤ one (from w == n)) n ≡ sum_first (λ w. held n (λ w. pos 1) from w) n
      +ℤ sum_first (λ w. one (from w == n)) n = sum_first-plus _ _ n in
      let both : sum_first (λ t. inside n (λ w. pos 1) (to t)) n ≡ sum_first (λ w. held n (λ w. pos 1) from w) n =
      matched n to from is.matched (λ w. pos 1) in
      let less : (sum_first (λ w. held n (λ w. pos 1) from w +ℤ one (from w == n)) n +ℤ pos 1) ≤ℤ sum_first (λ w. pos 1) n =
      sum_first-less _ _ u n u_in (λ w w_in. go w (w == u) refl above) in
      let all = ones n in
      let ends = is.ends in
      let starts = is.starts in
      omega (arith, ints))
]
  where
    go : (w : ℕ) (b : Bool) → (w == u) ≡ b → n < from u →
        ((held n (λ w. pos 1) from w +ℤ one (from w == n)) +ℤ (pos (cond (w == u) 1 0) *ℤ pos 1)) ≤ℤ pos 1
    go w true e above =
        let same : w ≡ u = grind (arith, nat_tests) in
        let P : ℕ → Type 0 = λ j. ((held n (λ w. pos 1) from j +ℤ one (from j == n)) +ℤ (pos 1 *ℤ pos 1)) ≤ℤ pos 1 in
        let none = column_none n from u above in
        let at : P u = omega (arith, ints) in
        rw e (subst P (sym same) at)
    go w false e above = let most = column_most n from w in rw e (omega (arith, ints))
