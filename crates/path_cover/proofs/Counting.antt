-- A matching of rows and columns, counted from both sides.
use Rattle.std.proofs.Common.{◌≡◌, ◌==◌, ℕ, ℤ, pos, ◌+ℤ◌, ◌*ℤ◌, ◌≤ℤ◌, ◌<◌, Bool, true, false, cond, nat_lt, zero, suc, inl, inr, refl, sym, ap, ◌∙◌, arith}
use Rattle.std.proofs.lemmas.Int.{ints}
use Rattle.std.proofs.lemmas.Bool.{cases_lt}
use Rattle.std.proofs.lemmas.Bool.Decides.{nat_tests}
use Rattle.cover_core.proofs.Sums.{sum_first, sum_first-mono, sum_first-one, sum_first-past, sum_first-plus, sum_first-same}
use Rattle.path_cover.specs.Matchings.{AreMatched}

pub sum_first-none : (n : ℕ) → sum_first (λ i. pos 0) n ≡ pos 0
sum_first-none zero = refl
sum_first-none (suc n) = omega (arith, ints, sum_first-none n)

-- rows and columns may be summed in either order
pub swap : (h : ℕ → ℕ → ℤ) (m n : ℕ) → sum_first (λ t. sum_first (λ u. h t u) n) m ≡ sum_first (λ u. sum_first (λ t. h t u) m) n
swap h zero n = sym (sum_first-none n)
swap h (suc m) n =
    let rest : sum_first (λ t. sum_first (λ u. h t u) n) m ≡ sum_first (λ u. sum_first (λ t. h t u) m) n = swap h m n in
    let more : sum_first (λ u. sum_first (λ t. h t u) m +ℤ h m u) n ≡ sum_first (λ u. sum_first (λ t. h t u) m) n
    +ℤ sum_first (λ u. h m u) n = sum_first-plus _ _ n in
    omega (arith, ints)

bool_same : (a b : Bool) → (a ≡ true → b ≡ true) → (b ≡ true → a ≡ true) → a ≡ b
bool_same true b there back = sym (there refl)
bool_same false true there back = back refl
bool_same false false there back = refl

-- f at a column that is there
abbrev pub inside : ℕ → (ℕ → ℤ) → ℕ → ℤ
inside n f v = cond (nat_lt v n) (f v) (pos 0)

-- f at a column whose row is there
abbrev pub held : ℕ → (ℕ → ℤ) → (ℕ → ℕ) → ℕ → ℤ
held n f from u = cond (nat_lt (from u) n) (f u) (pos 0)

inside_is : (n : ℕ) (f : ℕ → ℤ) (v : ℕ) → sum_first (λ u. pos (cond (u == v) 1 0) *ℤ f u) n ≡ inside n f v
inside_is n f v =
    elim (cases_lt v n) [
      | inl below ↦ let test : nat_lt v n ≡ true = grind (arith, nat_tests) in rw test (sum_first-one f v n below)
      | inr past ↦ let test : nat_lt v n ≡ false = grind (arith, nat_tests) in rw test (sum_first-past f v n (omega arith))
    ]

held_is : (n : ℕ) (f : ℕ → ℤ) (from : ℕ → ℕ) (u : ℕ) → sum_first (λ t. pos (cond (t == from u) 1 0) *ℤ f u) n ≡ held n f from u
held_is n f from u =
    elim (cases_lt (from u) n) [
      | inl below ↦ let test : nat_lt (from u) n ≡ true = grind (arith, nat_tests) in rw test (sum_first-one (λ t. f u) (from u) n below)
      | inr past ↦ let test : nat_lt (from u) n ≡ false = grind (arith, nat_tests) in
          rw test (sum_first-past (λ t. f u) (from u) n (omega arith))
    ]

test_same : (n : ℕ) (to from : ℕ → ℕ) → AreMatched n to from → (t u : ℕ) → t < n → u < n → (u == to t) ≡ (t == from u)
test_same n to from are t u t_in u_in = bool_same (u == to t) (t == from u)
    (λ is. let same : u ≡ to t = grind (arith, nat_tests) in let e : from u ≡ t =
    are.onto t u t_in u_in (sym same) in grind (arith, nat_tests))
    (λ is. let same : t ≡ from u = grind (arith, nat_tests) in let e : to t ≡ u =
    are.back t u t_in u_in (sym same) in grind (arith, nat_tests))

-- f over the columns of all rows is f over the columns that have rows: the pairs of a matching are summed row by row and column by
-- column, and the order of the two sums does not matter. With f as 1 on a set of columns it counts how many of them are taken, from
-- either side.
pub matched : (n : ℕ) (to from : ℕ → ℕ) → AreMatched n to from → (f : ℕ → ℤ) →
    sum_first (λ t. inside n f (to t)) n ≡ sum_first (λ u. held n f from u) n
matched n to from are f =
    let by_rows : sum_first (λ t. sum_first (λ u. pos (cond (u == to t) 1 0) *ℤ f u) n) n ≡ sum_first (λ t. inside n f (to t)) n =
    sum_first-same _ _ n (λ t within. inside_is n f (to t)) in
    let swapped : sum_first (λ t. sum_first (λ u. pos (cond (u == to t) 1 0) *ℤ f u) n) n
    ≡ sum_first (λ u. sum_first (λ t. pos (cond (u == to t) 1 0) *ℤ f u) n) n = swap (λ t u. pos (cond (u == to t) 1 0) *ℤ f u) n n in
    let by_columns : sum_first (λ u. sum_first (λ t. pos (cond (u == to t) 1 0) *ℤ f u) n) n ≡ sum_first (λ u. held n f from u) n =
    sum_first-same _ _ n (λ u within.
    let same : sum_first (λ t. pos (cond (u == to t) 1 0) *ℤ f u) n ≡ sum_first (λ t. pos (cond (t == from u) 1 0) *ℤ f u) n =
    sum_first-same _ _ n (λ t t_in. ap (λ (b : Bool). pos (cond b 1 0) *ℤ f u) (test_same n to from are t u t_in within)) in
    same ∙ held_is n f from u) in
    sym by_rows ∙ (swapped ∙ by_columns)

-- a sum is less where one part is less and no part is greater
pub sum_first-less : (f g : ℕ → ℤ) (root n : ℕ) → root < n → ((i : ℕ) → i < n → (f i +ℤ (pos (cond (i == root) 1 0) *ℤ pos 1)) ≤ℤ g i) →
    (sum_first f n +ℤ pos 1) ≤ℤ sum_first g n
sum_first-less f g root n within less =
    let more = sum_first-mono (λ i. f i +ℤ (pos (cond (i == root) 1 0) *ℤ pos 1)) g n less in
    let plus : sum_first (λ i. f i +ℤ (pos (cond (i == root) 1 0) *ℤ pos 1)) n ≡ sum_first f n
    +ℤ sum_first (λ i. pos (cond (i == root) 1 0) *ℤ pos 1) n = sum_first-plus _ _ n in
    let is : sum_first (λ i. pos (cond (i == root) 1 0) *ℤ pos 1) n ≡ pos 1 = sum_first-one (λ i. pos 1) root n within in
    omega (arith, ints)
