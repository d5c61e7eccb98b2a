-- Where rows reach only columns that they hold, a row without a column cannot have one of them.
use Rattle.std.proofs.Common.{◌≡◌, ◌≢◌, ◌⊎◌, ◌==◌, ℕ, ℤ, pos, ◌+ℤ◌, ◌*ℤ◌, ◌≤ℤ◌, ◌<◌, ◌≤◌, Bool, true, false, cond, nat_lt, List, [], ◌∷◌, length, inl, inr, refl, sym, subst, ◌∙◌, arith}
use Rattle.std.proofs.lemmas.Int.{ints}
use Rattle.std.proofs.lemmas.Bool.{cases_lt}
use Rattle.std.proofs.lemmas.Bool.Decides.{nat_tests}
use Rattle.cover_core.specs.Plans.{times}
use Rattle.cover_core.proofs.Sums.{sum_each, sum_first, sum_first-mono, sum_first-plus, sum_first-same}
use Rattle.path_cover.proofs.Counting.{held, inside, matched, sum_first-less, sum_first-none}
use Rattle.path_cover.proofs.Successors.{times-here, times-there}
use Rattle.path_cover.specs.Matchings.{one, IsHeld}

-- the columns of C are held by the rows of R, and by rows below a fixed one
pub record IsClosed (n : ℕ) (to from : ℕ → ℕ) (spare room root fixed : ℕ) (R C : ℕ → Bool) : Type 0 where
  pub root_in : root < n
  pub root_free : n < to root
  pub held : (v : ℕ) → v < n → C v ≡ true → from v ≤ n
  pub holder : (v : ℕ) → v < n → C v ≡ true → fixed ≤ from v → R (from v) ≡ true
  pub store_holds : (v : ℕ) → v < n → C v ≡ true → from v ≡ n → R n ≡ true
  pub end_full : C n ≡ true → room ≡ 0
  pub end_held : C n ≡ true → (t : ℕ) → fixed ≤ t → t < n → to t ≡ n → R t ≡ true
  pub store_stays : C n ≡ true → 0 < spare → R n ≡ true

-- another way in which each row has a column: firsts are the columns of row n
pub record Leads (n most : ℕ) (to : ℕ → ℕ) (root fixed : ℕ) (R C : ℕ → Bool) (next : ℕ → ℕ) (firsts : List ℕ) : Type 0 where
  pub few : length firsts ≤ most
  pub all : (f : ℕ → ℤ) → sum_first (λ t. f (next t)) n +ℤ sum_each f firsts ≡ sum_first f n +ℤ (pos (length firsts) *ℤ f n)
  pub agree : (t : ℕ) → t < fixed → t ≢ root → next t ≡ to t
  pub leads : (t : ℕ) → t < n → fixed ≤ t → R t ≡ true → C (next t) ≡ true
  pub root_leads : C (next root) ≡ true
  pub store_leads : R n ≡ true → (u : ℕ) → 1 ≤ times u firsts → C u ≡ true
  pub stays : R n ≡ true → length firsts < most → C n ≡ true

sum_each-ones : (C : ℕ → Bool) (xs : List ℕ) → ((u : ℕ) → 1 ≤ times u xs → C u ≡ true) → sum_each (λ v. one (C v)) xs ≡ pos (length xs)
sum_each-ones C [] all = refl
sum_each-ones C (x ∷ xs) all =
    let here : C x ≡ true = all x (omega (arith, times-here x xs)) in
    let one_here : one (C x) ≡ pos 1 = rw here refl in
    let rest = sum_each-ones C xs (λ u member. all u (omega (arith, times-there u x xs))) in
    omega (arith, ints)

one_low : (b : Bool) → pos 0 ≤ℤ one b
one_low true = omega (arith, ints)
one_low false = omega (arith, ints)

one_high : (b : Bool) → one b ≤ℤ pos 1
one_high true = omega (arith, ints)
one_high false = omega (arith, ints)

sum_each-low : (C : ℕ → Bool) (xs : List ℕ) → pos 0 ≤ℤ sum_each (λ v. one (C v)) xs
sum_each-low C [] = omega (arith, ints)
sum_each-low C (x ∷ xs) = omega (arith, ints, one_low (C x), sum_each-low C xs)

-- a Bool is one of two
pub either : (b : Bool) → (b ≡ true) ⊎ (b ≡ false)
either true = inl refl
either false = inr refl

-- what the store holds of C
abbrev store_part : ℕ → (ℕ → Bool) → (ℕ → ℕ) → ℕ → ℤ
store_part n C from u = cond (from u == n) (one (C u)) (pos 0)

-- a column of C is held by a row or by the store
column_parts : (n : ℕ) (C : ℕ → Bool) (from : ℕ → ℕ) (u : ℕ) → (C u ≡ true → from u ≤ n) →
    one (C u) ≡ held n (λ v. one (C v)) from u +ℤ store_part n C from u
column_parts n C from u is_held =
    elim (cases_lt (from u) n) [
      | inl below ↦
          let test : nat_lt (from u) n ≡ true = grind (arith, nat_tests) in
          let other : (from u == n) ≡ false = grind (arith, nat_tests) in
          rw (test, other) (omega (arith, ints))
      | inr past ↦
          let test : nat_lt (from u) n ≡ false = grind (arith, nat_tests) in
          elim (either (C u)) [
            | inl in_c ↦
                let most : from u ≤ n = is_held in_c in
                let same : (from u == n) ≡ true = grind (arith, nat_tests) in
                rw (test, same) (omega (arith, ints))
            | inr out ↦ rw (test, out) (zero_parts (from u == n))
          ]
    ]
  where
    zero_parts : (b : Bool) → one false ≡ pos 0 +ℤ cond b (one false) (pos 0)
    zero_parts true = omega (arith, ints)
    zero_parts false = omega (arith, ints)

store_part_high : (b c : Bool) → cond b (one c) (pos 0) ≤ℤ one b
store_part_high true c = one_high c
store_part_high false c = omega (arith, ints)

-- what a row has of C
abbrev row_part : ℕ → (ℕ → Bool) → ℕ → ℤ
row_part n C v = inside n (λ v. one (C v)) v +ℤ cond (v == n) (one (C n)) (pos 0)

row_parts : (n : ℕ) (C : ℕ → Bool) (v : ℕ) → n < v → row_part n C v ≡ pos 0
row_parts n C v above =
    let test : nat_lt v n ≡ false = grind (arith, nat_tests) in
    let other : (v == n) ≡ false = grind (arith, nat_tests) in
    rw (test, other) (omega (arith, ints))

-- it is at most 1 where it is in C, else 0
row_most : (n : ℕ) (C : ℕ → Bool) (v : ℕ) → row_part n C v ≤ℤ one (C v)
row_most n C v =
    elim (cases_lt v n) [
      | inl below ↦
          let test : nat_lt v n ≡ true = grind (arith, nat_tests) in
          let other : (v == n) ≡ false = grind (arith, nat_tests) in
          rw (test, other) (omega (arith, ints))
      | inr past ↦
          let test : nat_lt v n ≡ false = grind (arith, nat_tests) in
          elim (cases_lt n v) [
            | inl above ↦ let other : (v == n) ≡ false = grind (arith, nat_tests) in rw (test, other) (omega (arith, ints, one_low (C v)))
            | inr same ↦
                let is : v ≡ n = omega arith in
                let P : ℕ → Type 0 = λ w. (cond (nat_lt w n) (one (C w)) (pos 0) +ℤ cond (w == n) (one (C n)) (pos 0)) ≤ℤ one (C w) in
                let test' : nat_lt n n ≡ false = grind (arith, nat_tests) in
                let other' : (n == n) ≡ true = grind (arith, nat_tests) in
                subst P (sym is) (rw (test', other') (omega (arith, ints)))
          ]
    ]

row_positive : (n : ℕ) (C : ℕ → Bool) (v : ℕ) → C v ≡ false → row_part n C v ≤ℤ pos 0
row_positive n C v out = let most = row_most n C v in let none : one (C v) ≡ pos 0 = rw out refl in omega (arith, ints)

-- Row by row: a row has no more of C in the matching than in the other way, and the root has one more there. A row that has a
-- column of C in the matching holds it, so it is in R, or is a row that both ways agree on; and rows of R have a column of C in the
-- other way.
row_less : (n most : ℕ) (to from : ℕ → ℕ) (spare room root fixed : ℕ) (R C : ℕ → Bool) (next : ℕ → ℕ) (firsts : List ℕ) →
    IsHeld n most to from spare room → IsClosed n to from spare room root fixed R C → Leads n most to root fixed R C next firsts →
    (t : ℕ) → t < n → (row_part n C (to t) +ℤ (pos (cond (t == root) 1 0) *ℤ pos 1)) ≤ℤ one (C (next t))
row_less n most to from spare room root fixed R C next firsts are closed other t within =
    elim (either (t == root)) [
      | inl is ↦
          let same : t ≡ root = grind (arith, nat_tests) in
          let P : ℕ → Type 0 = λ s. (row_part n C (to s) +ℤ (pos 1 *ℤ pos 1)) ≤ℤ one (C (next s)) in
          let none = row_parts n C (to root) closed.root_free in
          let led : one (C (next root)) ≡ pos 1 = let e = other.root_leads in rw e refl in
          let at_root : P root = omega (arith, ints) in
          rw is (subst P (sym same) at_root)
      | inr not ↦
          let apart : t ≢ root = λ e. absurd (let bad : (t == root) ≡ true = grind (arith, nat_tests) in let two : true ≡ false =
          sym bad ∙ not in cc) in
          let step : row_part n C (to t) ≤ℤ one (C (next t)) = elim (cases_lt t fixed) [
            | inl below ↦ let agree : next t ≡ to t = other.agree t below apart in rw agree (row_most n C (to t))
            | inr past ↦ elim (cases_lt n (to t)) [
              | inl above ↦ let none = row_parts n C (to t) above in omega (arith, ints, one_low (C (next t)))
              | inr there ↦ elim (either (C (to t))) [
                | inl in_c ↦
                    let within_r : R t ≡ true = holder t within (omega arith) (omega arith) in_c in
                    let led : C (next t) ≡ true = other.leads t within (omega arith) within_r in
                    let most' = row_most n C (to t) in
                    let e : one (C (to t)) ≡ pos 1 = rw in_c refl in
                    let e' : one (C (next t)) ≡ pos 1 = rw led refl in
                    omega (arith, ints)
                | inr out ↦ let none = row_positive n C (to t) out in omega (arith, ints, one_low (C (next t)))
              ]
            ]
          ] in
          rw not (omega (arith, ints))
    ]
  where
    holder : (t : ℕ) → t < n → fixed ≤ t → to t ≤ n → C (to t) ≡ true → R t ≡ true
    holder t within from_fixed there in_c =
        elim (cases_lt (to t) n) [
          | inl below ↦
              let e : from (to t) ≡ t = are.matched.onto t (to t) within below refl in
              let P : ℕ → Type 0 = λ s. R s ≡ true in
              let from_fixed' : fixed ≤ from (to t) = omega arith in
              subst P e (closed.holder (to t) below in_c from_fixed')
          | inr past ↦
              let e : to t ≡ n = omega arith in
              let P : ℕ → Type 0 = λ v. C v ≡ true in
              closed.end_held (subst P e in_c) t from_fixed within e
        ]

-- So there is no other way: a pigeonhole argument, by adding up over all rows. The matching has given out all places of the columns
-- of C, and the root has none of them. In the other way every row that has one still has one, and the root as well: one place more
-- than there is. Store and end have many places each, so there are four cases, by whether the store is in R and the end in C, which
-- compare how many vehicles start, end and stay. What searches show with it: there is no cover, or none that comes earlier.
pub blocked : (n most : ℕ) (to from : ℕ → ℕ) (spare room root fixed : ℕ) (R C : ℕ → Bool) (next : ℕ → ℕ) (firsts : List ℕ) →
    IsHeld n most to from spare room → IsClosed n to from spare room root fixed R C → Leads n most to root fixed R C next firsts → ⊥
blocked n most to from spare room root fixed R C next firsts are closed other =
    let f : ℕ → ℤ = λ v. one (C v) in
    let less : (sum_first (λ t. row_part n C (to t)) n +ℤ pos 1) ≤ℤ sum_first (λ t. f (next t)) n =
    sum_first-less _ _ root n closed.root_in (row_less n most to from spare room root fixed R C next firsts are closed other) in
    let parts : sum_first (λ t. row_part n C (to t)) n ≡ sum_first (λ t. inside n f (to t)) n
    +ℤ sum_first (λ t. cond (to t == n) (one (C n)) (pos 0)) n = sum_first-plus _ _ n in
    let both_sides = matched n to from are.matched f in
    let columns : sum_first f n ≡ sum_first (λ u. held n f from u) n +ℤ sum_first (λ u. store_part n C from u) n =
    sum_first-same _ _ n (λ u within. column_parts n C from u (closed.held u within)) ∙ sum_first-plus _ _ n in
    let store_high : sum_first (λ u. store_part n C from u) n ≤ℤ sum_first (λ u. one (from u == n)) n =
    sum_first-mono _ _ n (λ u within. store_part_high (from u == n) (C u)) in
    let all = other.all f in
    let low = sum_each-low C firsts in
    elim (either (R n)) [
      | inl in_r ↦
          let firsts_are = sum_each-ones C firsts (other.store_leads in_r) in
          elim (either (C n)) [
            | inl end_in ↦
                let full : room ≡ 0 = closed.end_full end_in in
                let ends_same : sum_first (λ t. cond (to t == n) (one (C n)) (pos 0)) n ≡ sum_first (λ t. one (to t == n)) n =
                sum_first-same _ _ n (λ t within. end_one (to t == n) end_in) in
                let e : one (C n) ≡ pos 1 = rw end_in refl in
                let k : pos (length firsts) *ℤ one (C n) ≡ pos (length firsts) = rw end_in (omega (arith, ints)) in
                let ends = are.ends in
                let starts = are.starts in
                absurd (omega (arith, ints))
            | inr end_out ↦
                let e : one (C n) ≡ pos 0 = rw end_out refl in
                let k : pos (length firsts) *ℤ one (C n) ≡ pos 0 = rw end_out (omega (arith, ints)) in
                let none : sum_first (λ t. cond (to t == n) (one (C n)) (pos 0)) n ≡ pos 0 =
                sum_first-same _ _ n (λ t within. end_none (to t == n) end_out) ∙ sum_first-none n in
                let most_used : most ≤ length firsts = elim (cases_lt (length firsts) most) [
                  | inl fewer ↦ absurd (let bad : true ≡ false = sym (other.stays in_r fewer) ∙ end_out in cc)
                  | inr used ↦ used
                ] in
                let starts = are.starts in
                absurd (omega (arith, ints))
          ]
      | inr out_r ↦
          let store_none : sum_first (λ u. store_part n C from u) n ≡ pos 0 =
          sum_first-same _ _ n (λ u within. store_zero u within out_r) ∙ sum_first-none n in
          elim (either (C n)) [
            | inl end_in ↦
                let full : room ≡ 0 = closed.end_full end_in in
                let gone : spare ≡ 0 = elim (cases_lt 0 spare) [
                  | inl some ↦ absurd (let bad : true ≡ false = sym (closed.store_stays end_in some) ∙ out_r in cc)
                  | inr none ↦ omega arith
                ] in
                let ends_same : sum_first (λ t. cond (to t == n) (one (C n)) (pos 0)) n ≡ sum_first (λ t. one (to t == n)) n =
                sum_first-same _ _ n (λ t within. end_one (to t == n) end_in) in
                let e : one (C n) ≡ pos 1 = rw end_in refl in
                let k : pos (length firsts) *ℤ one (C n) ≡ pos (length firsts) = rw end_in (omega (arith, ints)) in
                let ends = are.ends in
                let few = other.few in
                absurd (omega (arith, ints))
            | inr end_out ↦
                let e : one (C n) ≡ pos 0 = rw end_out refl in
                let k : pos (length firsts) *ℤ one (C n) ≡ pos 0 = rw end_out (omega (arith, ints)) in
                let none : sum_first (λ t. cond (to t == n) (one (C n)) (pos 0)) n ≡ pos 0 =
                sum_first-same _ _ n (λ t within. end_none (to t == n) end_out) ∙ sum_first-none n in
                absurd (omega (arith, ints))
          ]
    ]
  where
    end_one : (b : Bool) → C n ≡ true → cond b (one (C n)) (pos 0) ≡ one b
    end_one true e = rw e refl
    end_one false e = refl

    end_none : (b : Bool) → C n ≡ false → cond b (one (C n)) (pos 0) ≡ pos 0
    end_none true e = rw e refl
    end_none false e = refl

    store_zero : (u : ℕ) → u < n → R n ≡ false → store_part n C from u ≡ pos 0
    store_zero u within out_r =
        elim (either (C u)) [
          | inl in_c ↦ elim (either (from u == n)) [
            | inl is ↦
                let same : from u ≡ n = grind (arith, nat_tests) in
                absurd (let bad : true ≡ false = sym (closed.store_holds u within in_c same) ∙ out_r in cc)
            | inr not ↦ rw not refl
          ]
          | inr out ↦ rw out (zero_either (from u == n))
        ]
      where
        zero_either : (b : Bool) → cond b (one false) (pos 0) ≡ pos 0
        zero_either true = refl
        zero_either false = refl
