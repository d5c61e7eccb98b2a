-- Taking a row's place off a column, and giving it one.
use Rattle.std.proofs.Common.{◌≡◌, ◌≢◌, ◌⊎◌, ◌==◌, ℕ, pos, ◌+ℤ◌, ◌<◌, ◌≤◌, Bool, true, false, cond, zero, suc, inl, inr, refl, sym, ap, subst, ◌∙◌, arith}
use Rattle.std.proofs.lemmas.Int.{ints}
use Rattle.std.proofs.lemmas.Bool.{cases_lt}
use Rattle.std.proofs.lemmas.Bool.Decides.{nat_tests}
use Rattle.cover_core.proofs.Sums.{sum_first}
use Rattle.path_cover.specs.Matchings.{one, IsHeld, IsHeldBut}

-- a function changed at one place
abbrev pub put : ℕ → ℕ → (ℕ → ℕ) → ℕ → ℕ
put i w f x = cond (x == i) w (f x)

pub put_same : (i w : ℕ) (f : ℕ → ℕ) → put i w f i ≡ w
put_same i w f = let test : (i == i) ≡ true = grind (arith, nat_tests) in rw test refl

pub put_other : (i w : ℕ) (f : ℕ → ℕ) (x : ℕ) → x ≢ i → put i w f x ≡ f x
put_other i w f x apart = go (x == i) refl
  where
    go : (b : Bool) → (x == i) ≡ b → put i w f x ≡ f x
    go true e = absurd (apart (grind (arith, nat_tests)))
    go false e = rw e refl

one_not : (a b : ℕ) → a ≢ b → one (a == b) ≡ pos 0
one_not a b apart = go (a == b) refl
  where
    go : (x : Bool) → (a == b) ≡ x → one (a == b) ≡ pos 0
    go true e = absurd (apart (grind (arith, nat_tests)))
    go false e = rw e refl

one_same : (a b : ℕ) → a ≡ b → one (a == b) ≡ pos 1
one_same a b is = let test : (a == b) ≡ true = grind (arith, nat_tests) in rw test refl

count_past : (i w k : ℕ) (f : ℕ → ℕ) (n : ℕ) → n ≤ i → sum_first (λ t. one (put i w f t == k)) n ≡ sum_first (λ t. one (f t == k)) n
count_past i w k f zero past = refl
count_past i w k f (suc n) past =
    let rest = count_past i w k f n (omega arith) in
    let same : put i w f n ≡ f n = put_other i w f n (λ e. omega arith) in
    let last : one (put i w f n == k) ≡ one (f n == k) = ap (λ (x : ℕ). one (x == k)) same in
    omega (arith, ints)

-- How many have a value, after one change. A count over all rows moves by one entry where one row changes: what it had is taken
-- off, and what it has now is added. The places of store and end are such counts, so this one lemma does the arithmetic of all
-- moves below.
pub count_put : (i w k : ℕ) (f : ℕ → ℕ) (n : ℕ) → i < n →
    sum_first (λ t. one (put i w f t == k)) n +ℤ one (f i == k) ≡ sum_first (λ t. one (f t == k)) n +ℤ one (w == k)
count_put i w k f zero within = absurd (omega arith)
count_put i w k f (suc n) within = elim (cases_lt i n) [
  | inl below ↦
      let rest = count_put i w k f n below in
      let same : put i w f n ≡ f n = put_other i w f n (λ e. omega arith) in
      let last : one (put i w f n == k) ≡ one (f n == k) = ap (λ (x : ℕ). one (x == k)) same in
      omega (arith, ints)
  | inr past ↦
      let same : n ≡ i = omega arith in
      let rest = count_past i w k f n (omega arith) in
      let at : put i w f n ≡ w = (let P : ℕ → Type 0 = λ x. put i w f x ≡ w in subst P (sym same) (put_same i w f)) in
      let last : one (put i w f n == k) ≡ one (w == k) = ap (λ (x : ℕ). one (x == k)) at in
      let old : one (f n == k) ≡ one (f i == k) = ap (λ (x : ℕ). one (f x == k)) same in
      omega (arith, ints)
]

pub held_but : (n most : ℕ) (to from : ℕ → ℕ) (spare room : ℕ) → IsHeld n most to from spare room → IsHeldBut n most to from spare room 0
held_but n most to from spare room is =
    let starts = is.starts in record { matched = is.matched; ends = is.ends; starts = omega (arith, ints) }

pub but_held : (n most : ℕ) (to from : ℕ → ℕ) (spare room : ℕ) → IsHeldBut n most to from spare room 0 → IsHeld n most to from spare room
but_held n most to from spare room is =
    let starts = is.starts in record { matched = is.matched; ends = is.ends; starts = omega (arith, ints) }

pub same_or_not : (a b : ℕ) → (a ≡ b) ⊎ (a ≢ b)
same_or_not a b = go (a == b) refl
  where
    go : (x : Bool) → (a == b) ≡ x → (a ≡ b) ⊎ (a ≢ b)
    go true e = inl (grind (arith, nat_tests))
    go false e = inr (λ is. absurd (let bad : (a == b) ≡ true = grind (arith, nat_tests) in let two : true ≡ false = sym bad ∙ e in cc))

-- A trip off a trip. Below are the moves of which a change of the matching is made: four that take a row off its column, and four
-- that give a free column to a free row, each for row and store, column and end. Between taking and giving, units of the store are
-- in hand, and the condition counts them: so each move by itself keeps it, and any chain of moves that ends with empty hands is a
-- matching again (`but_held`).
pub take_row : (n most : ℕ) (to from : ℕ → ℕ) (spare room hand free x v : ℕ) → IsHeldBut n most to from spare room hand →
    n < free → x < n → v < n → to x ≡ v →
    IsHeldBut n most (put x free to) (put v free from) spare room hand
take_row n most to from spare room hand free x v is outside x_in v_in at =
    let back_at : from v ≡ x = is.matched.onto x v x_in v_in at in
    record {
      matched = record { onto = onto back_at; back = back back_at };
      ends =
          let counted = count_put x free n to n x_in in
          let old : one (to x == n) ≡ pos 0 = one_not (to x) n (λ e. omega arith) in
          let new : one (free == n) ≡ pos 0 = one_not free n (λ e. omega arith) in
          let ends = is.ends in
          omega (arith, ints);
      starts =
          let counted = count_put v free n from n v_in in
          let old : one (from v == n) ≡ pos 0 = one_not (from v) n (λ e. omega arith) in
          let new : one (free == n) ≡ pos 0 = one_not free n (λ e. omega arith) in
          let starts = is.starts in
          omega (arith, ints);
    }
  where
    onto : from v ≡ x → (t u : ℕ) → t < n → u < n → put x free to t ≡ u → put v free from u ≡ t
    onto back_at t u t_in u_in e = elim (same_or_not t x) [
      | inl same ↦ absurd (let P : ℕ → Type 0 = λ y. put x free to y ≡ u in let bad : free ≡ u =
          sym (put_same x free to) ∙ subst P same e in omega arith)
      | inr apart ↦
          let goes : to t ≡ u = sym (put_other x free to t apart) ∙ e in
          let comes : from u ≡ t = is.matched.onto t u t_in u_in goes in
          put_other v free from u
          (λ same. absurd (apart (let P : ℕ → Type 0 = λ y. from y ≡ t in let q : from v ≡ t = subst P same comes in sym q ∙ back_at)))
          ∙ comes
    ]

    back : from v ≡ x → (t u : ℕ) → t < n → u < n → put v free from u ≡ t → put x free to t ≡ u
    back back_at t u t_in u_in e = elim (same_or_not u v) [
      | inl same ↦ absurd (let P : ℕ → Type 0 = λ y. put v free from y ≡ t in let bad : free ≡ t =
          sym (put_same v free from) ∙ subst P same e in omega arith)
      | inr apart ↦
          let comes : from u ≡ t = sym (put_other v free from u apart) ∙ e in
          let goes : to t ≡ u = is.matched.back t u t_in u_in comes in
          put_other x free to t (λ same.
          absurd (apart (let P : ℕ → Type 0 = λ y. to y ≡ u in let q : to x ≡ u = subst P same goes in sym q ∙ at))) ∙ goes
    ]

-- the store off a trip
pub take_start : (n most : ℕ) (to from : ℕ → ℕ) (spare room hand free v : ℕ) → IsHeldBut n most to from spare room hand →
    n < free → v < n → from v ≡ n →
    IsHeldBut n most to (put v free from) spare room (suc hand)
take_start n most to from spare room hand free v is outside v_in at = record {
  matched = record {
    onto = λ t u t_in u_in goes.
        let comes : from u ≡ t = is.matched.onto t u t_in u_in goes in
        put_other v free from u
        (λ same. absurd (let P : ℕ → Type 0 = λ y. from y ≡ t in let q : from v ≡ t = subst P same comes in omega arith)) ∙ comes;
    back = back;
  };
  ends = is.ends;
  starts =
      let counted = count_put v free n from n v_in in
      let old : one (from v == n) ≡ pos 1 = one_same (from v) n at in
      let new : one (free == n) ≡ pos 0 = one_not free n (λ e. omega arith) in
      let starts = is.starts in
      omega (arith, ints);
}
  where
    back : (t u : ℕ) → t < n → u < n → put v free from u ≡ t → to t ≡ u
    back t u t_in u_in e = elim (same_or_not u v) [
      | inl same ↦ absurd (let P : ℕ → Type 0 = λ y. put v free from y ≡ t in let bad : free ≡ t =
          sym (put_same v free from) ∙ subst P same e in omega arith)
      | inr apart ↦ is.matched.back t u t_in u_in (sym (put_other v free from u apart) ∙ e)
    ]

-- a trip off the end
pub take_end : (n most : ℕ) (to from : ℕ → ℕ) (spare room hand free x : ℕ) → IsHeldBut n most to from spare room hand →
    n < free → x < n → to x ≡ n →
    IsHeldBut n most (put x free to) from spare (suc room) hand
take_end n most to from spare room hand free x is outside x_in at = record {
  matched = record {
    onto = onto;
    back = λ t u t_in u_in comes.
        let goes : to t ≡ u = is.matched.back t u t_in u_in comes in
        put_other x free to t (λ same. absurd (let P : ℕ → Type 0 = λ y. to y ≡ u in let q : to x ≡ u = subst P same goes in omega arith))
        ∙ goes;
  };
  ends =
      let counted = count_put x free n to n x_in in
      let old : one (to x == n) ≡ pos 1 = one_same (to x) n at in
      let new : one (free == n) ≡ pos 0 = one_not free n (λ e. omega arith) in
      let ends = is.ends in
      omega (arith, ints);
  starts = is.starts;
}
  where
    onto : (t u : ℕ) → t < n → u < n → put x free to t ≡ u → from u ≡ t
    onto t u t_in u_in e = elim (same_or_not t x) [
      | inl same ↦ absurd (let P : ℕ → Type 0 = λ y. put x free to y ≡ u in let bad : free ≡ u =
          sym (put_same x free to) ∙ subst P same e in omega arith)
      | inr apart ↦ is.matched.onto t u t_in u_in (sym (put_other x free to t apart) ∙ e)
    ]

-- a vehicle that stays off the end
pub take_stay : (n most : ℕ) (to from : ℕ → ℕ) (spare room hand : ℕ) → IsHeldBut n most to from (suc spare) room hand →
    IsHeldBut n most to from spare (suc room) (suc hand)
take_stay n most to from spare room hand is = let ends = is.ends in let starts = is.starts in
    record { matched = is.matched; ends = omega (arith, ints); starts = omega (arith, ints) }

-- a trip onto a trip
pub put_row : (n most : ℕ) (to from : ℕ → ℕ) (spare room hand x v : ℕ) → IsHeldBut n most to from spare room hand → x < n →
    v < n → n < to x → n < from v →
    IsHeldBut n most (put x v to) (put v x from) spare room hand
put_row n most to from spare room hand x v is x_in v_in x_free v_free = record {
  matched = record { onto = onto; back = back };
  ends =
      let counted = count_put x v n to n x_in in
      let old : one (to x == n) ≡ pos 0 = one_not (to x) n (λ e. omega arith) in
      let new : one (v == n) ≡ pos 0 = one_not v n (λ e. omega arith) in
      let ends = is.ends in
      omega (arith, ints);
  starts =
      let counted = count_put v x n from n v_in in
      let old : one (from v == n) ≡ pos 0 = one_not (from v) n (λ e. omega arith) in
      let new : one (x == n) ≡ pos 0 = one_not x n (λ e. omega arith) in
      let starts = is.starts in
      omega (arith, ints);
}
  where
    onto : (t u : ℕ) → t < n → u < n → put x v to t ≡ u → put v x from u ≡ t
    onto t u t_in u_in e = elim (same_or_not t x) [
      | inl same ↦
          let P : ℕ → Type 0 = λ y. put x v to y ≡ u in
          let is_v : v ≡ u = sym (put_same x v to) ∙ subst P same e in
          let Q : ℕ → Type 0 = λ y. put v x from y ≡ x in
          subst Q is_v (put_same v x from) ∙ sym same
      | inr apart ↦
          let goes : to t ≡ u = sym (put_other x v to t apart) ∙ e in
          let comes : from u ≡ t = is.matched.onto t u t_in u_in goes in
          put_other v x from u (λ same. absurd (let P : ℕ → Type 0 = λ y. from y ≡ t in let q : from v ≡ t =
          subst P same comes in omega arith)) ∙ comes
    ]

    back : (t u : ℕ) → t < n → u < n → put v x from u ≡ t → put x v to t ≡ u
    back t u t_in u_in e = elim (same_or_not u v) [
      | inl same ↦
          let P : ℕ → Type 0 = λ y. put v x from y ≡ t in
          let is_x : x ≡ t = sym (put_same v x from) ∙ subst P same e in
          let Q : ℕ → Type 0 = λ y. put x v to y ≡ v in
          subst Q is_x (put_same x v to) ∙ sym same
      | inr apart ↦
          let comes : from u ≡ t = sym (put_other v x from u apart) ∙ e in
          let goes : to t ≡ u = is.matched.back t u t_in u_in comes in
          put_other x v to t (λ same. absurd (let P : ℕ → Type 0 = λ y. to y ≡ u in let q : to x ≡ u = subst P same goes in omega arith))
          ∙ goes
    ]

-- the store onto a trip
pub put_start : (n most : ℕ) (to from : ℕ → ℕ) (spare room hand v : ℕ) → IsHeldBut n most to from spare room (suc hand) →
    v < n → n < from v →
    IsHeldBut n most to (put v n from) spare room hand
put_start n most to from spare room hand v is v_in v_free = record {
  matched = record {
    onto = λ t u t_in u_in goes.
        let comes : from u ≡ t = is.matched.onto t u t_in u_in goes in
        put_other v n from u (λ same. absurd (let P : ℕ → Type 0 = λ y. from y ≡ t in let q : from v ≡ t =
        subst P same comes in omega arith)) ∙ comes;
    back = back;
  };
  ends = is.ends;
  starts =
      let counted = count_put v n n from n v_in in
      let old : one (from v == n) ≡ pos 0 = one_not (from v) n (λ e. omega arith) in
      let new : one (n == n) ≡ pos 1 = one_same n n refl in
      let starts = is.starts in
      omega (arith, ints);
}
  where
    back : (t u : ℕ) → t < n → u < n → put v n from u ≡ t → to t ≡ u
    back t u t_in u_in e = elim (same_or_not u v) [
      | inl same ↦ absurd (let P : ℕ → Type 0 = λ y. put v n from y ≡ t in let bad : n ≡ t =
          sym (put_same v n from) ∙ subst P same e in omega arith)
      | inr apart ↦ is.matched.back t u t_in u_in (sym (put_other v n from u apart) ∙ e)
    ]

-- a trip onto the end
pub put_end : (n most : ℕ) (to from : ℕ → ℕ) (spare room hand x : ℕ) → IsHeldBut n most to from spare (suc room) hand → x < n → n < to x →
    IsHeldBut n most (put x n to) from spare room hand
put_end n most to from spare room hand x is x_in x_free = record {
  matched = record {
    onto = onto;
    back = λ t u t_in u_in comes.
        let goes : to t ≡ u = is.matched.back t u t_in u_in comes in
        put_other x n to t (λ same. absurd (let P : ℕ → Type 0 = λ y. to y ≡ u in let q : to x ≡ u = subst P same goes in omega arith))
        ∙ goes;
  };
  ends =
      let counted = count_put x n n to n x_in in
      let old : one (to x == n) ≡ pos 0 = one_not (to x) n (λ e. omega arith) in
      let new : one (n == n) ≡ pos 1 = one_same n n refl in
      let ends = is.ends in
      omega (arith, ints);
  starts = is.starts;
}
  where
    onto : (t u : ℕ) → t < n → u < n → put x n to t ≡ u → from u ≡ t
    onto t u t_in u_in e = elim (same_or_not t x) [
      | inl same ↦ absurd (let P : ℕ → Type 0 = λ y. put x n to y ≡ u in let bad : n ≡ u =
          sym (put_same x n to) ∙ subst P same e in omega arith)
      | inr apart ↦ is.matched.onto t u t_in u_in (sym (put_other x n to t apart) ∙ e)
    ]

-- a vehicle that stays onto the end
pub put_stay : (n most : ℕ) (to from : ℕ → ℕ) (spare room hand : ℕ) → IsHeldBut n most to from spare (suc room) (suc hand) →
    IsHeldBut n most to from (suc spare) room hand
put_stay n most to from spare room hand is = let ends = is.ends in let starts = is.starts in
    record { matched = is.matched; ends = omega (arith, ints); starts = omega (arith, ints) }
