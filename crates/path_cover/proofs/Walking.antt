-- A step back along an augmenting path: a row leaves the column by which it was reached for the column that it reached.
use Rattle.std.proofs.Common.{◌≡◌, ◌≢◌, ◌==◌, ℕ, ◌-◌, ◌<◌, ◌≤◌, Bool, true, false, cond, nat_lt, suc, inl, inr, refl, sym, subst, ◌∙◌, arith}
use Rattle.std.proofs.lemmas.Bool.{cases_lt}
use Rattle.std.proofs.lemmas.Bool.Decides.{nat_tests}
use Rattle.path_cover.specs.Matchings.{IsHeld, IsHeldBut}
use Rattle.path_cover.specs.Augmenting.{HasPlace}
use Rattle.path_cover.specs.Trees.{Matching}
use Rattle.path_cover.proofs.Moves.{but_held, held_but, put, put_end, put_other, put_row, put_same, put_start, put_stay, take_end, take_row, take_start, take_stay}

-- the place of a row taken off a column, and given to another
abbrev pub taken : ℕ → ℕ → ℕ → ℕ → Matching → Matching
taken n free x v m = record {
  to = cond (nat_lt x n) (put x free m.to) m.to;
  from = cond (nat_lt v n) (put v free m.from) m.from;
  spare = cond (nat_lt v n) m.spare (cond (nat_lt x n) m.spare (m.spare - 1));
  room = cond (nat_lt v n) m.room (suc m.room);
}

abbrev pub placed : ℕ → ℕ → ℕ → Matching → Matching
placed n x v m = record {
  to = cond (nat_lt x n) (put x v m.to) m.to;
  from = cond (nat_lt v n) (put v x m.from) m.from;
  spare = cond (nat_lt v n) m.spare (cond (nat_lt x n) m.spare (suc m.spare));
  room = cond (nat_lt v n) m.room (m.room - 1);
}

-- a row holds a column
pub record Holds (n x v : ℕ) (m : Matching) : Type 0 where
  pub row_in : x ≤ n
  pub column_in : v ≤ n
  pub row : x < n → m.to x ≡ v
  pub store : x ≡ n → v < n → m.from v ≡ n
  pub stays : x ≡ n → v ≡ n → 0 < m.spare

abbrev pub in_hand : ℕ → ℕ → ℕ
in_hand n x = cond (nat_lt x n) 0 1

abbrev pub HeldBut : ℕ → ℕ → ℕ → Matching → Type 0
HeldBut n most hand m = IsHeldBut n most m.to m.from m.spare m.room hand

pub lt_true : (a b : ℕ) → a < b → nat_lt a b ≡ true
lt_true a b h = grind (arith, nat_tests)

pub lt_false : (a b : ℕ) → b ≤ a → nat_lt a b ≡ false
lt_false a b h = grind (arith, nat_tests)

pub taken_held : (n most free x v : ℕ) (m : Matching) → HeldBut n most 0 m → n < free → Holds n x v m →
    HeldBut n most (in_hand n x) (taken n free x v m)
taken_held n most free x v m is outside holds = elim (cases_lt x n) [
  | inl row ↦ elim (cases_lt v n) [
    | inl column ↦
        let r = lt_true x n row in let k = lt_true v n column in
        rw (r, k) (take_row n most m.to m.from m.spare m.room 0 free x v is outside row column (holds.row row))
    | inr past ↦
        let r = lt_true x n row in let k = lt_false v n past in
        let column_in = holds.column_in in
        let at : m.to x ≡ n = holds.row row ∙ (let e : v ≡ n = omega arith in e) in
        rw (r, k) (take_end n most m.to m.from m.spare m.room 0 free x is outside row at)
  ]
  | inr store ↦
      let row_in = holds.row_in in
      let is_store : x ≡ n = omega arith in
      elim (cases_lt v n) [
        | inl column ↦
            let r = lt_false x n store in let k = lt_true v n column in
            rw (r, k) (take_start n most m.to m.from m.spare m.room 0 free v is outside column (holds.store is_store column))
        | inr past ↦
            let r = lt_false x n store in let k = lt_false v n past in
            let column_in = holds.column_in in
            let some = holds.stays is_store (omega arith) in
            let one_less : m.spare ≡ suc (m.spare - 1) = omega arith in
            let P : ℕ → Type 0 = λ s. IsHeldBut n most m.to m.from s m.room 0 in
            rw (r, k) (take_stay n most m.to m.from (m.spare - 1) m.room 0 (subst P one_less is))
      ]
]

pub placed_held : (n most x v : ℕ) (m : Matching) → HeldBut n most (in_hand n x) m → x ≤ n → (x < n → n < m.to x) → HasPlace n v m →
    HeldBut n most 0 (placed n x v m)
placed_held n most x v m is row_in row_free place = elim (cases_lt x n) [
  | inl row ↦
      let r = lt_true x n row in
      let H : Bool → Type 0 = λ b. IsHeldBut n most m.to m.from m.spare m.room (cond b 0 1) in
      let is' : HeldBut n most 0 m = subst H r is in
      elim (cases_lt v n) [
        | inl column ↦ let k = lt_true v n column in
            rw (r, k) (put_row n most m.to m.from m.spare m.room 0 x v is' row column (row_free row) (place.column column))
        | inr past ↦
            let k = lt_false v n past in
            let column_in = place.column_in in
            let e : v ≡ n = omega arith in
            let some = place.room e in
            let one_less : m.room ≡ suc (m.room - 1) = omega arith in
            let P : ℕ → Type 0 = λ s. IsHeldBut n most m.to m.from m.spare s 0 in
            let Q : ℕ → Type 0 = λ w. IsHeldBut n most (put x w m.to) m.from m.spare (m.room - 1) 0 in
            rw (r, k) (subst Q (sym e) (put_end n most m.to m.from m.spare (m.room - 1) 0 x (subst P one_less is') row (row_free row)))
      ]
  | inr store ↦
      let r = lt_false x n store in
      let H : Bool → Type 0 = λ b. IsHeldBut n most m.to m.from m.spare m.room (cond b 0 1) in
      let is' : HeldBut n most 1 m = subst H r is in
      let is_store : x ≡ n = omega arith in
      elim (cases_lt v n) [
        | inl column ↦
            let k = lt_true v n column in
            let Q : ℕ → Type 0 = λ y. IsHeldBut n most m.to (put v y m.from) m.spare m.room 0 in
            rw (r, k) (subst Q (sym is_store) (put_start n most m.to m.from m.spare m.room 0 v is' column (place.column column)))
        | inr past ↦
            let k = lt_false v n past in
            let column_in = place.column_in in
            let some = place.room (omega arith) in
            let one_less : m.room ≡ suc (m.room - 1) = omega arith in
            let P : ℕ → Type 0 = λ s. IsHeldBut n most m.to m.from m.spare s 1 in
            rw (r, k) (put_stay n most m.to m.from m.spare (m.room - 1) 0 (subst P one_less is'))
      ]
]

-- the row, after its place is taken off: it has none, and its column has a free place; the other column keeps its own
pub taken_row : (n free x v : ℕ) (m : Matching) → n < free → x < n → n < (taken n free x v m).to x
taken_row n free x v m outside row = let r = lt_true x n row in rw r (let e = put_same x free m.to in rw e outside)

pub taken_place : (n free x v : ℕ) (m : Matching) → n < free → v ≤ n → HasPlace n v (taken n free x v m)
taken_place n free x v m outside column_in = record {
  column_in = column_in;
  column = λ column. let k = lt_true v n column in rw k (let e = put_same v free m.from in rw e outside);
  room = λ at_end. let k = lt_false v n (omega arith) in rw k (omega arith);
}

pub taken_other : (n free x v w : ℕ) (m : Matching) → n < free → HasPlace n w m → HasPlace n w (taken n free x v m)
taken_other n free x v w m outside place = record {
  column_in = place.column_in;
  column = λ column. go (nat_lt v n) (w == v) refl refl (place.column column);
  room = λ at_end. let some = place.room at_end in more (nat_lt v n) some;
}
  where
    go : (b c : Bool) → nat_lt v n ≡ b → (w == v) ≡ c → n < m.from w → n < cond (nat_lt v n) (put v free m.from) m.from w
    go true true k e some = rw k (rw e outside)
    go true false k e some = rw k (rw e some)
    go false c k e some = rw k some

    more : (b : Bool) → 0 < m.room → 0 < cond b m.room (suc m.room)
    more true some = some
    more false some = omega arith

-- a row moves from the column that it holds to one with a free place
abbrev pub moved : ℕ → ℕ → ℕ → ℕ → ℕ → Matching → Matching
moved n free x old v m = placed n x v (taken n free x old m)

pub moved_held : (n most free x old v : ℕ) (m : Matching) → IsHeld n most m.to m.from m.spare m.room → n < free →
    Holds n x old m → HasPlace n v m →
    IsHeld n most (moved n free x old v m).to (moved n free x old v m).from (moved n free x old v m).spare (moved n free x old v m).room
moved_held n most free x old v m is outside holds place =
    let hand = taken_held n most free x old m (held_but n most m.to m.from m.spare m.room is) outside holds in
    but_held n most _ _ _ _ (placed_held n most x v (taken n free x old m) hand holds.row_in (λ row. taken_row n free x old m outside row)
    (taken_other n free x old v m outside place))

-- the root is placed at last
pub rooted_held : (n most x v : ℕ) (m : Matching) → IsHeld n most m.to m.from m.spare m.room → x < n → n < m.to x → HasPlace n v m →
    IsHeld n most (placed n x v m).to (placed n x v m).from (placed n x v m).spare (placed n x v m).room
rooted_held n most x v m is row_in row_free place =
    let r = lt_true x n row_in in
    let H : Bool → Type 0 = λ b. IsHeldBut n most m.to m.from m.spare m.room (cond b 0 1) in
    let hand : HeldBut n most (in_hand n x) m = subst H (sym r) (held_but n most m.to m.from m.spare m.room is) in
    but_held n most _ _ _ _ (placed_held n most x v m hand (omega arith) (λ row. row_free) place)

-- other rows keep their columns
pub moved_other : (n free x old v t : ℕ) (m : Matching) → t ≢ x → (moved n free x old v m).to t ≡ m.to t
moved_other n free x old v t m apart = go (nat_lt x n)
  where
    go : (b : Bool) → cond b (put x v (cond b (put x free m.to) m.to)) (cond b (put x free m.to) m.to) t ≡ m.to t
    go true = put_other x v (put x free m.to) t apart ∙ put_other x free m.to t apart
    go false = refl
