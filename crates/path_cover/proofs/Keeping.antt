-- Matchings as they are kept.
use Rattle.std.proofs.Common.{◌≡◌, ℕ, ◌+◌, ◌-◌, ◌<◌, ◌≤◌, Bool, true, false, cond, nat_lt, suc, List, length, length-set, get_or, set, inl, inr, refl, sym, ap, subst, ◌∙◌, arith}
use Rattle.std.proofs.lemmas.Bool.{cases_lt}
use Rattle.std.proofs.lemmas.List.{get_or-set_same, get_or-set_other}
use Rattle.path_cover.specs.declared.placing.Placing.{Placing}
use Rattle.path_cover.specs.Augmenting.{IsKeptAs}
use Rattle.path_cover.specs.Trees.{Matching}
use Rattle.path_cover.proofs.Moves.{put, put_other, put_same, same_or_not}
use Rattle.path_cover.proofs.Walking.{lt_false, lt_true, placed, taken}

-- a list changed at one place
set_put : (n i w : ℕ) (xs : List ℕ) (f : ℕ → ℕ) → length xs ≡ n → i < n → ((t : ℕ) → t < n → get_or xs t 0 ≡ f t) → (t : ℕ) → t < n →
    get_or (set xs i w) t 0 ≡ put i w f t
set_put n i w xs f count within same t t_in = elim (same_or_not t i) [
  | inl is ↦ (let P : ℕ → Type 0 = λ s. get_or (set xs i w) s 0 ≡ put i w f s in
      subst P (sym is) (get_or-set_same xs i w 0 (omega arith) ∙ sym (put_same i w f)))
  | inr apart ↦ get_or-set_other xs i t w 0 apart ∙ (same t t_in ∙ sym (put_other i w f t apart))
]

set_count : (b : Bool) (xs : List ℕ) (i w : ℕ) → length (cond b (set xs i w) xs) ≡ length xs
set_count true xs i w = length-set xs i w
set_count false xs i w = refl

cond_put : (n k i w : ℕ) (xs : List ℕ) (f : ℕ → ℕ) → length xs ≡ n → ((t : ℕ) → t < n → get_or xs t 0 ≡ f t) → (t : ℕ) → t < n →
    get_or (cond (nat_lt i n) (set xs i w) xs) t 0 ≡ cond (nat_lt i n) (put i w f) f t
cond_put n k i w xs f count same t t_in = elim (cases_lt i n) [
  | inl below ↦ let e = lt_true i n below in rw e (set_put n i w xs f count below same t t_in)
  | inr past ↦ let e = lt_false i n past in rw e (same t t_in)
]

pub taken_kept : (n free x v : ℕ) (old new : Placing) (m : Matching) → IsKeptAs n old m → (n ≤ x → n ≤ v → 0 < old.spare) →
    new.to.items ≡ cond (nat_lt x n) (set old.to.items x free) old.to.items →
    new.from.items ≡ cond (nat_lt v n) (set old.from.items v free) old.from.items →
    new.room ≡ old.room + cond (nat_lt v n) 0 1 → new.spare + cond (nat_lt v n) 0 (cond (nat_lt x n) 0 1) ≡ old.spare →
    IsKeptAs n new (taken n free x v m)
taken_kept n free x v old new m is some to from room spare = record {
  to_count = ap length to ∙ (set_count (nat_lt x n) old.to.items x free ∙ is.to_count);
  from_count = ap length from ∙ (set_count (nat_lt v n) old.from.items v free ∙ is.from_count);
  to = λ t t_in. ap (λ (l : List ℕ). get_or l t 0) to ∙ cond_put n 0 x free old.to.items m.to is.to_count is.to t t_in;
  from = λ u u_in. ap (λ (l : List ℕ). get_or l u 0) from ∙ cond_put n 0 v free old.from.items m.from is.from_count is.from u u_in;
  spare = go_spare (nat_lt v n) (nat_lt x n) refl refl spare;
  room = go_room (nat_lt v n) room;
}
  where
    same_spare : old.spare ≡ m.spare
    same_spare = is.spare

    same_room : old.room ≡ m.room
    same_room = is.room

    go_spare : (b c : Bool) → nat_lt v n ≡ b → nat_lt x n ≡ c → new.spare + cond b 0 (cond c 0 1) ≡ old.spare →
        new.spare ≡ cond b m.spare (cond c m.spare (m.spare - 1))
    go_spare true c b_is c_is e = omega arith
    go_spare false true b_is c_is e = omega arith
    go_spare false false b_is c_is e = omega arith

    go_room : (b : Bool) → new.room ≡ old.room + cond b 0 1 → new.room ≡ cond b m.room (suc m.room)
    go_room true e = omega arith
    go_room false e = omega arith

pub placed_kept : (n x v : ℕ) (old new : Placing) (m : Matching) → IsKeptAs n old m →
    new.to.items ≡ cond (nat_lt x n) (set old.to.items x v) old.to.items →
    new.from.items ≡ cond (nat_lt v n) (set old.from.items v x) old.from.items →
    new.room + cond (nat_lt v n) 0 1 ≡ old.room → new.spare ≡ old.spare + cond (nat_lt v n) 0 (cond (nat_lt x n) 0 1) →
    IsKeptAs n new (placed n x v m)
placed_kept n x v old new m is to from room spare = record {
  to_count = ap length to ∙ (set_count (nat_lt x n) old.to.items x v ∙ is.to_count);
  from_count = ap length from ∙ (set_count (nat_lt v n) old.from.items v x ∙ is.from_count);
  to = λ t t_in. ap (λ (l : List ℕ). get_or l t 0) to ∙ cond_put n 0 x v old.to.items m.to is.to_count is.to t t_in;
  from = λ u u_in. ap (λ (l : List ℕ). get_or l u 0) from ∙ cond_put n 0 v x old.from.items m.from is.from_count is.from u u_in;
  spare = go_spare (nat_lt v n) (nat_lt x n) spare;
  room = go_room (nat_lt v n) room;
}
  where
    same_spare : old.spare ≡ m.spare
    same_spare = is.spare

    same_room : old.room ≡ m.room
    same_room = is.room

    go_spare : (b c : Bool) → new.spare ≡ old.spare + cond b 0 (cond c 0 1) → new.spare ≡ cond b m.spare (cond c m.spare (suc m.spare))
    go_spare true c e = omega arith
    go_spare false true e = omega arith
    go_spare false false e = omega arith

    go_room : (b : Bool) → new.room + cond b 0 1 ≡ old.room → new.room ≡ cond b m.room (m.room - 1)
    go_room true e = omega arith
    go_room false e = omega arith
