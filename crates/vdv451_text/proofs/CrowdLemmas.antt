-- What is wrong with too many fields is what the machine finds.
use Rattle.std.proofs.Common.{◌≡◌, ℕ, ◌+◌, ◌≤◌, ◌<◌, Bool, true, false, ◌&&◌, ◌||◌, ◌==◌, nat_le, List, [], ◌∷◌, length, Option, Some, Err, refl, sym, ap, ◌∙◌, arith, if◌then◌else◌}
use Rattle.std.specs.List.{list_all}
use Rattle.std.proofs.lemmas.Bool.{false≢true}
use Rattle.std.proofs.lemmas.Bool.Decides.{nat_tests}
use Rattle.std.proofs.Math.Bool.{and-true}
use Rattle.vdv451_text.specs.declared.fault.TextKind.{TextKind}
use Rattle.vdv451_text.specs.declared.fault.TextKind.TheVariants as kinds
use Rattle.vdv451_text.specs.declared.few.FieldKind.{FieldKind}
use Rattle.vdv451_text.specs.declared.few.FieldKind.TheVariants as kind_of
use Rattle.vdv451_text.specs.FewFields.{may_stand, may_end, all_right, few_of}
use Rattle.vdv451_text.specs.Faults.{wrong_fields}
use Rattle.vdv451_text.specs.Fields.{is_void, without_void, at_most_one_void}
use Rattle.vdv451_text.specs.Lines.{Says, Tbl, Atr, Frm, Piece, fields_of}
use Rattle.vdv451_text.specs.Machine.{outcome}
use Rattle.vdv451_text.specs.RowView.{count_of, row_end}
use Rattle.vdv451_text.proofs.FewLemmas.{broken, wrong, crowded, few_fault}

-- Kinds whose last field is as the others. This file is about lines with more fields than may stand there: the code keeps none of
-- the further ones, but looks at each and answers the first of two kinds, a wrong field before a wrong number. The definition tests
-- all fields and then counts them, so the kinds are the same if "all right" says the same to both, which this is for names, formats
-- and counts.
right_all : (kind : FieldKind) → ((p : Piece) → may_end kind p ≡ may_stand kind p) → (ps : List Piece) →
    all_right kind ps ≡ list_all (may_stand kind) ps
right_all kind same [] = refl
right_all kind same (p ∷ []) = same p ∙ sym (and-true (may_stand kind p))
right_all kind same (p ∷ q ∷ ps) = ap (λ t. may_stand kind p && t) (right_all kind same (q ∷ ps))

-- `tbl`
pub tbl_crowd : {A : Type 0} (rest : Option (List ℕ)) (x : A) (fault : TextKind) → few_of kind_of.Name 1 (fields_of rest) ≡ Err fault →
    outcome (wrong_fields 0 0 0 (Says Tbl rest) (fields_of rest)) x ≡ Err fault
tbl_crowd rest x fault e = elim (few_fault kind_of.Name 1 (fields_of rest) fault e) [
  | broken n f ↦ rw (n, f) refl
  | wrong ps s l r f ↦
      let names : list_all (may_stand kind_of.Name) ps ≡ false = sym (right_all kind_of.Name (λ p. refl) ps) ∙ r in
      rw (s, f, names) refl
  | crowded ps s l r f ↦
      let names : list_all (may_stand kind_of.Name) ps ≡ true = sym (right_all kind_of.Name (λ p. refl) ps) ∙ r in
      let number : (length ps == 1) ≡ false = grind (arith, nat_tests) in
      rw (s, f, names, number) refl
]

-- `atr`: among column names the last field may have nothing in it, and the definition drops such a field before it tests the
-- others; so both say the same. One field at most is dropped, so with more than 201 of them there are still more than 200 names,
-- which is the wrong number.
columns_right : (ps : List Piece) → all_right kind_of.ColumnName ps ≡ list_all (may_stand kind_of.ColumnName) (without_void ps)
columns_right [] = refl
columns_right (p ∷ []) = by_test (is_void p) where
  by_test : (t : Bool) → (t || may_stand kind_of.ColumnName p) ≡ list_all (may_stand kind_of.ColumnName) (if t then [] else p ∷ [])
  by_test true = refl
  by_test false = sym (and-true (may_stand kind_of.ColumnName p))
columns_right (p ∷ q ∷ ps) = ap (λ t. may_stand kind_of.ColumnName p && t) (columns_right (q ∷ ps))

one_dropped : (ps : List Piece) → length ps ≤ length (without_void ps) + 1
one_dropped [] = omega arith
one_dropped (p ∷ []) = by_test (is_void p) where
  by_test : (t : Bool) → length (p ∷ []) ≤ length (if t then [] else p ∷ []) + 1
  by_test true = omega arith
  by_test false = omega arith
one_dropped (p ∷ q ∷ ps) = omega (arith, one_dropped (q ∷ ps))

pub atr_crowd : {A : Type 0} (rest : Option (List ℕ)) (x : A) (fault : TextKind) →
    few_of kind_of.ColumnName 201 (fields_of rest) ≡ Err fault → outcome (wrong_fields 0 0 0 (Says Atr rest) (fields_of rest)) x ≡ Err fault
atr_crowd rest x fault e = elim (few_fault kind_of.ColumnName 201 (fields_of rest) fault e) [
  | broken n f ↦ rw (n, f) refl
  | wrong ps s l r f ↦
      let names : list_all (may_stand kind_of.ColumnName) (without_void ps) ≡ false = sym (columns_right ps) ∙ r in
      rw (s, f, names) refl
  | crowded ps s l r f ↦
      let names : list_all (may_stand kind_of.ColumnName) (without_void ps) ≡ true = sym (columns_right ps) ∙ r in
      let long : 200 < length (without_void ps) = omega (arith, one_dropped ps) in
      let low : nat_le 1 (length (without_void ps)) ≡ true = grind (arith, nat_tests) in
      let high : nat_le (length (without_void ps)) 200 ≡ false = grind (arith, nat_tests) in
      rw (s, f, names, low, high) refl
]

-- `frm`: with at least two fields more than columns none is dropped, since a last field with nothing in it is only where there is
-- one too many; so the definition tests the same fields as the code, and their number is wrong. For `end` and `eof`, on which one
-- field may stand and none is dropped, the lemma goes the same way without this question.
all_kept : (c : ℕ) (ps : List Piece) → c + 1 < length ps → at_most_one_void c ps ≡ ps
all_kept c ps l = let other : (length ps == c + 1) ≡ false = grind (arith, nat_tests) in rw other refl

pub frm_crowd : {A : Type 0} (c : ℕ) (rest : Option (List ℕ)) (x : A) (fault : TextKind) →
    few_of kind_of.Format (c + 1) (fields_of rest) ≡ Err fault → outcome (wrong_fields c 0 0 (Says Frm rest) (fields_of rest)) x ≡ Err fault
frm_crowd c rest x fault e = elim (few_fault kind_of.Format (c + 1) (fields_of rest) fault e) [
  | broken n f ↦ rw (n, f) refl
  | wrong ps s l r f ↦
      let formats : list_all (may_stand kind_of.Format) (at_most_one_void c ps) ≡ false =
      ap (list_all (may_stand kind_of.Format)) (all_kept c ps l) ∙ sym (right_all kind_of.Format (λ p. refl) ps) ∙ r in
      rw (s, f, formats) refl
  | crowded ps s l r f ↦
      let formats : list_all (may_stand kind_of.Format) (at_most_one_void c ps) ≡ true =
      ap (list_all (may_stand kind_of.Format)) (all_kept c ps l) ∙ sym (right_all kind_of.Format (λ p. refl) ps) ∙ r in
      let other : (length ps == c) ≡ false = grind (arith, nat_tests) in
      let number : (length (at_most_one_void c ps) == c) ≡ false = ap (λ t. length t == c) (all_kept c ps l) ∙ other in
      rw (s, f, formats, number) refl
]

-- `end` and `eof`
pub count_crowd : (number : ℕ) (rest : Option (List ℕ)) (fault : TextKind) → few_of kind_of.Count 1 (fields_of rest) ≡ Err fault →
    count_of number (fields_of rest) ≡ Err fault
count_crowd number rest fault e = elim (few_fault kind_of.Count 1 (fields_of rest) fault e) [
  | broken n f ↦ rw (n, f) refl
  | wrong ps s l r f ↦
      let counts : list_all (may_stand kind_of.Count) ps ≡ false = sym (right_all kind_of.Count (λ p. refl) ps) ∙ r in
      rw (s, f, counts) refl
  | crowded ps s l r f ↦
      let counts : list_all (may_stand kind_of.Count) ps ≡ true = sym (right_all kind_of.Count (λ p. refl) ps) ∙ r in
      let other : (length ps == 1) ≡ false = grind (arith, nat_tests) in
      rw (s, f, counts, other) refl
]

-- behind the last column
values_right : (ps : List Piece) → all_right kind_of.Value ps ≡ true
values_right [] = refl
values_right (p ∷ []) = refl
values_right (p ∷ q ∷ ps) = values_right (q ∷ ps)

two_left : (ps : List Piece) → 1 < length ps → row_end (Some ps) ≡ Err kinds.Count
two_left [] l = absurd (omega (arith, l))
two_left (p ∷ []) l = absurd (omega (arith, l))
two_left (p ∷ q ∷ ps) l = refl

pub row_crowd : (o : Option (List Piece)) (fault : TextKind) → few_of kind_of.Value 1 o ≡ Err fault → row_end o ≡ Err fault
row_crowd o fault e = elim (few_fault kind_of.Value 1 o fault e) [
  | broken n f ↦ rw (n, f) refl
  | wrong ps s l r f ↦ let right : all_right kind_of.Value ps ≡ true = values_right ps in absurd (false≢true (sym r ∙ right))
  | crowded ps s l r f ↦ rw (s, f) (two_left ps l)
]
