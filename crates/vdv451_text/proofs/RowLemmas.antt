-- A row: what the code finds on a `rec` line, field by field, is what the machine makes of it.
use Rattle.std.proofs.Common.{◌≡◌, ℕ, suc, ◌+◌, ◌<◌, Bool, true, false, not, ◌==◌, List, [], ◌∷◌, ◌++◌, length, drop, get_or, unwrap_or, Option, Some, None, Result, Ok, Err, append_assoc, drop-cons, add-one, refl, sym, ap, ◌∙◌, arith, if◌then◌else◌}
use Rattle.std.specs.List.{list_all}
use Rattle.std.specs.Option.{option_map}
use Rattle.std.proofs.lemmas.Bool.Decides.{nat_tests}
use Rattle.vdv451_text.specs.declared.fault.TextKind.{TextKind}
use Rattle.vdv451_text.specs.declared.fault.TextKind.TheVariants as kinds
use Rattle.vdv451_text.specs.declared.table.Field.{Field}
use Rattle.vdv451_text.specs.declared.table.Head.{Head}
use Rattle.vdv451_text.specs.Faults.{if_wrong, is_right, wrong_fields}
use Rattle.vdv451_text.specs.FieldView.{field_or_fault, with_piece}
use Rattle.vdv451_text.specs.Fields.{value_of, is_void, without_void, at_most_one_void}
use Rattle.vdv451_text.specs.Lines.{Says, Rec, Piece, fields_of}
use Rattle.vdv451_text.specs.Machine.{outcome, values}
use Rattle.vdv451_text.specs.RowView.{ok_map, row_of}

row_none : (columns : List Head) → row_of columns None ≡ Err kinds.Field
row_none [] = refl
row_none (c ∷ columns) = refl

further : (before : List Field) (v : Field) (r : Result (List Field) TextKind) →
    ok_map (λ m. before ++ m) (ok_map (λ row. v ∷ row) r) ≡ ok_map (λ m. (before ++ v ∷ []) ++ m) r
further before v (Ok row) = ap Ok (sym (append_assoc before (v ∷ []) row))
further before v (Err kind) = refl

one_value : (before : List Field) (column : Head) (columns : List Head) (p : Piece) (more : Option (List Piece))
    → ok_map (λ m. before ++ m) (row_of (column ∷ columns) (with_piece (Some p) more))
    ≡ ok_map (λ m. (before ++ value_of column.format p ∷ []) ++ m) (row_of columns more)
one_value before column columns p None = ap (ok_map (λ m. (before ++ value_of column.format p ∷ []) ++ m)) (sym (row_none columns))
one_value before column columns p (Some ps) = further before (value_of column.format p) (row_of columns (Some ps))

column_left : (columns : List Head) (i : ℕ) (column : Head) → i < length columns → column ≡ get_or columns i column →
    drop i columns ≡ column ∷ drop (i + 1) columns
column_left columns i column below at =
    drop-cons columns i column below ∙ ap (λ c. c ∷ drop (suc i) columns) (sym at) ∙ ap (λ n. column ∷ drop n columns) (sym (add-one i))

-- The field of one column: the values so far, before what the columns left make of the fields left, are what all columns make of
-- all fields; one column and one field move to the values so far. A broken field ends the row with its fault (`row_breaks`). At the
-- last column the row is whole, and `row_counted` says that this is the row of the definition.
pub row_goes_on : (whole : Result (List Field) TextKind) (columns : List Head) (i : ℕ) (column : Head) (before after : List Field)
    (left : Option (List ℕ)) (bytes : List ℕ) (o : Option Piece) (more : Option (List Piece)) (v : Field)
    → whole ≡ ok_map (λ m. before ++ m) (row_of (drop i columns) (fields_of left)) → i < length columns → column ≡ get_or columns i column →
    left ≡ Some bytes → fields_of (Some bytes) ≡ with_piece o more → field_or_fault (option_map (value_of column.format) o) ≡ Ok v →
    after ≡ before ++ v ∷ []
    → whole ≡ ok_map (λ m. after ++ m) (row_of (drop (i + 1) columns) more)
row_goes_on whole columns i column before after left bytes None more v all below at is cut ok a = absurd cc
row_goes_on whole columns i column before after left bytes (Some p) more v all below at is cut ok a =
    let same : value_of column.format p ≡ v = cc in
    let value : before ++ value_of column.format p ∷ [] ≡ after = ap (λ t. before ++ t ∷ []) same ∙ sym a in
    all ∙ ap (λ t. ok_map (λ m. before ++ m) (row_of t (fields_of left))) (column_left columns i column below at)
    ∙ ap (λ t. ok_map (λ m. before ++ m) (row_of (column ∷ drop (i + 1) columns) (fields_of t))) is
    ∙ ap (λ t. ok_map (λ m. before ++ m) (row_of (column ∷ drop (i + 1) columns) t)) cut
    ∙ one_value before column (drop (i + 1) columns) p more ∙ ap (λ t. ok_map (λ m. t ++ m) (row_of (drop (i + 1) columns) more)) value

pub row_breaks : (whole : Result (List Field) TextKind) (columns : List Head) (i : ℕ) (column : Head) (before : List Field)
    (left : Option (List ℕ)) (bytes : List ℕ) (o : Option Piece) (more : Option (List Piece)) (kind : TextKind)
    → whole ≡ ok_map (λ m. before ++ m) (row_of (drop i columns) (fields_of left)) → i < length columns → column ≡ get_or columns i column →
    left ≡ Some bytes → fields_of (Some bytes) ≡ with_piece o more → field_or_fault (option_map (value_of column.format) o) ≡ Err kind
    → whole ≡ Err kind
row_breaks whole columns i column before left bytes None more kind all below at is cut bad =
    let same : kinds.Field ≡ kind = cc in
    all ∙ ap (λ t. ok_map (λ m. before ++ m) (row_of t (fields_of left))) (column_left columns i column below at)
    ∙ ap (λ t. ok_map (λ m. before ++ m) (row_of (column ∷ drop (i + 1) columns) (fields_of t))) is
    ∙ ap (λ t. ok_map (λ m. before ++ m) (row_of (column ∷ drop (i + 1) columns) t)) cut ∙ ap Err same
row_breaks whole columns i column before left bytes (Some p) more kind all below at is cut bad = absurd cc

-- all values of a row
abbrev counted : List Head → List Piece → Result (List Field) TextKind
counted columns ps = if length (at_most_one_void (length columns) ps)
    == length columns then Ok (values columns (at_most_one_void (length columns) ps)) else Err kinds.Count

one_kept : (columns : List Head) (column : Head) (p : Piece) (ps : List Piece) →
    at_most_one_void (length (column ∷ columns)) (p ∷ ps) ≡ p ∷ at_most_one_void (length columns) ps
one_kept columns column p [] =
    let a : (length (p ∷ []) == length (column ∷ columns) + 1) ≡ false = grind (arith, nat_tests) in
    let b : (length {A = Piece} [] == length columns + 1) ≡ false = grind (arith, nat_tests) in
    rw (a, b) refl
one_kept columns column p (q ∷ ps) =
    let same : (length (p ∷ q ∷ ps) == length (column ∷ columns) + 1) ≡ (length (q ∷ ps) == length columns + 1) =
    grind (arith, nat_tests) in
    rw same (by_test (length (q ∷ ps) == length columns + 1)) where
      by_test : (t : Bool) → (if t then without_void (p ∷ q ∷ ps) else p ∷ q ∷ ps) ≡ p ∷ (if t then without_void (q ∷ ps) else q ∷ ps)
      by_test true = refl
      by_test false = refl

-- Values taken column by column are those of the definition, which drops a last void field where there is one too many, counts, and
-- takes all values at once. By induction on columns and pieces: one column and one piece less leaves the difference of their
-- numbers as it was (`one_kept`), and behind the last column only one void field may be left. So the code makes a row without
-- holding its pieces.
row_counted : (columns : List Head) (ps : List Piece) → row_of columns (Some ps) ≡ counted columns ps
row_counted [] [] = refl
row_counted [] (p ∷ []) =
    let Goal : Bool → Type 0 =
    λ t. ok_map (λ _. []) (if t then Ok (tt {0}) else Err kinds.Count)
    ≡ (if length (if t then [] else p ∷ []) == 0 then Ok (values [] (if t then [] else p ∷ [])) else Err kinds.Count) in
    let both : (t : Bool) → Goal t = λ t. elim t as Goal [ true ↦ refl | false ↦ refl ] in both (is_void p)
row_counted [] (p ∷ q ∷ ps) =
    let a : (length (p ∷ q ∷ ps) == 0 + 1) ≡ false = grind (arith, nat_tests) in
    let b : (length (p ∷ q ∷ ps) == 0) ≡ false = grind (arith, nat_tests) in
    rw (a, b) refl
row_counted (column ∷ columns) [] =
    let a : (length {A = Piece} [] == length (column ∷ columns) + 1) ≡ false = grind (arith, nat_tests) in
    let b : (length {A = Piece} [] == length (column ∷ columns)) ≡ false = grind (arith, nat_tests) in
    rw (a, b) refl
row_counted (column ∷ columns) (p ∷ ps) =
    let kept = at_most_one_void (length columns) ps in
    let same : (length (p ∷ kept) == length (column ∷ columns)) ≡ (length kept == length columns) = grind (arith, nat_tests) in
    let by_test : (t : Bool) → ok_map (λ row. value_of column.format p ∷ row) (if t then Ok (values columns kept) else Err kinds.Count)
    ≡ (if t then Ok (values (column ∷ columns) (p ∷ kept)) else Err kinds.Count) =
    λ t. elim t as (λ t. ok_map (λ row. value_of column.format p ∷ row) (if t then Ok (values columns kept) else Err kinds.Count)
    ≡ (if t then Ok (values (column ∷ columns) (p ∷ kept)) else Err kinds.Count)) [ true ↦ refl | false ↦ refl ] in
    ap (ok_map (λ row. value_of column.format p ∷ row)) (row_counted columns ps) ∙ by_test (length kept == length columns)
    ∙ ap (λ t. if t then Ok (values (column ∷ columns) (p ∷ kept)) else Err kinds.Count) (sym same)
    ∙ ap (λ t. if length t == length (column ∷ columns) then Ok (values (column ∷ columns) t) else Err kinds.Count)
    (sym (one_kept columns column p ps))

-- what the machine makes of a `rec` line
all_right : (rest : Option (List ℕ)) (ps : List Piece) → list_all (is_right (Says Rec rest)) ps ≡ true
all_right rest [] = refl
all_right rest (p ∷ ps) = all_right rest ps

pub row_said : {A : Type 0} (f : List Field → A) (columns : List Head) (r t : ℕ) (rest : Option (List ℕ)) (o : Option (List Piece))
    → outcome (wrong_fields (length columns) r t (Says Rec rest) o)
    (f (values columns (at_most_one_void (length columns) (unwrap_or o [])))) ≡ ok_map f (row_of columns o)
row_said f columns r t rest None = ap (ok_map f) (sym (row_none columns))
row_said f columns r t rest (Some ps) =
    let kept = at_most_one_void (length columns) ps in
    let Goal : Bool → Type 0 = λ b. outcome (if_wrong (not b) kinds.Count None) (f (values columns kept))
    ≡ ok_map f (if b then Ok (values columns kept) else Err kinds.Count) in
    let both : (b : Bool) → Goal b = λ b. elim b as Goal [ true ↦ refl | false ↦ refl ] in
    rw (all_right rest kept) (both (length kept == length columns)) ∙ ap (ok_map f) (sym (row_counted columns ps))
