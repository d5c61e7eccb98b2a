-- One line: what the machine makes of it, by the answer on its fields.
use Rattle.std.proofs.Common.{◌≡◌, ℕ, Bool, true, false, List, [], ◌∷◌, ◌++◌, length, Option, Some, None, Result, Ok, Err, refl, sym, ap, ◌∙◌}
use Rattle.vdv451_text.specs.declared.fault.TextKind.{TextKind}
use Rattle.vdv451_text.specs.declared.table.Field.{Field}
use Rattle.vdv451_text.specs.declared.table.Head.{Head}
use Rattle.vdv451_text.specs.declared.table.Table.{Table}
use Rattle.vdv451_text.specs.Faults.{wrong_fields}
use Rattle.vdv451_text.specs.Lines.{Keyword, Says, Tbl, Rec, End, Eof, Piece, fields_of}
use Rattle.vdv451_text.specs.Machine.{State, Open, Named, InRows, Ended, name_on, outcome, step}
use Rattle.vdv451_text.specs.RowView.{ok_map, row_of}
use Rattle.vdv451_text.proofs.RowLemmas.{row_said}

outcome_mapped : {A B : Type 0} (f : A → B) (w : Option TextKind) (x : A) → outcome w (f x) ≡ ok_map f (outcome w x)
outcome_mapped f None x = refl
outcome_mapped f (Some kind) x = refl

-- A right line leads on, and a wrong one is refused (`refuses`): on a line that may stand, the machine's step is the answer on the
-- line's fields with the next state put round it (`ok_map`). So code that reads the fields of the line, and gives up with their
-- fault, makes just this step. The lemmas below say so of each keyword; of the counts of columns, rows and tables each keeps those
-- by which its keyword is tested.
pub leads_on : {A : Type 0} (s : State) (keyword this : Keyword) (rest : Option (List ℕ)) (f : A → State)
    (given : Result A TextKind) (x : A)
    → keyword ≡ this → step s (Says this rest) ≡ ok_map f given → given ≡ Ok x → step s (Says keyword rest) ≡ Ok (f x)
leads_on s keyword this rest f given x k gives ok = ap (λ t. step s (Says t rest)) k ∙ gives ∙ ap (ok_map f) ok

pub refuses : {A : Type 0} (s : State) (keyword this : Keyword) (rest : Option (List ℕ)) (f : A → State)
    (given : Result A TextKind) (kind : TextKind)
    → keyword ≡ this → step s (Says this rest) ≡ ok_map f given → given ≡ Err kind → step s (Says keyword rest) ≡ Err kind
refuses s keyword this rest f given kind k gives bad = ap (λ t. step s (Says t rest)) k ∙ gives ∙ ap (ok_map f) bad

wrong_tbl : (t : ℕ) (rest : Option (List ℕ)) (o : Option (List Piece)) →
    wrong_fields 0 0 t (Says Tbl rest) o ≡ wrong_fields 0 0 0 (Says Tbl rest) o
wrong_tbl t rest None = refl
wrong_tbl t rest (Some ps) = refl

pub tbl_step : (b : Bool) (tables : List Table) (rest : Option (List ℕ)) →
    step (Open b tables) (Says Tbl rest)
    ≡ ok_map (Named tables) (outcome (wrong_fields 0 0 0 (Says Tbl rest) (fields_of rest)) (name_on (Says Tbl rest)))
tbl_step true tables rest = ap (λ w. outcome w (Named tables (name_on (Says Tbl rest)))) (wrong_tbl (length tables) rest (fields_of rest))
    ∙ outcome_mapped (Named tables) (wrong_fields 0 0 0 (Says Tbl rest) (fields_of rest)) (name_on (Says Tbl rest))
tbl_step false tables rest = ap (λ w. outcome w (Named tables (name_on (Says Tbl rest)))) (wrong_tbl (length tables) rest (fields_of rest))
    ∙ outcome_mapped (Named tables) (wrong_fields 0 0 0 (Says Tbl rest) (fields_of rest)) (name_on (Says Tbl rest))

pub eof_step : (b : Bool) (tables : List Table) (number : ℕ) (rest : Option (List ℕ)) → number ≡ length tables →
    step (Open b tables) (Says Eof rest)
    ≡ ok_map (λ _. Ended tables) (outcome (wrong_fields 0 0 number (Says Eof rest) (fields_of rest)) (tt {0}))
eof_step true tables number rest n =
    outcome_mapped (λ _. Ended tables) (wrong_fields 0 0 (length tables) (Says Eof rest) (fields_of rest)) (tt {0})
    ∙ ap (λ t. ok_map (λ _. Ended tables) (outcome (wrong_fields 0 0 t (Says Eof rest) (fields_of rest)) (tt {0}))) (sym n)
eof_step false tables number rest n =
    outcome_mapped (λ _. Ended tables) (wrong_fields 0 0 (length tables) (Says Eof rest) (fields_of rest)) (tt {0})
    ∙ ap (λ t. ok_map (λ _. Ended tables) (outcome (wrong_fields 0 0 t (Says Eof rest) (fields_of rest)) (tt {0}))) (sym n)

pub rec_step : (tables : List Table) (name : List ℕ) (columns : List Head) (rows : List (List Field)) (rest : Option (List ℕ))
    → step (InRows tables name columns rows) (Says Rec rest) ≡ ok_map (λ row. InRows tables name columns (rows ++ row ∷ []))
    (row_of columns (fields_of rest))
rec_step tables name columns rows rest =
    row_said (λ row. InRows tables name columns (rows ++ row ∷ [])) columns (length rows) (length tables) rest (fields_of rest)

wrong_end : (c r t : ℕ) (rest : Option (List ℕ)) (o : Option (List Piece)) →
    wrong_fields c r t (Says End rest) o ≡ wrong_fields 0 r 0 (Says End rest) o
wrong_end c r t rest None = refl
wrong_end c r t rest (Some ps) = refl

pub end_step : (tables : List Table) (name : List ℕ) (columns : List Head) (rows : List (List Field)) (number : ℕ)
    (rest : Option (List ℕ)) → number ≡ length rows
    → step (InRows tables name columns rows) (Says End rest)
    ≡ ok_map (λ _. Open true (tables ++ record { name = name; columns = columns; rows = rows } ∷ []))
    (outcome (wrong_fields 0 number 0 (Says End rest) (fields_of rest)) (tt {0}))
end_step tables name columns rows number rest n =
    let further : State = Open true (tables ++ record { name = name; columns = columns; rows = rows } ∷ []) in
    ap (λ w. outcome w further) (wrong_end (length columns) (length rows) (length tables) rest (fields_of rest))
    ∙ outcome_mapped (λ _. further) (wrong_fields 0 (length rows) 0 (Says End rest) (fields_of rest)) (tt {0})
    ∙ ap (λ t. ok_map (λ _. further) (outcome (wrong_fields 0 t 0 (Says End rest) (fields_of rest)) (tt {0}))) (sym n)
