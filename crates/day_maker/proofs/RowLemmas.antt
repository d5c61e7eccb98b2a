-- Rows behind rows.
use Rattle.std.proofs.Common.{◌≡◌, List, [], ◌∷◌, ◌++◌, Result, Ok, Err, OnOk, refl, sym, ◌∙◌, ap, append_assoc}
use Rattle.vdv451_text.specs.declared.table.Field.{Field}
use Rattle.day_maker.specs.declared.cells.Cell.{Cell}
use Rattle.day_maker.specs.Made.{fields_of, rows_of}

rows_append : (xs ys : List (List Cell)) → rows_of (xs ++ ys) ≡ rows_of xs ++ rows_of ys
rows_append [] ys = refl
rows_append (x ∷ xs) ys = ap (λ (rs : List (List Field)). fields_of x ∷ rs) (rows_append xs ys)

-- Rows that are put behind others in two steps. A part whose rows are written by two calls, as the stop sequence out and the stop
-- sequence back, has the rows of both; each call only says what it puts behind the rows that it finds.
pub add_both : {T E : Type 0} (r : Result T E) (xs ys all : List (List Cell)) (old mid new : List (List Field)) → mid ≡ old ++ rows_of xs →
    OnOk r (new ≡ mid ++ rows_of ys) → xs ++ ys ≡ all → OnOk r (new ≡ old ++ rows_of all)
add_both (Ok x) xs ys all old mid new first second whole =
    second ∙ ap (λ (rs : List (List Field)). rs ++ rows_of ys) first ∙ append_assoc old (rows_of xs) (rows_of ys)
    ∙ ap (λ (rs : List (List Field)). old ++ rs) (sym (rows_append xs ys)) ∙ ap (λ (cs : List (List Cell)). old ++ rows_of cs) whole
add_both (Err e) xs ys all old mid new first second whole = tt
