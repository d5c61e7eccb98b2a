-- The marks that are kept while rows are read, and the first row that gives none.
use Rattle.std.proofs.Common.{◌≡◌, ℕ, ◌+◌, ◌≤◌, Bool, cond, List, [], ◌∷◌, ◌++◌, length, drop, refl, sym, ap, ◌∙◌, append_assoc, append-nil}
use Rattle.std.proofs.lemmas.Iterator.Adapters.{position_from-zero}
use Rattle.std.proofs.lemmas.List.{drop_all}
use Rattle.std.specs.List.{cons_option, filter_map, position_from}
use Rattle.std.specs.Prelude.{Option, Some, None, is_none}
use Rattle.vdv451_text.specs.declared.table.Field.{Field}
use Rattle.plan_cert.specs.declared.marks.MarkTable.{MarkTable}
use Rattle.plan_cert.specs.declared.marks.PassMark.{PassMark}
use Rattle.plan_cert.specs.declared.marks.PassMarks.{PassMarks}
use Rattle.plan_cert.specs.Marks.{kept_marks, marks_in_pass}
use Rattle.plan_cert.specs.Places.{first_wrong}

-- a mark more, if there is one
abbrev pub put : {M : Type 0} → List M → Option M → List M
put marks None = marks
put marks (Some m) = marks ++ m ∷ []

put-moved : {M : Type 0} (marks : List M) (o : Option M) (rest : List M) → put marks o ++ rest ≡ marks ++ cons_option o rest
put-moved marks None rest = refl
put-moved marks (Some m) rest = append_assoc marks (m ∷ []) rest

-- where there are no marks so far, those of the rows are all marks
pub number-start : {M : Type 0} (kept : MarkTable) (say : List Field → Option (PassMark M)) (rows : List (List Field))
    (none : PassMarks M) → none ≡ kept_marks kept [] →
    none.of_number ++ marks_in_pass kept.by_number (filter_map say rows) ≡ marks_in_pass kept.by_number (filter_map say rows)
number-start {M} kept say rows none is =
    ap (λ (marks : PassMarks M). marks.of_number ++ marks_in_pass kept.by_number (filter_map say rows)) is

pub cost-start : {M : Type 0} (kept : MarkTable) (say : List Field → Option (PassMark M)) (rows : List (List Field)) (none : PassMarks M) →
    none ≡ kept_marks kept [] →
    none.of_cost ++ marks_in_pass kept.by_cost (filter_map say rows) ≡ marks_in_pass kept.by_cost (filter_map say rows)
cost-start {M} kept say rows none is = ap (λ (marks : PassMarks M). marks.of_cost ++ marks_in_pass kept.by_cost (filter_map say rows)) is

-- the marks so far and those of the other rows are all marks
pub mark-step : {A M : Type 0} (pick : A → Option M) (say : List Field → Option A) (rows : List (List Field)) (marks now all : List M)
    (place : ℕ) (row : List Field) (e : A) →
    marks ++ filter_map pick (filter_map say (drop place rows)) ≡ all → drop place rows ≡ row ∷ drop (place + 1) rows → say row ≡ Some e →
    now ≡ put marks (pick e) →
    now ++ filter_map pick (filter_map say (drop (place + 1) rows)) ≡ all
mark-step {A} {M} pick say rows marks now all place row e kept at says put_is =
    let others : List A = filter_map say (drop (place + 1) rows) in
    let rest : List M = filter_map pick others in
    let here : marks ++ filter_map pick (filter_map say (drop place rows)) ≡ marks ++ cons_option (pick e) rest =
    ap (λ (rs : List (List Field)). marks ++ filter_map pick (filter_map say rs)) at
    ∙ ap (λ (o : Option A). marks ++ filter_map pick (cons_option o others)) says in
    ap (λ (ms : List M). ms ++ rest) put_is ∙ (put-moved marks (pick e) rest ∙ (sym here ∙ kept))

pub mark-end : {A M : Type 0} (pick : A → Option M) (say : List Field → Option A) (rows : List (List Field))
    (marks all : List M) (place : ℕ) →
    marks ++ filter_map pick (filter_map say (drop place rows)) ≡ all → length rows ≤ place → marks ≡ all
mark-end pick say rows marks all place kept past =
    sym (append-nil marks) ∙ (ap (λ (rs : List (List Field)). marks ++ filter_map pick (filter_map say rs)) (sym (drop_all place rows past))
    ∙ kept)

abbrev no : {A : Type 0} → (List Field → Option A) → List Field → Bool
no say row = is_none (say row)

pub none-start : {A : Type 0} (say : List Field → Option A) (rows : List (List Field)) →
    first_wrong say rows ≡ position_from (no say) 0 rows
none-start say rows = position_from-zero (no say) rows

pub none-here : {A : Type 0} (say : List Field → Option A) (rows : List (List Field)) (o : Option ℕ) (place : ℕ) (row : List Field) →
    o ≡ position_from (no say) place (drop place rows) → drop place rows ≡ row ∷ drop (place + 1) rows → say row ≡ None → Some place ≡ o
none-here {A} say rows o place row is at says =
    sym (is ∙ (ap (position_from (no say) place) at
    ∙ ap (λ (x : Option A). cond (is_none x) (Some place) (position_from (no say) (place + 1) (drop (place + 1) rows))) says))

pub none-step : {A : Type 0} (say : List Field → Option A) (rows : List (List Field)) (o : Option ℕ) (place : ℕ)
    (row : List Field) (e : A) →
    o ≡ position_from (no say) place (drop place rows) → drop place rows ≡ row ∷ drop (place + 1) rows → say row ≡ Some e →
    o ≡ position_from (no say) (place + 1) (drop (place + 1) rows)
none-step {A} say rows o place row e is at says =
    is ∙ (ap (position_from (no say) place) at
    ∙ ap (λ (x : Option A). cond (is_none x) (Some place) (position_from (no say) (place + 1) (drop (place + 1) rows))) says)

pub none-end : {A : Type 0} (say : List Field → Option A) (rows : List (List Field)) (o : Option ℕ) (place : ℕ) →
    o ≡ position_from (no say) place (drop place rows) → length rows ≤ place → None ≡ o
none-end say rows o place is past = sym (is ∙ ap (position_from (no say) place) (drop_all place rows past))
