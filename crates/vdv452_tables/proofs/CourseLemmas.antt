-- One row more in the stop sequences.
use Rattle.std.proofs.Common.{◌≡◌, Bool, true, false, cond, if◌then◌else◌, List, [], ◌∷◌, ◌++◌, Option, Some, map, filter, refl, sym, ap, ◌∙◌, append_assoc}
use Rattle.std.proofs.lemmas.List.{append-nil}
use Rattle.indexmap.specs.IndexMap.{IndexMap, get}
use Rattle.plan_core.specs.declared.types.Point.{Point}
use Rattle.vdv452_tables.specs.declared.keys.LineKey.{LineKey}
use Rattle.vdv452_rows.specs.declared.rows.lines.StopRow.{StopRow}
use Rattle.vdv452_tables.specs.Indexes.{CourseGrows, course_or_none}
use Rattle.vdv452_tables.specs.Keys.{line_key_eq, stop_key_of}
use Rattle.vdv452_tables.specs.LookUps.{points_of}

-- the points of the first row come first
pub points_more : (key : LineKey) (row : StopRow) (rows : List StopRow) →
    points_of key (row ∷ rows) ≡ points_of key (row ∷ []) ++ points_of key rows
points_more key row rows =
    elim (line_key_eq (stop_key_of row) key) as
    (λ b. map (λ (r : StopRow). r.at)
    (if b then row ∷ filter (λ r. line_key_eq (stop_key_of r) key) rows else filter (λ r. line_key_eq (stop_key_of r) key) rows)
    ≡ map (λ (r : StopRow). r.at) (if b then row ∷ [] else []) ++ points_of key rows) [
      | true ↦ refl
      | false ↦ refl
    ]

-- One row passed: the stop sequence gathered for a key, before the points of the rows left, is the whole stop sequence of that key.
-- It is kept for all keys at once, since a row lengthens the stop sequence of its own key (`course_grows`) and the stop sequences of
-- others are as they were. When no row is left, the index gives each line's variant its points in order, by one pass over the rows.
pub grouped : {S : Type 0} (old new : IndexMap LineKey (List Point) S) (row : StopRow) (rows rest : List StopRow)
    (whole : LineKey → List Point)
    → rows ≡ row ∷ rest → CourseGrows row old new
    → ((key : LineKey) → course_or_none (get line_key_eq old key) ++ points_of key rows ≡ whole key)
    → (key : LineKey) → course_or_none (get line_key_eq new key) ++ points_of key rest ≡ whole key
grouped old new row rows rest whole at grows so_far key =
    ap (λ c. c ++ points_of key rest) (grows key)
    ∙ append_assoc (course_or_none (get line_key_eq old key)) (points_of key (row ∷ [])) (points_of key rest)
    ∙ ap (λ ps. course_or_none (get line_key_eq old key) ++ ps) (sym (points_more key row rest))
    ∙ ap (λ rs. course_or_none (get line_key_eq old key) ++ points_of key rs) (sym at)
    ∙ so_far key

-- a stop sequence that is taken out and put back with a point more
pub course_grows : (row : StopRow) (key : LineKey) (course : List Point) (old mid new : Option (List Point)) (at_row : List Point)
    (b : Bool) → line_key_eq (stop_key_of row) key ≡ b
    → course ≡ at_row ++ row.at ∷ [] → (line_key_eq (stop_key_of row) key ≡ true → at_row ≡ course_or_none old) →
    (line_key_eq (stop_key_of row) key ≡ false → mid ≡ old)
    → new ≡ cond b (Some course) mid → course_or_none new ≡ course_or_none old ++ points_of key (row ∷ [])
course_grows row key course old mid new at_row true e longer is others put =
    ap course_or_none put ∙ longer ∙ ap (λ ps. ps ++ row.at ∷ []) (is e)
    ∙ ap (λ b. course_or_none old ++ map (λ (r : StopRow). r.at) (if b then row ∷ [] else [])) (sym e)
course_grows row key course old mid new at_row false e longer is others put =
    ap course_or_none (put ∙ others e) ∙ sym (append-nil (course_or_none old))
    ∙ ap (λ b. course_or_none old ++ map (λ (r : StopRow). r.at) (if b then row ∷ [] else [])) (sym e)
