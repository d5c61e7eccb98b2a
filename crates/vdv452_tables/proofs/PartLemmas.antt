-- Tables that are read one after another.
use Rattle.std.proofs.Common.{◌≡◌, List, [], ◌∷◌, ◌++◌, IfErr, Result, Ok, Err, refl, sym, ap, ◌∙◌, append_assoc}
use Rattle.vdv451_text.specs.declared.table.Table.{Table}
use Rattle.vdv452_rows.specs.declared.fault.Refusal.{Refusal}
use Rattle.vdv452_rows.specs.declared.schema.Schema.{Schema}
use Rattle.vdv452_rows.specs.Answers.{IsRefusal}
use Rattle.vdv452_rows.specs.Rows.{faults_of, table_faults}
use Rattle.vdv452_rows.proofs.Refusals.{refusal_after, refusal_front, refusal_same}

module _ (tables : List Table) (front rest : List Schema) where
  faults_parts : (schemas : List Schema) → faults_of (schemas ++ rest) tables ≡ faults_of schemas tables ++ faults_of rest tables
  faults_parts [] = refl
  faults_parts (s ∷ schemas) = ap (λ fs. table_faults s tables ++ fs) (faults_parts schemas)
      ∙ sym (append_assoc (table_faults s tables) (faults_of schemas tables) (faults_of rest tables))

  -- What is refused for the tables in front is refused for all: the faults of schemas read one after another are one list, part by
  -- part, and what heads the first part heads the whole. Where the tables in front have no fault, the same holds of the rest
  -- (`rest_refused`); so reading may go table by table, and its refusal is still the first fault of all tables that are read.
  pub front_refused : {A : Type 0} (r : Result A Refusal) → IfErr r (IsRefusal (faults_of front tables)) →
      IfErr r (IsRefusal (faults_of (front ++ rest) tables))
  front_refused (Ok x) given = tt
  front_refused (Err refusal) given =
      refusal_same _ _ refusal (sym (faults_parts front)) (refusal_front (faults_of front tables) (faults_of rest tables) refusal given)

  -- where nothing is wrong with the tables in front, what is refused for the rest is refused for all
  pub rest_refused : {A : Type 0} (r : Result A Refusal) → faults_of front tables ≡ [] → IfErr r (IsRefusal (faults_of rest tables)) →
      IfErr r (IsRefusal (faults_of (front ++ rest) tables))
  rest_refused (Ok x) none given = tt
  rest_refused (Err refusal) none given =
      refusal_same _ _ refusal (sym (faults_parts front))
      (refusal_after (faults_of front tables) (faults_of rest tables) refusal none given)
