-- Where no column is missing, the fields at the places of the columns are those in the columns.
use Rattle.std.proofs.Common.{◌≡◌, ℕ, false, List, [], ◌∷◌, ◌++◌, map, Option, Some, None, refl, sym, ap, subst, ◌∙◌, slice_get}
use Rattle.std.specs.Prelude.{is_none, unwrap_or}
use Rattle.std.specs.Option.{option_and_then}
use Rattle.std.specs.List.{find, flat_map}
use Rattle.vdv451_text.specs.declared.table.Field.{Field}
use Rattle.vdv451_text.specs.declared.table.Head.{Head}
use Rattle.vdv451_text.specs.declared.table.Table.{Table}
use Rattle.vdv452_rows.specs.declared.fault.TableKind.TheVariants.{NoColumn}
use Rattle.vdv452_rows.specs.Rows.{fault, field_at, place_of}
use Rattle.week_check.specs.declared.column.RosterColumn.{RosterColumn}
use Rattle.week_check.specs.declared.column.RosterColumn.TheVariants.{Driver, Day, Begin, End, Driving, Pause}
use Rattle.week_check.specs.declared.places.Places.{Places}
use Rattle.week_check.specs.Roster.{RowFields, column_fault, columns, faults_in, fields_at, fields_in, is_missing, missing_column, name_of, place_in, places_in, roster_name, row_faults, rows_in}
use Rattle.week_check.proofs.Entries.{find_split}
use Rattle.week_check.proofs.RosterFaults.{none_faulty}

pub no_column_fault : (heads : List Head) → missing_column heads ≡ None → flat_map (column_fault heads) columns ≡ []
no_column_fault heads none = none_faulty (is_missing heads) (λ column. fault NoColumn roster_name (name_of column) 0) columns none

found : (row : List Field) (o : Option ℕ) → is_none o ≡ false → slice_get row (unwrap_or o 0) ≡ option_and_then (slice_get row) o
found row None h = absurd cc
found row (Some place) h = refl

abbrev missing_in : List Head → List RosterColumn → Option RosterColumn
missing_in heads cs = find (is_missing heads) cs

module _ (heads : List Head) (none : missing_column heads ≡ None) where
  one_row : (row : List Field) → fields_at (places_in heads) row ≡ fields_in heads row
  one_row row =
      let a = find_split Driver (missing_in heads (Day ∷ Begin ∷ End ∷ Driving ∷ Pause ∷ [])) (is_missing heads Driver) none in
      let b = find_split Day (missing_in heads (Begin ∷ End ∷ Driving ∷ Pause ∷ [])) (is_missing heads Day) a.1 in
      let c = find_split Begin (missing_in heads (End ∷ Driving ∷ Pause ∷ [])) (is_missing heads Begin) b.1 in
      let d = find_split End (missing_in heads (Driving ∷ Pause ∷ [])) (is_missing heads End) c.1 in
      let f = find_split Driving (missing_in heads (Pause ∷ [])) (is_missing heads Driving) d.1 in
      let g = find_split Pause (missing_in heads []) (is_missing heads Pause) f.1 in
      let at : RosterColumn → Option Field = λ column. slice_get row (place_in heads column) in
      let in_ : RosterColumn → Option Field = λ column. field_at heads row (name_of column) in
      let made : Option Field → Option Field → Option Field → Option Field → Option Field → Option Field → RowFields =
      λ p q r s t u. record { driver = p; day = q; begin = r; end = s; driving = t; pause = u } in
      ap (λ p. made p (at Day) (at Begin) (at End) (at Driving) (at Pause)) (found row (place_of (name_of Driver) heads) a.0)
      ∙ ap (λ q. made (in_ Driver) q (at Begin) (at End) (at Driving) (at Pause)) (found row (place_of (name_of Day) heads) b.0)
      ∙ ap (λ r. made (in_ Driver) (in_ Day) r (at End) (at Driving) (at Pause)) (found row (place_of (name_of Begin) heads) c.0)
      ∙ ap (λ s. made (in_ Driver) (in_ Day) (in_ Begin) s (at Driving) (at Pause)) (found row (place_of (name_of End) heads) d.0)
      ∙ ap (λ t. made (in_ Driver) (in_ Day) (in_ Begin) (in_ End) t (at Pause)) (found row (place_of (name_of Driving) heads) f.0)
      ∙ ap (λ u. made (in_ Driver) (in_ Day) (in_ Begin) (in_ End) (in_ Driving) u) (found row (place_of (name_of Pause) heads) g.0)

  pub all_rows : (rows : List (List Field)) → map (fields_at (places_in heads)) rows ≡ map (fields_in heads) rows
  all_rows [] = refl
  all_rows (row ∷ rows) =
      ap (λ fields. fields ∷ map (fields_at (places_in heads)) rows) (one_row row) ∙ ap (λ fs. fields_in heads row ∷ fs) (all_rows rows)

-- a table in which no column is missing
module _ (table : Table) (heads : List Head) (places : Places) (rows : List (List Field)) (columns_are : heads ≡ table.columns)
    (rows_are : rows ≡ table.rows) (placed : places ≡ places_in heads)
    (none : missing_column heads ≡ None) where
  pub table_rows : map (fields_at places) rows ≡ rows_in table
  table_rows =
      ap (λ (p : Places). map (fields_at p) rows) placed ∙ all_rows heads none rows
      ∙ ap (λ (h : List Head). map (fields_in h) rows) columns_are
      ∙ ap (λ (rs : List (List Field)). map (fields_in table.columns) rs) rows_are

  pub table_faults : faults_in (Some table) ≡ row_faults 1 [] (map (fields_at places) rows)
  table_faults =
      let whole : missing_column table.columns ≡ None = subst (λ (h : List Head). missing_column h ≡ None) columns_are none in
      ap (λ fs. fs ++ row_faults 1 [] (rows_in table)) (no_column_fault table.columns whole)
      ∙ ap (λ fs. row_faults 1 [] fs) (sym table_rows)
