-- What is read by places is what is read by names.
use Rattle.std.proofs.Common.{◌≡◌, ℕ, ◌+◌, Bool, true, false, if◌then◌else◌, List, [], ◌∷◌, ◌++◌, map, filter, refl, sym, ap, ◌∙◌}
use Rattle.std.specs.List.{flat_map}
use Rattle.vdv451_text.specs.declared.table.Field.{Field}
use Rattle.vdv451_text.specs.declared.table.Head.{Head}
use Rattle.vdv451_text.specs.declared.table.Table.{Table}
use Rattle.vdv452_rows.specs.declared.cell.Cell.{Cell}
use Rattle.vdv452_rows.specs.declared.fault.TableKind.TheVariants as kinds
use Rattle.vdv452_rows.specs.declared.schema.Column.{Column}
use Rattle.vdv452_rows.specs.declared.schema.Schema.{Schema}
use Rattle.vdv452_rows.specs.declared.table.Found.{Found}
use Rattle.vdv452_rows.specs.Found.{found_cell, found_cells, found_column, found_columns, found_faults, found_key, found_row_faults}
use Rattle.vdv452_rows.specs.Rows.{cell_fault, cell_in, cells, field_at, key_fault, key_of, missing_column, missing_columns, own_key, row_faults}

module _ (heads : List Head) (row : List Field) where
  -- What is read by places is what is read by names: the code looks for each column's place once, and then takes fields by place,
  -- while the definitions look for the column's name in each row. The place does not depend on the row, so each column gives the
  -- same cell, the same fault and the same part of the key; by induction on the columns, and below on the rows.
  pub faults_found : (table : List ℕ) (number : ℕ) (columns : List Column) →
      found_faults table number row (found_columns heads columns)
      ≡ flat_map (λ column. cell_fault table number column (field_at heads row column.name)) columns
  faults_found table number [] = refl
  faults_found table number (column ∷ columns) =
      ap (λ fs. cell_fault table number column (field_at heads row column.name) ++ fs) (faults_found table number columns)

  pub cells_found : (columns : List Column) →
      found_cells (found_columns heads columns) row ≡ map (λ column. cell_in column (field_at heads row column.name)) columns
  cells_found [] = refl
  cells_found (column ∷ columns) = ap (λ cs. cell_in column (field_at heads row column.name) ∷ cs) (cells_found columns)

  key_if : (column : Column) (columns : List Column) (found : List Found) (b : Bool) →
      map (found_cell row) found ≡ map (λ c. cell_in c (field_at heads row c.name)) columns
      → map (found_cell row) (if b then found_column heads column ∷ found else found)
      ≡ map (λ c. cell_in c (field_at heads row c.name)) (if b then column ∷ columns else columns)
  key_if column columns found true same = ap (λ cs. cell_in column (field_at heads row column.name) ∷ cs) same
  key_if column columns found false same = same

  pub key_found : (columns : List Column) →
      found_key (found_columns heads columns) row ≡ map (λ column. cell_in column (field_at heads row column.name))
      (filter (λ column. column.is_key) columns)
  key_found [] = refl
  key_found (column ∷ columns) =
      key_if column (filter (λ c. c.is_key) columns) (filter (λ (f : Found). f.column.is_key) (found_columns heads columns))
      column.is_key (key_found columns)

module _ (s : Schema) (table : Table) where
  pub rows_found : (rows : List (List Field)) → map (found_cells (found_columns table.columns s.columns)) rows ≡ map (cells s table) rows
  rows_found [] = refl
  rows_found (row ∷ rows) = λ i. cells_found table.columns row s.columns i ∷ rows_found rows i

  -- The same for all rows, with the keys before them: each row's faults and key are those by names, so the keys that the next row
  -- is compared with are the same ones. The induction carries any keys before and any number of the row, since both change with
  -- each row. So `read_table` may be shown by places alone, while its contract speaks of names.
  pub row_faults_found : (before : List (List Cell)) (number : ℕ) (rows : List (List Field)) →
      found_row_faults s.name (found_columns table.columns s.columns) before number rows ≡ row_faults s table before number rows
  row_faults_found before number [] = refl
  row_faults_found before number (row ∷ rows) =
      let same_key : found_key (found_columns table.columns s.columns) row ≡ key_of s table row = key_found table.columns row s.columns in
      let rest : found_row_faults s.name (found_columns table.columns s.columns)
      (before ++ own_key (found_key (found_columns table.columns s.columns) row)) (number + 1) rows
      ≡ row_faults s table (before ++ own_key (key_of s table row)) (number + 1) rows =
      ap (λ key. found_row_faults s.name (found_columns table.columns s.columns) (before ++ own_key key) (number + 1) rows) same_key
      ∙ row_faults_found (before ++ own_key (key_of s table row)) (number + 1) rows in
      λ i. (faults_found table.columns row s.name number s.columns i ++ key_fault s.name number before (same_key i)) ++ rest i

module _ (s : Schema) (table : Table) (name : List ℕ) (columns : List Column) (heads : List Head) (found : List Found)
    (rows : List (List Field))
    (name_is : name ≡ s.name) (columns_are : columns ≡ s.columns) (heads_are : heads ≡ table.columns) (rows_are : rows ≡ table.rows)
    (found_are : found ≡ found_columns heads columns) (none : flat_map (missing_column name heads) columns ≡ []) where
  pub none_missing : missing_columns s table ≡ []
  none_missing = sym (λ i. flat_map (missing_column (name_is i) (heads_are i)) (columns_are i)) ∙ none

  all_found : found ≡ found_columns table.columns s.columns
  all_found = found_are ∙ (λ i. found_columns (heads_are i) (columns_are i))

  pub rows_by_name : map (found_cells found) rows ≡ map (cells s table) table.rows
  rows_by_name = (λ i. map (found_cells (all_found i)) (rows_are i)) ∙ rows_found s table table.rows

  pub faults_by_name : found_row_faults name found [] 1 rows ≡ row_faults s table [] 1 table.rows
  faults_by_name = (λ i. found_row_faults (name_is i) (all_found i) [] 1 (rows_are i)) ∙ row_faults_found s table [] 1 table.rows
