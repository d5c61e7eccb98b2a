-- One column or one row more.
use Rattle.std.proofs.Common.{◌≡◌, ℕ, ◌+◌, ◌<◌, Bool, true, false, if◌then◌else◌, List, [], ◌∷◌, ◌++◌, length, get_or, drop, map, filter, refl, sym, ap, subst, ◌∙◌, append_assoc, add-one, drop-cons, suc}
use Rattle.std.proofs.lemmas.List.{append-nil}
use Rattle.vdv451_text.specs.declared.table.Field.{Field}
use Rattle.vdv452_rows.specs.declared.cell.Cell.{Cell}
use Rattle.vdv452_rows.specs.declared.fault.TableFault.{TableFault}
use Rattle.vdv452_rows.specs.declared.fault.Refusal.{Refusal}
use Rattle.vdv452_rows.specs.declared.table.Found.{Found}
use Rattle.vdv452_rows.specs.Answers.{IsRefusal}
use Rattle.vdv452_rows.specs.TypedRows.{typed}
use Rattle.vdv452_rows.specs.Found.{found_field, found_cell, found_cells, found_key, found_faults, found_row_fault, found_row_faults}
use Rattle.vdv452_rows.specs.Rows.{cell_fault, fault, is_twice, key_fault, own_key, when}
use Rattle.vdv452_rows.specs.declared.fault.TableKind.TheVariants.{KeyTwice}
use Rattle.vdv452_rows.proofs.Refusals.{refusal_front, refusal_same, refusal_after}

-- the rest begins with the item
pub drop_item : {A : Type 0} (xs : List A) (i : ℕ) (x : A) → i < length xs → x ≡ get_or xs i x → drop i xs ≡ x ∷ drop (i + 1) xs
drop_item xs i x within is = rw add-one (drop-cons xs i x within ∙ ap (λ y. y ∷ drop (suc i) xs) (sym is))

pub drop_read : {A : Type 0} (xs : List A) (i : ℕ) (x y : A) → i < length xs → x ≡ get_or xs i x → y ≡ x → drop i xs ≡ y ∷ drop (i + 1) xs
drop_read xs i x y within is same = drop_item xs i x within is ∙ ap (λ z. z ∷ drop (i + 1) xs) (sym same)

module _ (row : List Field) (found : List Found) (i : ℕ) (entry : Found) (at : drop i found ≡ entry ∷ drop (i + 1) found) where
  -- One column of a row more: what was gathered, put before what the columns left give, is the whole. Each loop over columns or
  -- rows keeps this, and each of the steps below moves the first of what is left to the end of what was gathered; at the end
  -- nothing is left, and what was gathered is what the definition has.
  pub cells_step : (cells whole : List Cell) (cell : Cell) → cell ≡ found_cell row entry → cells ++ found_cells (drop i found) row ≡ whole →
      (cells ++ cell ∷ []) ++ found_cells (drop (i + 1) found) row ≡ whole
  cells_step cells whole cell is so_far =
      append_assoc cells (cell ∷ []) (found_cells (drop (i + 1) found) row)
      ∙ ap (λ c. cells ++ c ∷ found_cells (drop (i + 1) found) row) is
      ∙ ap (λ rest. cells ++ found_cells rest row) (sym at)
      ∙ so_far

  picked : Bool → List Cell
  picked b = map (found_cell row)
      (if b then entry ∷ filter (λ (f : Found). f.column.is_key) (drop (i + 1) found) else filter
      (λ (f : Found). f.column.is_key) (drop (i + 1) found))

  key_step : (key whole : List Cell) (cell : Cell) → cell ≡ found_cell row entry → entry.column.is_key ≡ true →
      key ++ found_key (drop i found) row ≡ whole → (key ++ cell ∷ []) ++ found_key (drop (i + 1) found) row ≡ whole
  unfolding picked
  key_step key whole cell is in_key so_far =
      append_assoc key (cell ∷ []) (found_key (drop (i + 1) found) row)
      ∙ ap (λ c. key ++ c ∷ found_key (drop (i + 1) found) row) is
      ∙ ap (λ b. key ++ picked b) (sym in_key)
      ∙ ap (λ rest. key ++ found_key rest row) (sym at)
      ∙ so_far

  other_step : (key whole : List Cell) → entry.column.is_key ≡ false → key ++ found_key (drop i found) row ≡ whole →
      key ++ found_key (drop (i + 1) found) row ≡ whole
  unfolding picked
  other_step key whole beside so_far = ap (λ b. key ++ picked b) (sym beside) ∙ ap (λ rest. key ++ found_key rest row) (sym at) ∙ so_far

  pub kept_step : (key whole : List Cell) (cell : Cell) → cell ≡ found_cell row entry → key ++ found_key (drop i found) row ≡ whole →
      (key ++ when entry.column.is_key cell) ++ found_key (drop (i + 1) found) row ≡ whole
  kept_step key whole cell is so_far = by entry.column.is_key refl
    where
      by : (b : Bool) → entry.column.is_key ≡ b → (key ++ when b cell) ++ found_key (drop (i + 1) found) row ≡ whole
      by true in_key = key_step key whole cell is in_key so_far
      by false beside = ap (λ k. k ++ found_key (drop (i + 1) found) row) (append-nil key) ∙ other_step key whole beside so_far

  module _ (table : List ℕ) (number : ℕ) (whole : List TableFault) (so_far : found_faults table number row (drop i found) ≡ whole) where
    split : cell_fault table number entry.column (found_field row entry) ++ found_faults table number row (drop (i + 1) found) ≡ whole
    split = ap (found_faults table number row) (sym at) ∙ so_far

    pub faults_step : cell_fault table number entry.column (found_field row entry) ≡ [] →
        found_faults table number row (drop (i + 1) found) ≡ whole
    faults_step right = ap (λ fs. fs ++ found_faults table number row (drop (i + 1) found)) (sym right) ∙ split

    -- A wrong value ends the row, and it is the first fault of all: the loop has found nothing wrong in the columns before, so all
    -- faults of the row are those of the columns left, which begin with this one. With `faults_step` the loop gives up exactly at
    -- the first fault.
    pub cell_refused : (refusal : Refusal) → IsRefusal (cell_fault table number entry.column (found_field row entry)) refusal →
        IsRefusal whole refusal
    cell_refused refusal given =
        refusal_same _ whole refusal split (refusal_front _ (found_faults table number row (drop (i + 1) found)) refusal given)

module _ (found : List Found) (rows : List (List Field)) (i : ℕ) (row : List Field) (at : drop i rows ≡ row ∷ drop (i + 1) rows) where
  pub typed_step : {R : Type 0} (row_of : List Cell → ℕ → R) (read whole : List R) (one : R) → one ≡ row_of (found_cells found row) i
      → read ++ typed row_of i (map (found_cells found) (drop i rows)) ≡ whole
      → (read ++ one ∷ []) ++ typed row_of (i + 1) (map (found_cells found) (drop (i + 1) rows)) ≡ whole
  typed_step row_of read whole one is so_far =
      append_assoc read (one ∷ []) (typed row_of (i + 1) (map (found_cells found) (drop (i + 1) rows)))
      ∙ ap (λ r. read ++ r ∷ typed row_of (i + 1) (map (found_cells found) (drop (i + 1) rows))) is
      ∙ ap (λ rest. read ++ typed row_of i (map (found_cells found) rest)) (sym at)
      ∙ so_far

  module _ (table : List ℕ) (before : List (List Cell)) (number : ℕ) (whole : List TableFault)
      (so_far : found_row_faults table found before number (drop i rows) ≡ whole) where
    parts : found_row_fault table found before number row ++ found_row_faults table found (before ++ own_key (found_key found row))
        (number + 1) (drop (i + 1) rows) ≡ whole
    parts = ap (found_row_faults table found before number) (sym at) ∙ so_far

    pub row_refused : (refusal : Refusal) → IsRefusal (found_row_fault table found before number row) refusal → IsRefusal whole refusal
    row_refused refusal given =
        refusal_same _ whole refusal parts
        (refusal_front _ (found_row_faults table found (before ++ own_key (found_key found row)) (number + 1) (drop (i + 1) rows))
        refusal given)

    -- A right row adds its key to the keys before it and no fault, so the faults of the rows left are still those of the table. The
    -- keys before and the number of the row are what the definition gives the next row, which is why the statement carries both. A
    -- row that is refused is refused for the table, as the rows before it added no fault (`row_refused`).
    pub row_step : (after : List (List Cell)) → found_row_fault table found before number row ≡ [] →
        after ≡ before ++ own_key (found_key found row) → found_row_faults table found after (number + 1) (drop (i + 1) rows) ≡ whole
    row_step after right is =
        ap (λ keys. found_row_faults table found keys (number + 1) (drop (i + 1) rows)) is
        ∙ ap (λ fs. fs ++ found_row_faults table found (before ++ own_key (found_key found row)) (number + 1) (drop (i + 1) rows))
        (sym right)
        ∙ parts

module _ (table : List ℕ) (found : List Found) (before : List (List Cell)) (number : ℕ) (row : List Field)
    (right : found_faults table number row found ≡ []) where
  pub keyed_right : is_twice before (found_key found row) ≡ false → found_row_fault table found before number row ≡ []
  keyed_right new = ap (λ fs. fs ++ key_fault table number before (found_key found row)) right
      ∙ ap (λ b. when b (fault KeyTwice table [] number)) new

  pub key_refused : (refusal : Refusal) → is_twice before (found_key found row) ≡ true →
      IsRefusal (fault KeyTwice table [] number ∷ []) refusal → IsRefusal (found_row_fault table found before number row) refusal
  key_refused refusal twice given =
      refusal_after (found_faults table number row found) (key_fault table number before (found_key found row)) refusal right
      (subst (λ b. IsRefusal (when b (fault KeyTwice table [] number)) refusal) (sym twice) given)
