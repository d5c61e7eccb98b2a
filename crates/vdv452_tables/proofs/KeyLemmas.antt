-- Where nothing is wrong, no two rows have one key.
use Rattle.std.proofs.Common.{◌≡◌, ℕ, ◌+◌, ◌<◌, ◌||◌, Option, Some, None, Bool, true, false, List, [], ◌∷◌, ◌++◌, All, AllPairs, get_or, length, refl, sym, subst, append_assoc, arith, suc, zero}
use Rattle.std.proofs.lemmas.List.{append-nil}
use Rattle.std.proofs.lemmas.List.Elements.{All-cons, All-nil}
use Rattle.std.proofs.lemmas.List.Quantifiers.{all_pairs_push}
use Rattle.std.specs.List.{flat_map, list_any}
use Rattle.vdv451_text.specs.declared.table.Field.{Field}
use Rattle.vdv451_text.specs.declared.table.Table.{Table}
use Rattle.vdv452_rows.specs.declared.cell.Cell.{Cell}
use Rattle.vdv452_rows.specs.declared.schema.Schema.{Schema}
use Rattle.vdv452_rows.specs.Cells.{same_cells}
use Rattle.vdv452_rows.specs.Rows.{HasOwnKeys, faults_in, faults_of, is_twice, key_fault, key_of, keys_in, missing_columns, own_key, row_fault, row_faults, table_faults, table_of, when}

front_empty : {A : Type 0} (xs ys : List A) → xs ++ ys ≡ [] → xs ≡ []
front_empty [] ys none = refl
front_empty (x ∷ xs) ys none = absurd cc

rest_empty : {A : Type 0} (xs ys : List A) → xs ++ ys ≡ [] → ys ≡ []
rest_empty [] ys none = none
rest_empty (x ∷ xs) ys none = absurd cc

not_when : {A : Type 0} (b : Bool) (x : A) → when b x ≡ [] → b ≡ false
not_when true x none = absurd cc
not_when false x none = refl

first_false : (a b : Bool) → (a || b) ≡ false → a ≡ false
first_false true b none = none
first_false false b none = refl

second_false : (a b : Bool) → (a || b) ≡ false → b ≡ false
second_false true b none = absurd cc
second_false false b none = none

none_passes : {A : Type 0} (test : A → Bool) (xs : List A) → list_any test xs ≡ false → (k : ℕ) (d : A) → k < length xs →
    test (get_or xs k d) ≡ false
none_passes test [] none k d within = absurd (omega arith)
none_passes test (x ∷ xs) none zero d within = first_false (test x) (list_any test xs) none
none_passes test (x ∷ xs) none (suc k) d within = none_passes test xs (second_false (test x) (list_any test xs) none) k d (omega arith)

abbrev Differs : List Cell → List Cell → Type 0
Differs earlier later = same_cells later earlier ≡ false

-- a key that is not there twice joins the others
keyed : (before : List (List Cell)) (key : List Cell) → is_twice before key ≡ false → AllPairs Differs before →
    AllPairs Differs (before ++ own_key key)
keyed before [] new own = subst (AllPairs Differs) (sym (append-nil before)) own
keyed before (cell ∷ cells) new own =
    all_pairs_push Differs before (cell ∷ cells) own (λ k d within. none_passes (same_cells (cell ∷ cells)) before new k d within)

module _ (s : Schema) (table : Table) where
  -- If no row of a table has a fault, the keys of its rows are pairwise different. By induction on the rows, with the keys of the
  -- rows before: these differ pairwise, and a row whose key is not there twice joins them (`keyed`). The faults are one list over
  -- rows, so that it is empty makes each part of it empty.
  own_keys : (before : List (List Cell)) (place : ℕ) (rows : List (List Field)) → row_faults s table before place rows ≡ [] →
      AllPairs Differs before → AllPairs Differs (before ++ flat_map (λ row. own_key (key_of s table row)) rows)
  own_keys before place [] none own = subst (AllPairs Differs) (sym (append-nil before)) own
  own_keys before place (row ∷ rows) none own =
      let key : List Cell = key_of s table row in
      let here : row_fault s table before place row ≡ [] = front_empty (row_fault s table before place row) _ none in
      let new : is_twice before key ≡ false = not_when _ _ (rest_empty _ (key_fault s.name place before key) here) in
      let later : AllPairs Differs (before ++ own_key key) = keyed before key new own in
      subst (AllPairs Differs) (append_assoc before (own_key key) (flat_map (λ r. own_key (key_of s table r)) rows))
      (own_keys (before ++ own_key key) (place + 1) rows (rest_empty (row_fault s table before place row) _ none) later)

own_in : (s : Schema) (tables : List Table) (found : Option Table) → faults_in s found ≡ [] → AllPairs Differs (keys_in s found)
own_in s tables None none = λ i j d below within. absurd (omega arith)
own_in s tables (Some table) none =
    own_keys s table [] 1 table.rows (rest_empty (missing_columns s table) _ none) (λ i j d below within. absurd (omega arith))

-- Where nothing is wrong with the tables, no two rows of any of them have one key; table by table, since all faults together are
-- none only where each table's are. Among them are the keys of a table that stands in the tables; an absent one has none. So a
-- look-up by key, which takes the first row with the key, takes the only one.
pub own_of : (schemas : List Schema) (tables : List Table) → faults_of schemas tables ≡ [] → All (HasOwnKeys tables) schemas
own_of [] tables none = All-nil _
own_of (s ∷ schemas) tables none =
    All-cons (HasOwnKeys tables) s schemas
    (own_in s tables (table_of s tables) (rest_empty _ (faults_in s (table_of s tables)) (front_empty (table_faults s tables) _ none)))
    (own_of schemas tables (rest_empty (table_faults s tables) _ none))
