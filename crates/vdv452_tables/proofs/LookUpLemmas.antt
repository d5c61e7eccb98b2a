-- What holds of all rows holds of what is found.
use Rattle.std.proofs.Common.{◌≡◌, ℕ, ◌+◌, ◌-◌, ◌<◌, Bool, true, false, cond, if◌then◌else◌, List, [], ◌∷◌, drop, get_or, length, All, Option, Some, None, IfSome, refl, sym, ap, ◌∙◌, arith, suc}
use Rattle.std.specs.List.{find}
use Rattle.std.specs.Option.{option_map}
use Rattle.indexmap.specs.IndexMap.{IndexMap, get}
use Rattle.vdv452_tables.specs.Keys.{value_at}
use Rattle.vdv452_tables.specs.LookUps.{known}
use Rattle.vdv452_rows.proofs.RowSteps.{drop_item}

pub found_all : {K V R : Type 0} (P : V → Type 0) (same : K → K → Bool) (key_of : R → K) (value_of : R → V) (rows : List R) (key : K) →
    All (λ row. P (value_of row)) rows → IfSome (value_at same key_of value_of rows key) P
found_all P same key_of value_of [] key all = tt
found_all {K} {V} {R} P same key_of value_of (row ∷ rows) key all =
    by (same (key_of row) key) (found_all P same key_of value_of rows key (λ k d within. all (suc k) d (omega arith)))
  where
    by : (b : Bool) → IfSome (value_at same key_of value_of rows key) P →
        IfSome (option_map value_of (if b then Some row else find (λ r. same (key_of r) key) rows)) P
    by true later = all 0 row (omega arith)
    by false later = later

pub known_all : (P : ℕ → Type 0) (found : Option (Option ℕ)) → IfSome found (λ value. IfSome value P) → IfSome (known found) P
known_all P None all = tt
known_all P (Some value) all = all

module _ {K V R : Type 0} (same : K → K → Bool) (key_of : R → K) (value_of : R → V) where
  put_first : (row : R) (rows : List R) (key : K) (b : Bool) →
      cond b (Some (value_of row)) (value_at same key_of value_of rows key)
      ≡ option_map value_of (if b then Some row else find (λ r. same (key_of r) key) rows)
  put_first row rows key true = refl
  put_first row rows key false = refl

  -- A row put into an index before the rows behind it. The code goes through the rows from the last to the first, and each takes
  -- the place of one with its key: so the index always gives what the first row with the key among those passed gives, as the
  -- definition's look-up does. At the end all rows are passed, and a look-up in the index is one in the table, twice-used keys
  -- included.
  pub index_step : {S : Type 0} (old new : IndexMap K V S) (rows : List R) (left : ℕ) (row : R) (entry : K × V) → 0 < left →
      left - 1 < length rows → row ≡ get_or rows (left - 1) row → entry ≡ (key_of row, value_of row)
      → ((key : K) → get same new key ≡ cond (same entry.0 key) (Some entry.1) (get same old key))
      → ((key : K) → get same old key ≡ value_at same key_of value_of (drop left rows) key)
      → (key : K) → get same new key ≡ value_at same key_of value_of (drop (left - 1) rows) key
  index_step old new rows left row entry some within is entry_is put so_far key =
      let one_more : left ≡ left - 1 + 1 = omega (arith, some) in
      let at : drop (left - 1) rows ≡ row ∷ drop (left - 1 + 1) rows = drop_item rows (left - 1) row within is in
      put key
      ∙ (λ i. cond (same (entry_is i).0 key) (Some (entry_is i).1)
      ((so_far key ∙ ap (λ n. value_at same key_of value_of (drop n rows) key) one_more) i))
      ∙ put_first row (drop (left - 1 + 1) rows) key (same (key_of row) key)
      ∙ ap (λ rs. value_at same key_of value_of rs key) (sym at)
