-- What an index gives is what the rows give.
use Rattle.std.proofs.Common.{◌≡◌, ◌||◌, Bool, true, false, if◌then◌else◌, List, [], ◌∷◌, All, Option, Some, None, IfSome, is_some, refl, ap, ◌∙◌, arith, suc}
use Rattle.std.specs.List.{find, list_any}
use Rattle.std.specs.Option.{option_copied, option_map}
use denote.Bor.{Bor}

-- a row is found exactly where one passes
pub found_any : {R V : Type 0} (value_of : R → V) (test : R → Bool) (rows : List R) →
    is_some (option_map value_of (find test rows)) ≡ list_any test rows
found_any value_of test [] = refl
found_any value_of test (row ∷ rows) = by (test row) (found_any value_of test rows)
  where
    by : (b : Bool) → is_some (option_map value_of (find test rows)) ≡ list_any test rows →
        is_some (option_map value_of (if b then Some row else find test rows)) ≡ (b || list_any test rows)
    by true later = refl
    by false later = later

-- what holds of all rows holds of what is found
pub found_all : {R V : Type 0} (P : V → Type 0) (value_of : R → V) (test : R → Bool) (rows : List R) → All (λ row. P (value_of row)) rows →
    IfSome (option_map value_of (find test rows)) P
found_all P value_of test [] all = tt
found_all P value_of test (row ∷ rows) all = by (test row) (found_all P value_of test rows (λ k d within. all (suc k) d (omega arith)))
  where
    by : (b : Bool) → IfSome (option_map value_of (find test rows)) P →
        IfSome (option_map value_of (if b then Some row else find test rows)) P
    by true later = all 0 row (omega arith)
    by false later = later

is_some_behind : {V : Type 0} (entry : Option (Bor V)) → is_some entry ≡ is_some (option_copied entry)
is_some_behind None = refl
is_some_behind (Some value) = refl

-- An entry is there exactly where a row passes the test: what is found in an index is the first such row's value, and a first one
-- is there exactly where there is any. The definitions ask only whether any row of the settings passes, the code looks one key up
-- in an index; so `admits` and `relief` answer as defined without going through the rows.
pub is_found : {R V : Type 0} (value_of : R → V) (test : R → Bool) (rows : List R) (entry : Option (Bor V)) →
    option_copied entry ≡ option_map value_of (find test rows) → is_some entry ≡ list_any test rows
is_found value_of test rows entry is = is_some_behind entry ∙ ap is_some is ∙ found_any value_of test rows
