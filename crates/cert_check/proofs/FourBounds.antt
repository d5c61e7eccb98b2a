-- The bounds that the tables of a plan say: there are four.
use Rattle.std.proofs.Common.{◌≡◌, ℕ, ℤ, suc, ◌+◌, ◌<◌, ◌≤◌, Bool, true, false, if◌then◌else◌, nat_lt, List, [], ◌∷◌, ◌++◌, length, refl, ap, ◌∙◌, arith}
use Rattle.std.proofs.lemmas.Bool.Decides.{nat_tests}
use Rattle.std.specs.Prelude.{Option, Some, None, Ok, is_some, option_and_then}
use Rattle.vdv451_text.specs.declared.table.Table.{Table}
use Rattle.vdv452_rows.specs.Rows.{first, when}
use Rattle.number_tables.specs.Outlines.{Place, entry_faults, given_of, place, rows_of}
use Rattle.day_model.specs.Facts.{DayFacts}
use Rattle.umlauf_write.specs.declared.text.PlanText.{PlanText}
use Rattle.umlauf_write.specs.Reading.{bound_entries, bound_entry, bounds, entries_from, not_below, own_number, places_of, read_of, read_or, said}

-- where nothing is wrong
none-first : (xs : List Place) → first xs ≡ None → xs ≡ []
none-first [] e = refl
none-first (x ∷ xs) e = absurd (cc)

none-both : (xs ys : List Place) → xs ++ ys ≡ [] → (xs ≡ []) × (ys ≡ [])
none-both [] ys e = (refl, e)
none-both (x ∷ xs) ys e = absurd (cc)

read-none : (made text : PlanText) (o : Option Place) → read_or made o ≡ Ok text → (o ≡ None) × (made ≡ text)
read-none made text None e = (refl, cc)
read-none made text (Some p) e = absurd (cc)

-- Tables that say a plan: no row of X_SCHRANKE is wrong, no row is missing, and the bounds are what its rows give.
record AreBoundRows (tables : List Table) (text : PlanText) : Type 0 where
  pub right : entry_faults bounds.name 1 (bound_entries tables) ≡ []
  pub enough : when (nat_lt (length (rows_of bounds tables)) 4) (place bounds.name 0) ≡ []
  pub given : given_of (bound_entries tables) ≡ text.bounds

bound-rows : (day : DayFacts) (tables : List Table) (text : PlanText) → read_of day tables ≡ Ok text → AreBoundRows tables text
bound-rows day tables text read =
    let (wrong, made) = read-none (said day tables) text (first (places_of day tables)) read in
    let all = none-first (places_of day tables) wrong in
    let (before, enough) = none-both _ (when (nat_lt (length (rows_of bounds tables)) 4) (place bounds.name 0)) all in
    let (earlier, right) = none-both _ (entry_faults bounds.name 1 (bound_entries tables)) before in
    record { right = right; enough = enough; given = ap (λ (t : PlanText). t.bounds) made }

-- how many there are
given-long : {A : Type 0} (t : List ℕ) (row : ℕ) (es : List (Option A)) → entry_faults t row es ≡ [] → length (given_of es) ≡ length es
given-long t row [] none = refl
given-long t row (None ∷ es) none = absurd (cc)
given-long t row (Some m ∷ es) none = ap suc (given-long t (row + 1) es none)

entries-long : {A B : Type 0} (f : ℕ → B → A) (row : ℕ) (xs : List B) → length (entries_from f row xs) ≡ length xs
entries-long f row [] = refl
entries-long f row (x ∷ xs) = ap suc (entries-long f (row + 1) xs)

faults-rest : {A : Type 0} (t : List ℕ) (k : ℕ) (o : Option A) (es : List (Option A)) → entry_faults t k (o ∷ es) ≡ [] →
    (is_some o ≡ true) × (entry_faults t (k + 1) es ≡ [])
faults-rest t k None es none = absurd (cc)
faults-rest t k (Some m) es none = (refl, none)

-- only the first four rows give a bound
early : (row : ℕ) (zs : List (Option ℤ)) → is_some (bound_entry row zs) ≡ true → row < 4
early row [] is = absurd (cc)
early row (art ∷ []) is = absurd (cc)
early row (art ∷ bound ∷ []) is = by (nat_lt row 4) refl is
  where
    by : (t : Bool) → t ≡ nat_lt row 4 →
        is_some (option_and_then (λ own. not_below bound) (if t then own_number row art else None)) ≡ true → row < 4
    by true test is = grind (arith, nat_tests)
    by false test is = absurd (cc)
early row (art ∷ bound ∷ more ∷ rest) is = absurd (cc)

-- No more than four rows can each give a bound. Row by row: each gives one, as none is wrong, and only the first four can; so after a
-- row there is room for one row less.
at-most : (t : List ℕ) (k row : ℕ) (rows : List (List (Option ℤ))) → row ≤ 4 → entry_faults t k (entries_from bound_entry row rows) ≡ [] →
    row + length rows ≤ 4
at-most t k row [] low none = omega arith
at-most t k row (zs ∷ rows) low none =
    let (is, rest) = faults-rest t k (bound_entry row zs) (entries_from bound_entry (row + 1) rows) none in
    let below = early row zs is in
    omega (arith, at-most t (k + 1) (row + 1) rows (omega (arith, below)) rest)

at-least : (n : ℕ) (p : Place) → when (nat_lt n 4) p ≡ [] → 4 ≤ n
at-least n p e = by (nat_lt n 4) refl e
  where
    by : (t : Bool) → t ≡ nat_lt n 4 → when t p ≡ [] → 4 ≤ n
    by true test e = absurd (cc)
    by false test e = grind (arith, nat_tests)

-- A plan that is read has four bounds: no place is wrong, so the last look finds no row missing and there are at least four; and a
-- fifth row would be wrong, as it gives none (`at-most`). Each row gives one bound. So the checker may read the bounds of all four
-- passes.
pub four-bounds : (day : DayFacts) (tables : List Table) (text : PlanText) → read_of day tables ≡ Ok text → length text.bounds ≡ 4
four-bounds day tables text read =
    let are = bound-rows day tables text read in
    let rows = rows_of bounds tables in
    let most = at-most bounds.name 1 0 rows (omega arith) are.right in
    let least = at-least (length rows) (place bounds.name 0) are.enough in
    let same : length (given_of (bound_entries tables)) ≡ length rows =
    given-long bounds.name 1 (bound_entries tables) are.right ∙ entries-long bound_entry 0 rows in
    let given : length (given_of (bound_entries tables)) ≡ length text.bounds = ap (λ (bs : List ℕ). length bs) are.given in
    omega (arith, most, least, same, given)
