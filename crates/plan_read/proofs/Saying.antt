-- Rows that are gone over one by one, up to the first that gives nothing, give what all of them give, or the first place that is wrong.
use Rattle.std.proofs.Common.{◌≡◌, ℕ, ◌+◌, ◌<◌, List, [], ◌∷◌, ◌++◌, length, map, drop, get_or, refl, sym, ap, ◌∙◌, append_assoc, append-nil, add-one, drop-cons}
use Rattle.std.specs.Prelude.{Option, Some, None, Result, Ok, Err}
use Rattle.number_tables.specs.Outlines as Outlines
use Rattle.number_tables.specs.Outlines.{Place as At, entry_faults, given_of, place}
use Rattle.umlauf_write.specs.Reading.{entries_from}
use Rattle.plan_read.specs.declared.fault.PlanTable.{PlanTable}
use Rattle.plan_read.specs.Places.{◌>>=◌, name_of, said, said_on, unless}

-- What is there unless a place is wrong. The rows are counted on from any row, and stand behind what the rows before gave; a row that
-- gives nothing is the first of the wrong places, and ends both sides alike. So a loop that stops at its first wrong row answers what
-- the definition says of all rows.
pub said-entries-on : {A B : Type 0} (entry : ℕ → B → Option A) (t : PlanTable) (given : List A) (row : ℕ) (xs : List B) →
    said_on entry t given row xs ≡ unless (entry_faults (name_of t) (row + 1) (entries_from entry row xs))
    (given ++ given_of (entries_from entry row xs))
said-entries-on entry t given row [] = ap (λ l. Ok l) (sym (append-nil given))
said-entries-on {A} {B} entry t given row (x ∷ xs) =
    elim (entry row x) as (λ o.
    (elim o [ None ↦ Err (place (name_of t) (row + 1)) | Some m ↦ said_on entry t (given ++ m ∷ []) (row + 1) xs ])
    ≡ unless (entry_faults (name_of t) (row + 1) (o ∷ entries_from entry (row + 1) xs))
    (given ++ given_of (o ∷ entries_from entry (row + 1) xs))) [
      | None ↦ refl
      | Some m ↦ said-entries-on entry t (given ++ m ∷ []) (row + 1) xs
          ∙ ap (λ (l : List A). unless (entry_faults (name_of t) (row + 1 + 1) (entries_from entry (row + 1) xs)) l)
          (append_assoc given (m ∷ []) (given_of (entries_from entry (row + 1) xs)))
    ]

pub said-entries : {A B : Type 0} (entry : ℕ → B → Option A) (t : PlanTable) (xs : List B) →
    said entry t xs ≡ unless (entry_faults (name_of t) 1 (entries_from entry 0 xs)) (given_of (entries_from entry 0 xs))
said-entries entry t xs = said-entries-on entry t [] 0 xs

-- entries that do not look at the place
pub entries-map : {A B : Type 0} (f : B → A) (row : ℕ) (xs : List B) → entries_from (λ place. f) row xs ≡ map f xs
entries-map f row [] = refl
entries-map f row (x ∷ xs) = ap (λ ys. f x ∷ ys) (entries-map f (row + 1) xs)

-- entries that are the same everywhere
pub entries-same : {A B : Type 0} (f g : ℕ → B → A) (row : ℕ) (xs : List B) → ((k : ℕ) (x : B) → f k x ≡ g k x) →
    entries_from f row xs ≡ entries_from g row xs
entries-same f g row [] same = refl
entries-same f g row (x ∷ xs) same =
    ap (λ y. y ∷ entries_from f (row + 1) xs) (same row x) ∙ ap (λ ys. g row x ∷ ys) (entries-same f g (row + 1) xs same)

-- a value unless one of two lists has a wrong place
pub unless-both : {A B : Type 0} (ps qs : List At) (x : A) (y : B) → (unless ps x >>= λ x. unless qs y) ≡ unless (ps ++ qs) y
unless-both [] qs x y = refl
unless-both (p ∷ ps) qs x y = refl

-- one row more
pub said-more : {A B C : Type 0} (entry : ℕ → B → Option A) (t : PlanTable) (g : C → B) (all : Result (List A) At) (given now : List A)
    (place : ℕ) (rows : List C) (row : C) (m : A) → place < length rows → row ≡ get_or rows place row → entry place (g row) ≡ Some m →
    now ≡ given ++ m ∷ [] → all ≡ said_on entry t given place (map g (drop place rows)) →
    all ≡ said_on entry t now (place + 1) (map g (drop (place + 1) rows))
said-more {A} {B} {C} entry t g all given now place rows row m low is says put so_far =
    let rest = drop (place + 1) rows in
    let at : drop place rows ≡ get_or rows place row ∷ rest = rw add-one (drop-cons rows place row low) in
    let step : drop place rows ≡ row ∷ rest = at ∙ ap (λ (r : C). r ∷ rest) (sym is) in
    so_far
    ∙ (ap (λ (rs : List C). said_on entry t given place (map g rs)) step
    ∙ (ap (λ (o : Option A). elim o [
      | None ↦ Err (Outlines.place (name_of t) (place + 1))
      | Some m ↦
          said_on entry t (given ++ m ∷ []) (place + 1) (map g rest)
    ]) says
    ∙ ap (λ (l : List A). said_on entry t l (place + 1) (map g rest)) (sym put)))
