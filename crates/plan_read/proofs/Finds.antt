-- The table of a name among others: counting and finding agree with the first of those that have the name.
use Rattle.std.proofs.Common.{◌≡◌, ℕ, ℤ, ◌<◌, ◌^◌, ◌==◌, ◌||◌, not, Bool, true, false, if◌then◌else◌, nat_eq, List, [], ◌∷◌, length, map, filter, refl, sym, ap, ◌∙◌}
use Rattle.std.proofs.lemmas.List.Sums.{length-filter}
use Rattle.std.specs.List.{count_by, find, list_any}
use Rattle.std.specs.Prelude.{Option, Some, None, is_none, option_and_then, slice_get, unwrap_or}
use Rattle.std.specs.Option.{option_map}
use Rattle.vdv451_text.specs.declared.table.Field.{Field}
use Rattle.vdv451_text.specs.declared.table.Table.{Table}
use Rattle.vdv452_rows.specs.Cells.{whole_number}
use Rattle.vdv452_rows.specs.Rows.{first, has_name, place_of, when}
use Rattle.number_tables.specs.Outlines.{Outline, lacks_column, named, numbers, place, rows_in, rows_of, whole_faults}
use Rattle.plan_read.specs.declared.fault.PlanTable.{PlanTable}
use Rattle.plan_read.specs.declared.table.Pair.{Pair}
use Rattle.plan_read.specs.declared.table.Triple.{Triple}
use Rattle.plan_read.specs.Located.{Finds, outline, pair_of, table_of, triple_of}
use Rattle.plan_read.specs.Numbers.{pair_at, triple_at}
use Rattle.plan_read.specs.Places.{name_of}
use Rattle.plan_read.specs.Told.{◌>>=◌}

found-first : {A : Type 0} (test : A → Bool) (xs : List A) → find test xs ≡ first (filter test xs)
found-first test [] = refl
found-first test (x ∷ xs) =
    elim (test x) as (λ t. (if t then Some x else find test xs) ≡ first (if t then x ∷ filter test xs else filter test xs)) [
      | true ↦ refl
      | false ↦ found-first test xs
    ]

-- whether the tables of a name are one
one-of : (o : Outline) (tables : List Table) →
    nat_eq (length (filter (has_name o.name) tables)) 1 ≡ (count_by (has_name o.name) tables == 1)
one-of o tables = ap (λ (n : ℕ). nat_eq n 1) (length-filter (has_name o.name) tables)

some-of : (t : Bool) (o p : Option Table) (table : Table) → (if t then o else None) ≡ Some table → o ≡ p → (t ≡ true) × (p ≡ Some table)
some-of true o p table found same = (refl, sym same ∙ found)
some-of false o p table found same = absurd (cc)

-- a table that was found stands once, and is the first of its name
once : (t : PlanTable) (columns : List (List ℕ)) (tables : List Table) (table : Table) → table_of t tables ≡ Some table →
    (nat_eq (length (filter (has_name (name_of t)) tables)) 1 ≡ true) × (named (outline t columns) tables ≡ Some table)
once t columns tables table found =
    let both = some-of (count_by (has_name (name_of t)) tables == 1) (find (has_name (name_of t)) tables)
    (first (filter (has_name (name_of t)) tables)) table found (found-first (has_name (name_of t)) tables) in
    (one-of (outline t columns) tables ∙ both.0, both.1)

-- no table is found where it does not stand once
none-of : (t : Bool) (xs : List Table) (o : Option Table) → t ≡ nat_eq (length xs) 1 → o ≡ first xs → (if t then o else None) ≡ None →
    nat_eq (length xs) 1 ≡ false
none-of true [] o is same none = sym is ∙ absurd (cc)
none-of true (x ∷ xs) o is same none = absurd (cc)
none-of false xs o is same none = sym is

pub none-found : (t : PlanTable) (columns : List (List ℕ)) (tables : List Table) → table_of t tables ≡ None →
    whole_faults (outline t columns) tables ≡ place (name_of t) 0 ∷ []
none-found t columns tables none =
    let one = none-of (count_by (has_name (name_of t)) tables == 1) (filter (has_name (name_of t)) tables)
    (find (has_name (name_of t)) tables) (sym (one-of (outline t columns) tables)) (found-first (has_name (name_of t)) tables) none in
    ap (λ (b : Bool). when (not b || lacks_column columns (named (outline t columns) tables)) (place (name_of t) 0)) one

-- what is wrong with a table that was found
pub whole-found : (t : PlanTable) (columns : List (List ℕ)) (tables : List Table) (table : Table) → table_of t tables ≡ Some table →
    whole_faults (outline t columns) tables ≡ when (list_any (λ name. is_none (place_of name table.columns)) columns) (place (name_of t) 0)
whole-found t columns tables table found =
    let both = once t columns tables table found in
    ap (λ (b : Bool). when (not b || lacks_column columns (named (outline t columns) tables)) (place (name_of t) 0)) both.0
    ∙ ap (λ (o : Option Table). when (not true || lacks_column columns o) (place (name_of t) 0)) both.1

-- the numbers of its rows
pub rows-found : (t : PlanTable) (columns : List (List ℕ)) (tables : List Table) (table : Table) → table_of t tables ≡ Some table →
    rows_of (outline t columns) tables ≡ map (numbers columns table) table.rows
rows-found t columns tables table found = ap (rows_in (outline t columns)) (once t columns tables table found).1

-- a number at a column that may be there
abbrev value_at : Option ℕ → List Field → Option ℤ
value_at place row = option_and_then whole_number (option_and_then (slice_get row) place)

-- two columns, each of which may be there
abbrev pair : Option ℕ → Option ℕ → Option Pair
pair p q = p >>= λ first. q >>= λ second. Some (record { first = first; second = second })

abbrev triple : Option ℕ → Option ℕ → Option ℕ → Option Triple
triple p q r = p >>= λ first. q >>= λ second. r >>= λ third. Some (record { first = first; second = second; third = third })

-- two columns: one is lacking, or both are at their places
pair-lacks : (p q : Option ℕ) → pair p q ≡ None → (is_none p || (is_none q || false)) ≡ true
pair-lacks None q none = refl
pair-lacks (Some p) None none = refl
pair-lacks (Some p) (Some q) none = absurd (cc)

pair-has : (p q : Option ℕ) (c : Pair) → pair p q ≡ Some c →
    ((is_none p || (is_none q || false)) ≡ false) × ((row : List Field) → value_at p row ∷ value_at q row ∷ [] ≡ pair_at c row)
pair-has None q c some = absurd (cc)
pair-has (Some p) None c some = absurd (cc)
pair-has (Some p) (Some q) c some = (refl, λ row. ap (λ (o : Option Pair). unwrap_or (option_map (λ (c : Pair). pair_at c row) o) []) some)

triple-lacks : (p q r : Option ℕ) → triple p q r ≡ None → (is_none p || (is_none q || (is_none r || false))) ≡ true
triple-lacks None q r none = refl
triple-lacks (Some p) None r none = refl
triple-lacks (Some p) (Some q) None none = refl
triple-lacks (Some p) (Some q) (Some r) none = absurd (cc)

triple-has : (p q r : Option ℕ) (c : Triple) → triple p q r ≡ Some c →
    ((is_none p || (is_none q || (is_none r || false))) ≡ false)
    × ((row : List Field) → value_at p row ∷ value_at q row ∷ value_at r row ∷ [] ≡ triple_at c row)
triple-has None q r c some = absurd (cc)
triple-has (Some p) None r c some = absurd (cc)
triple-has (Some p) (Some q) None c some = absurd (cc)
triple-has (Some p) (Some q) (Some r) c some =
    (refl, λ row. ap (λ (o : Option Triple). unwrap_or (option_map (λ (c : Triple). triple_at c row) o) []) some)

map-same : {A B : Type 0} (f g : A → B) (xs : List A) → ((x : A) → f x ≡ g x) → map f xs ≡ map g xs
map-same f g [] same = refl
map-same f g (x ∷ xs) same = ap (λ y. y ∷ map f xs) (same x) ∙ ap (λ ys. g x ∷ ys) (map-same f g xs same)

pub pair-none : (t : PlanTable) (one two : List ℕ) (tables : List Table) (table : Table) → table_of t tables ≡ Some table →
    pair_of table.columns one two ≡ None →
    whole_faults (outline t (one ∷ two ∷ [])) tables ≡ place (name_of t) 0 ∷ []
pair-none t one two tables table found none =
    whole-found t (one ∷ two ∷ []) tables table found
    ∙ ap (λ (b : Bool). when b (place (name_of t) 0)) (pair-lacks (place_of one table.columns) (place_of two table.columns) none)

pub pair-some : (t : PlanTable) (one two : List ℕ) (tables : List Table) (table : Table) (c : Pair) → table_of t tables ≡ Some table →
    pair_of table.columns one two ≡ Some c → length table.rows < 2 ^ 32 →
    Finds (outline t (one ∷ two ∷ [])) tables (pair_at c) table.rows
pair-some t one two tables table c found some sized =
    let has = pair-has (place_of one table.columns) (place_of two table.columns) c some in (
      whole-found t (one ∷ two ∷ []) tables table found ∙ ap (λ (b : Bool). when b (place (name_of t) 0)) has.0,
      rows-found t (one ∷ two ∷ []) tables table found ∙ map-same (numbers (one ∷ two ∷ []) table) (pair_at c) table.rows has.1,
      sized,
    )

pub triple-none : (t : PlanTable) (one two three : List ℕ) (tables : List Table) (table : Table) → table_of t tables ≡ Some table →
    triple_of table.columns one two three ≡ None →
    whole_faults (outline t (one ∷ two ∷ three ∷ [])) tables ≡ place (name_of t) 0 ∷ []
triple-none t one two three tables table found none =
    whole-found t (one ∷ two ∷ three ∷ []) tables table found
    ∙ ap (λ (b : Bool). when b (place (name_of t) 0))
    (triple-lacks (place_of one table.columns) (place_of two table.columns) (place_of three table.columns) none)

pub triple-some : (t : PlanTable) (one two three : List ℕ) (tables : List Table) (table : Table) (c : Triple) →
    table_of t tables ≡ Some table → triple_of table.columns one two three ≡ Some c →
    length table.rows < 2 ^ 32 → Finds (outline t (one ∷ two ∷ three ∷ [])) tables (triple_at c) table.rows
triple-some t one two three tables table c found some sized =
    let has = triple-has (place_of one table.columns) (place_of two table.columns) (place_of three table.columns) c some in (
      whole-found t (one ∷ two ∷ three ∷ []) tables table found ∙ ap (λ (b : Bool). when b (place (name_of t) 0)) has.0,
      rows-found t (one ∷ two ∷ three ∷ []) tables table found
          ∙ map-same (numbers (one ∷ two ∷ three ∷ []) table) (triple_at c) table.rows has.1,
      sized,
    )
