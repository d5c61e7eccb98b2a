-- Tables do not differ from themselves, where their names differ from one another.
use Rattle.std.proofs.Common.{◌≡◌, ℕ, ℤ, zero, suc, ◌+◌, ◌<◌, ◌==◌, ◌&&◌, Bool, true, false, not, cond, if◌then◌else◌, nat_eq, min, List, ◌∷◌, length, take, drop, get_or, Option, Some, None, refl, ap, ◌∙◌, arith, []}
use Rattle.std.specs.Prelude.{count_by}
use Rattle.std.proofs.lemmas.Bool.Decides.{Decides-int_eq, nat_tests}
use Rattle.std.proofs.lemmas.List.Sums.{sum_by-cons}
use Rattle.std.proofs.lemmas.Slice.Eq.{bytes_eq-Decides}
use Rattle.std.specs.List.{AllByRecursion, find, list_all, position_from, zip}
use Rattle.std.specs.Ordering.{int_eq}
use Rattle.std.specs.Str.{bytes_eq}
use Rattle.std.proofs.lemmas.Bool.{and_from}
use Rattle.vdv451_text.specs.declared.table.Field.{Field}
use Rattle.vdv451_text.specs.declared.table.Field.TheVariants.{Num, Text, Raw, Empty}
use Rattle.vdv451_text.specs.declared.table.Head.{Head}
use Rattle.vdv451_text.specs.declared.table.Table.{Table}
use Rattle.vdv452_rows.specs.Rows.{has_name}
use Rattle.number_tables.specs.Single.{single_in}
use Rattle.table_differences.specs.Differences.{aside_in, difference_among, difference_from, difference_on, end_difference, first_difference, found_or, pair_or_end, row_difference, same_field, same_fields, same_head, same_heads, same_row, table_difference}
use Rattle.check_answers.proofs.Apart.{Apart, IsOther, each, each-at, one_if}

own-text : (xs : List ℕ) → bytes_eq xs xs ≡ true
own-text xs = (bytes_eq-Decides xs xs).1 refl

own-number : (z : ℤ) → int_eq z z ≡ true
own-number z = (Decides-int_eq z z).1 refl

own-count : (n : ℕ) → nat_eq n n ≡ true
own-count n = grind (arith, nat_tests)

own-field : (f : Field) → same_field f f ≡ true
own-field (Num z) = own-number z
own-field (Text text) = own-text text
own-field (Raw bytes) = own-text bytes
own-field Empty = refl

-- what compares each with itself
own-each : {A : Type 0} (same : A → A → Bool) → ((x : A) → same x x ≡ true) → (xs : List A) →
    list_all (λ p. same p.0 p.1) (zip xs xs) ≡ true
own-each same own [] = refl
own-each same own (x ∷ xs) = and_from (same x x) (list_all (λ p. same p.0 p.1) (zip xs xs)) (own x) (own-each same own xs)

own-fields : (row : List Field) → same_fields row row ≡ true
own-fields row = and_from (nat_eq (length row) (length row)) (list_all (λ p. same_field p.0 p.1) (zip row row)) (own-count (length row))
    (own-each same_field own-field row)

own-row : (aside : Option ℕ) (row : List Field) → same_row aside row row ≡ true
own-row None row = own-fields row
own-row (Some place) row =
    and_from (nat_eq (length row) (length row) && same_fields (take place row) (take place row))
    (same_fields (drop (place + 1) row) (drop (place + 1) row))
    (and_from (nat_eq (length row) (length row)) (same_fields (take place row) (take place row)) (own-count (length row))
    (own-fields (take place row)))
    (own-fields (drop (place + 1) row))

own-head : (head : Head) → same_head head head ≡ true
own-head head = and_from (bytes_eq head.name head.name) (bytes_eq head.format head.format) (own-text head.name) (own-text head.format)

own-heads : (heads : List Head) → same_heads heads heads ≡ true
own-heads heads = and_from (nat_eq (length heads) (length heads)) (list_all (λ p. same_head p.0 p.1) (zip heads heads))
    (own-count (length heads)) (own-each same_head own-head heads)

no-pair : (aside : Option ℕ) (from : ℕ) (rows : List (List Field)) →
    position_from (λ p. not (same_row aside p.0 p.1)) from (zip rows rows) ≡ None
no-pair aside from [] = refl
no-pair aside from (row ∷ rows) =
    ap (λ (b : Bool). cond (not b) (Some from) (position_from (λ p. not (same_row aside p.0 p.1)) (from + 1) (zip rows rows)))
    (own-row aside row) ∙ no-pair aside (from + 1) rows

no-end : (n : ℕ) → end_difference n n ≡ None
no-end n = ap (λ (b : Bool). if b then None else Some (min n n + 1)) (own-count n)

no-row : (aside : Option ℕ) (rows : List (List Field)) → row_difference aside rows rows ≡ None
no-row aside rows = ap (λ (o : Option ℕ). pair_or_end o (end_difference (length rows) (length rows))) (no-pair aside 0 rows)
    ∙ no-end (length rows)

-- a table and itself
pub own-table : (aside : Option ℕ) (table : Table) → table_difference aside table table ≡ None
own-table aside table =
    ap (λ (b : Bool). if b then row_difference aside table.rows table.rows else Some 0) (own-heads table.columns) ∙ no-row aside table.rows

-- tables by the names of others
abbrev pub named : Table → Table → Bool
named t u = has_name t.name u

-- A table of its own name among others is found, and stands once.
no-other : (t : Table) (ts : List Table) → AllByRecursion (λ (u : Table). named t u ≡ false) ts → count_by (has_name t.name) ts ≡ 0
no-other t [] others = refl
no-other t (u ∷ us) others =
    let all = sum_by-cons (λ (x : Table). one_if (has_name t.name x)) u us in
    let off : one_if (has_name t.name u) ≡ 0 = ap one_if others.0 in
    let rest = no-other t us others.1 in
    omega (arith, all, off, rest)

once : (ts : List Table) (k : ℕ) (d : Table) → Apart named ts → k < length ts → count_by (has_name (get_or ts k d).name) ts ≡ 1
once [] k d apart within = absurd (omega (arith, within))
once (t ∷ ts) zero d apart within =
    let all = sum_by-cons (λ (x : Table). one_if (has_name t.name x)) t ts in
    let own : one_if (has_name t.name t) ≡ 1 = ap one_if (own-text t.name) in
    let rest = no-other t ts (each (IsOther named t) (λ (u : Table). named t u ≡ false) (λ u h. h.0) ts apart.0) in
    omega (arith, all, own, rest)
once (t ∷ ts) (suc k) d apart within =
    let u = get_or ts k d in
    let other : IsOther named t u = each-at (IsOther named t) ts k d apart.0 (omega (arith, within)) in
    let all = sum_by-cons (λ (x : Table). one_if (has_name u.name x)) t ts in
    let off : one_if (has_name u.name t) ≡ 0 = ap one_if other.1 in
    let rest = once ts k d apart.1 (omega (arith, within)) in
    omega (arith, all, off, rest)

found : (ts : List Table) (k : ℕ) (d : Table) → Apart named ts → k < length ts →
    find (has_name (get_or ts k d).name) ts ≡ Some (get_or ts k d)
found [] k d apart within = absurd (omega (arith, within))
found (t ∷ ts) zero d apart within = ap (λ (b : Bool). cond b (Some t) (find (has_name t.name) ts)) (own-text t.name)
found (t ∷ ts) (suc k) d apart within =
    let u = get_or ts k d in
    let other : IsOther named t u = each-at (IsOther named t) ts k d apart.0 (omega (arith, within)) in
    ap (λ (b : Bool). cond b (Some t) (find (has_name u.name) ts)) other.1 ∙ found ts k d apart.1 (omega (arith, within))

only-itself : (ts : List Table) (k : ℕ) (d : Table) → Apart named ts → k < length ts →
    single_in (get_or ts k d).name ts ≡ Some (get_or ts k d)
only-itself ts k d apart within =
    let u = get_or ts k d in
    ap (λ (n : ℕ). if n == 1 then find (has_name u.name) ts else None) (once ts k d apart within) ∙ found ts k d apart within

-- each of some tables is found among the given ones
abbrev AreAmong : List Table → List Table → Type 0
AreAmong given ts = AllByRecursion (λ (t : Table). single_in t.name given ≡ Some t) ts

no-difference-on : (table column : List ℕ) (given : List Table) (number : ℕ) (made : List Table) → AreAmong given made →
    difference_on table column given number made ≡ None
no-difference-on table column given number [] among = refl
no-difference-on table column given number (t ∷ ts) among =
    let here : difference_among table column given t ≡ None =
    ap (λ (o : Option Table). difference_from (aside_in table column t) t o) among.0 ∙ own-table (aside_in table column t) t in
    ap (λ (o : Option ℕ). found_or number o (difference_on table column given (number + 1) ts)) here
    ∙ no-difference-on table column given (number + 1) ts among.1

-- what holds at each place holds of each
from-places : {A : Type 0} (P : A → Type 0) (xs : List A) → ((k : ℕ) (d : A) → k < length xs → P (get_or xs k d)) → AllByRecursion P xs
from-places P [] all = tt
from-places P (x ∷ xs) all = (all 0 x (omega arith), from-places P xs (λ k d within. all (suc k) d (omega (arith, within))))

-- A table is the same as itself column by column and row by row, with or without a column aside (`own-table`), and it is the only one
-- of its name where the names are apart (`only-itself`). So the tables that the checker makes of a plan and those that the planner
-- wrote do not differ once they are the same list.
pub no-difference : (table column : List ℕ) (ts : List Table) → Apart named ts → first_difference table column ts ts ≡ None
no-difference table column ts apart =
    no-difference-on table column ts 0 ts
    (from-places (λ (t : Table). single_in t.name ts ≡ Some t) ts (λ k d within. only-itself ts k d apart within))
