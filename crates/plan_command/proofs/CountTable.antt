-- The two tables of a short text are plain.
use Rattle.std.proofs.Common.{◌≡◌, ℕ, true, List, [], ◌∷◌, length, Option, Result, Ok, Err, IfOk, refl, subst, sym}
use Rattle.std.proofs.lemmas.Bool.{and_parts}
use Rattle.std.proofs.lemmas.List.Elements.{All-cons, All-nil}
use Rattle.vdv451_text.specs.declared.table.Table.{Table}
use Rattle.vdv451_text.specs.Plain.{are_plain, is_plain_table}
use Rattle.number_tables.specs.Numbers.{AreFull}
use Rattle.plan_command.specs.ShortText.{count_columns, count_row}

-- a table that is the one meant is plain where that one is
pub ok_plain : {E : Type 0} (r : Result Table E) (meant : Table) → IfOk r (λ table. table ≡ meant) → is_plain_table meant ≡ true →
    IfOk r (λ table. is_plain_table table ≡ true)
ok_plain (Ok table) meant same plain = subst (λ t. is_plain_table t ≡ true) (sym same) plain
ok_plain (Err e) meant same plain = tt

-- the row of counts has a number for each column
pub counts_full : (trips blocks pieces duties : ℕ) → AreFull count_columns (count_row trips blocks pieces duties ∷ [])
counts_full trips blocks pieces duties =
    let P : List (Option ℕ) → Type 0 = λ row. length row ≡ length count_columns in
    All-cons P (count_row trips blocks pieces duties) [] refl (All-nil P)

-- the last of seven plain tables is plain
pub last_plain : (a b c d e f g : Table) → are_plain (a ∷ b ∷ c ∷ d ∷ e ∷ f ∷ g ∷ []) ≡ true → is_plain_table g ≡ true
last_plain a b c d e f g all =
    let r1 = (and_parts (is_plain_table a) (are_plain (b ∷ c ∷ d ∷ e ∷ f ∷ g ∷ [])) all).1 in
    let r2 = (and_parts (is_plain_table b) (are_plain (c ∷ d ∷ e ∷ f ∷ g ∷ [])) r1).1 in
    let r3 = (and_parts (is_plain_table c) (are_plain (d ∷ e ∷ f ∷ g ∷ [])) r2).1 in
    let r4 = (and_parts (is_plain_table d) (are_plain (e ∷ f ∷ g ∷ [])) r3).1 in
    let r5 = (and_parts (is_plain_table e) (are_plain (f ∷ g ∷ [])) r4).1 in
    let r6 = (and_parts (is_plain_table f) (are_plain (g ∷ [])) r5).1 in
    (and_parts (is_plain_table g) true r6).0
