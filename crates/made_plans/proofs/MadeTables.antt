-- The tables of a made day have no fault.
use Rattle.std.proofs.Common.{◌≡◌, ℕ, zero, suc, ◌+◌, ◌*◌, ◌/◌, ◌%◌, ◌^◌, ◌<◌, ◌≤◌, ◌==◌, Bool, true, false, List, [], ◌∷◌, ◌++◌, drop, refl, ap, ◌∙◌, arith, nat_le}
use Rattle.std.specs.List.{AllByRecursion, list_any}
use Rattle.std.proofs.lemmas.Bool.Decides.{nat_tests}
use Rattle.vdv451_text.specs.declared.table.Table.{Table}
use Rattle.vdv452_rows.specs.declared.cell.Cell.{Cell as ReadCell}
use Rattle.vdv452_rows.specs.declared.cell.Cell.TheVariants as read
use Rattle.vdv452_tables.specs.declared.reading.Needs.TheVariants as needs
use Rattle.vdv452_rows.specs.declared.schema.Schema.{Schema}
use Rattle.vdv452_tables.specs.Calendar.{schemas_of}
use Rattle.vdv452_rows.specs.Cells.{same_cells}
use Rattle.vdv452_rows.specs.declared.fault.TableKind.TheVariants as kinds
use Rattle.vdv452_rows.specs.Rows.{cell_faults, fault, faults_of, first, is_twice, key_fault, key_of, own_key, row_fault, row_faults, table_faults, when}
use Rattle.vdv452_rows.specs.Schema as schema
use Rattle.day_maker.specs.declared.cells.Cell.{Cell}
use Rattle.day_maker.specs.declared.cells.Cell.TheVariants.{Number, Variant, Nothing}
use Rattle.day_maker.specs.Made as made
use Rattle.day_maker.specs.Made.{drawn, fields_of, made_tables, next_state, rows_of, trip_rows, trip_table}
use Rattle.made_plans.specs.MadeTables.{AreFaultless}

-- a trip's row, by its number, its departure, its line and its variant
abbrev row : ℕ → ℕ → ℕ → Bool → List Cell
row fid start line out = Number 1 ∷ Number fid ∷ Number start ∷ Number line ∷ Number 1 ∷ Number 1 ∷ Number 1 ∷ Variant out ∷ Nothing ∷ []

below : (n m : ℕ) → 0 < m → n % m < m
below n m some = omega (arith, some)

-- the key of a trip's row
abbrev key : ℕ → List ReadCell
key fid = read.Number 1 ∷ read.Long fid ∷ []

abbrev IsKeyBelow : ℕ → List ReadCell → Type 0
IsKeyBelow fid k = (f : ℕ) × (f < fid) × (k ≡ key f)

abbrev AreKeysBelow : ℕ → List (List ReadCell) → Type 0
AreKeysBelow fid keys = AllByRecursion (IsKeyBelow fid) keys

more_keys : (fid : ℕ) (keys : List (List ReadCell)) → AreKeysBelow fid keys → AreKeysBelow (fid + 1) (keys ++ key fid ∷ [])
more_keys fid [] all = ((fid, omega arith, refl), tt)
more_keys fid (k ∷ keys) all = ((all.0.0, omega (arith, all.0.1), all.0.2), more_keys fid keys all.1)

not_twice : (fid : ℕ) (keys : List (List ReadCell)) → AreKeysBelow fid keys → is_twice keys (key fid) ≡ false
not_twice fid [] all = refl
not_twice fid (k ∷ keys) all =
    let rest : list_any (same_cells (key fid)) keys ≡ false = not_twice fid keys all.1 in
    let low = all.0.1 in
    let apart : (fid == all.0.0) ≡ false = grind (arith, nat_tests) in
    let first : same_cells (key fid) (key all.0.0) ≡ false = rw apart refl in
    let here : same_cells (key fid) k ≡ false = ap (same_cells (key fid)) all.0.2 ∙ first in
    rw (here, rest) refl

abbrev table : Table
table = trip_table 0 0

-- a trip's row has its key
key_is : (fid start line : ℕ) (out : Bool) → nat_le fid 1000000000000000000 ≡ true →
    key_of schema.trips table (fields_of (row fid start line out)) ≡ key fid
key_is fid start line out few = rw few refl

cells_right : (fid start line : ℕ) (out : Bool) (place : ℕ) → nat_le fid 1000000000000000000 ≡ true → nat_le start 172800 ≡ true →
    nat_le line 4294967295 ≡ true →
    cell_faults schema.trips table place (fields_of (row fid start line out)) ≡ []
cells_right fid start line out place few few_seconds few_lines = rw (few, few_seconds, few_lines) refl

row_right : (before : List (List ReadCell)) (fid start line : ℕ) (out : Bool) (place : ℕ) → AreKeysBelow fid before →
    nat_le fid 1000000000000000000 ≡ true → nat_le start 172800 ≡ true → nat_le line 4294967295 ≡ true →
    row_fault schema.trips table before place (fields_of (row fid start line out)) ≡ []
row_right before fid start line out place keys few few_seconds few_lines =
    ap (λ xs. xs ++ key_fault schema.trips.name place before (key_of schema.trips table (fields_of (row fid start line out))))
    (cells_right fid start line out place few few_seconds few_lines)
    ∙ ap (λ k. key_fault schema.trips.name place before k) (key_is fid start line out few)
    ∙ ap (λ b. when b (fault kinds.KeyTwice schema.trips.name [] place)) (not_twice fid before keys)

-- Trips' rows are made one after another with rising numbers, and the keys of the rows before are those of smaller numbers
-- (`AreKeysBelow`), so none comes twice. Draws are remainders, so departure and line stay in their ranges whatever the state is. All
-- other tables hold no draw, and their faults are computed.
rows_right : (n fid s : ℕ) (before : List (List ReadCell)) (place : ℕ) → AreKeysBelow fid before → fid + n ≤ 1000000 →
    row_faults schema.trips table before place (rows_of (trip_rows n fid s)) ≡ []
rows_right zero fid s before place keys few = refl
rows_right (suc n) fid s before place keys few =
    let a = next_state s in
    let b = next_state a in
    let c = next_state b in
    let line : drawn a 7 < 7 = below (a / 2 ^ 33) 7 (omega arith) in
    let start : drawn c 960 < 960 = below (c / 2 ^ 33) 960 (omega arith) in
    let few_fids : nat_le fid 1000000000000000000 ≡ true = grind (arith, nat_tests) in
    let few_seconds : nat_le (18000 + 60 * drawn c 960) 172800 ≡ true = grind (arith, nat_tests) in
    let few_lines : nat_le (1 + drawn a 7) 4294967295 ≡ true = grind (arith, nat_tests) in
    let own : List ReadCell = key_of schema.trips table (fields_of (row fid (18000 + 60 * drawn c 960) (1 + drawn a 7) (drawn b 2 == 0))) in
    let own_is : own ≡ key fid = key_is fid (18000 + 60 * drawn c 960) (1 + drawn a 7) (drawn b 2 == 0) few_fids in
    let rest = rows_right n (fid + 1) c (before ++ key fid ∷ []) (place + 1) (more_keys fid before keys) (omega (arith, few)) in
    let first = row_right before fid (18000 + 60 * drawn c 960) (1 + drawn a 7) (drawn b 2 == 0) place keys
    few_fids few_seconds few_lines in
    ap (λ xs. xs ++ row_faults schema.trips table (before ++ own_key own) (place + 1) (rows_of (trip_rows n (fid + 1) c))) first
    ∙ ap (λ k. row_faults schema.trips table (before ++ own_key k) (place + 1) (rows_of (trip_rows n (fid + 1) c))) own_is ∙ rest

-- the faults of each table
abbrev HasNone : ℕ → ℕ → Schema → Type 0
HasNone seed trips s = table_faults s (made_tables seed trips) ≡ []

trips_right : (seed trips : ℕ) → trips ≤ 3000 → HasNone seed trips schema.trips
trips_right seed trips few = rows_right trips 1 (made.first_state seed) [] 1 tt (omega (arith, few))

depots_right : (seed trips : ℕ) → nat_le trips 10000 ≡ true → HasNone seed trips schema.depots
depots_right seed trips few = rw few refl

drivers_right : (seed trips : ℕ) → nat_le trips 10000 ≡ true → HasNone seed trips schema.drivers
drivers_right seed trips few = rw few refl

none_of : (tables : List Table) (schemas : List Schema) → AllByRecursion (λ s. table_faults s tables ≡ []) schemas →
    faults_of schemas tables ≡ []
none_of tables [] all = refl
none_of tables (s ∷ schemas) all = ap (λ xs. xs ++ faults_of schemas tables) all.0 ∙ none_of tables schemas all.1

pub faultless : (seed trips : ℕ) → trips ≤ 3000 → AreFaultless seed trips
faultless seed trips few =
    let test : nat_le trips 10000 ≡ true = grind (arith, nat_tests) in
    let after_trips : AllByRecursion (HasNone seed trips) (drop 10 (schemas_of needs.All)) =
    (refl, (refl, (refl, (depots_right seed trips test, (refl, (refl, (refl, (drivers_right seed trips test, tt)))))))) in
    let all : AllByRecursion (HasNone seed trips) (schemas_of needs.All) =
    (refl, (refl, (refl, (refl, (refl, (refl, (refl, (refl, (refl, (trips_right seed trips few, after_trips)))))))))) in
    ap (λ xs. first xs) (none_of (made_tables seed trips) (schemas_of needs.All) all)
