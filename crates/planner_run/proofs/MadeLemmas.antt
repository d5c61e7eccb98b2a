-- The tables of a made day are plain and have few rows, as tables that were read.
use Rattle.std.proofs.Common.{◌≡◌, ℕ, zero, suc, ◌+◌, ◌*◌, ◌<◌, ◌≤◌, ◌^◌, ◌==◌, Bool, true, false, All, List, [], ◌∷◌, drop, length, refl, ◌∙◌, ap, arith, lit<}
use Rattle.std.specs.List.{AllByRecursion, list_all}
use Rattle.std.proofs.lemmas.Bool.{and_from}
use Rattle.std.proofs.lemmas.List.{length-map}
use Rattle.std.proofs.lemmas.List.Elements.{All-from_recursion}
use Rattle.vdv451_text.specs.declared.table.Head.{Head}
use Rattle.vdv451_text.specs.declared.table.Table.{Table}
use Rattle.vdv451_text.specs.Plain.{are_plain, is_plain_row, is_plain_table}
use Rattle.day_maker.specs.declared.cells.Cell.{Cell}
use Rattle.day_maker.specs.declared.cells.Cell.TheVariants.{Number, Variant, Nothing}
use Rattle.day_maker.specs.Made as made
use Rattle.day_maker.specs.Made.{drawn, fields_of, made_tables, next_state, rows_of, trip_rows, trip_table}

-- the columns of REC_FRT
abbrev columns : List Head
columns = (trip_table 0 0).columns

-- a trip's row, by its number, its departure, its line and its variant
abbrev row : ℕ → ℕ → ℕ → Bool → List Cell
row fid start line out = Number 1 ∷ Number fid ∷ Number start ∷ Number line ∷ Number 1 ∷ Number 1 ∷ Number 1 ∷ Variant out ∷ Nothing ∷ []

row_plain : (fid start line : ℕ) (out : Bool) → is_plain_row columns (fields_of (row fid start line out)) ≡ true
row_plain fid start line true = refl
row_plain fid start line false = refl

-- Each row is made of numbers drawn from a seed and has a field for each column whatever these numbers are, so being plain is computed
-- for a row with free numbers and follows for all by induction, with the state of the drawing left free.
rows_plain : (n fid s : ℕ) → list_all (is_plain_row columns) (rows_of (trip_rows n fid s)) ≡ true
rows_plain zero fid s = refl
rows_plain (suc n) fid s =
    let a = next_state s in
    let b = next_state a in
    let c = next_state b in
    and_from (is_plain_row columns (fields_of (row fid (18000 + 60 * drawn c 960) (1 + drawn a 7) (drawn b 2 == 0))))
    (list_all (is_plain_row columns) (rows_of (trip_rows n (fid + 1) c)))
    (row_plain fid (18000 + 60 * drawn c 960) (1 + drawn a 7) (drawn b 2 == 0)) (rows_plain n (fid + 1) c)

trips_plain : (seed trips : ℕ) → is_plain_table (trip_table seed trips) ≡ true
trips_plain seed trips = rows_plain trips 1 (made.first_state seed)

-- The tables other than REC_FRT do not hang on the seed, and in the number of vehicles and drivers alone on the number of trips: that they
-- are plain is computed.
pub made_plain : (seed trips : ℕ) → are_plain (made_tables seed trips) ≡ true
made_plain seed trips =
    and_from (is_plain_table (trip_table seed trips))
    (list_all is_plain_table (made.deadhead_table ∷ made.type_table ∷ made.settings_table ∷ made.pool_table trips ∷ made.relief_table
    ∷ made.way_table ∷ made.group_table trips ∷ []))
    (trips_plain seed trips) refl

rows_count : (n fid s : ℕ) → length (trip_rows n fid s) ≡ n
rows_count zero fid s = refl
rows_count (suc n) fid s = ap suc (rows_count n (fid + 1) (next_state (next_state (next_state s))))

abbrev HasFewRows : Table → Type 0
HasFewRows table = length table.rows < 2 ^ 32

trips_few : (seed trips : ℕ) → trips ≤ 3000 → HasFewRows (trip_table seed trips)
trips_few seed trips few =
    let count : length (trip_table seed trips).rows ≡ trips =
    length-map (trip_rows trips 1 (made.first_state seed)) fields_of ∙ rows_count trips 1 (made.first_state seed) in
    omega (arith, few, count)

pub made_few : (seed trips : ℕ) → trips ≤ 3000 → All HasFewRows (made_tables seed trips)
made_few seed trips few =
    let after_trips : AllByRecursion HasFewRows (drop 9 (made_tables seed trips)) =
    (lit< tt, (lit< tt, (lit< tt, (lit< tt, (lit< tt, (lit< tt, (lit< tt, tt))))))) in
    All-from_recursion HasFewRows (made_tables seed trips)
    (lit< tt, (lit< tt, (lit< tt, (lit< tt, (lit< tt, (lit< tt, (lit< tt, (lit< tt, (trips_few seed trips few, after_trips)))))))))
