-- The rows of the trips of a made day, as they are read.
use Rattle.std.proofs.Common.{◌≡◌, ℕ, zero, suc, ◌+◌, ◌*◌, ◌/◌, ◌%◌, ◌^◌, ◌<◌, ◌≤◌, ◌==◌, Bool, true, false, All, List, [], ◌∷◌, length, Option, refl, ap, arith, nat_le}
use Rattle.std.specs.Prelude.{unwrap_or, map}
use Rattle.std.proofs.lemmas.Bool.Decides.{nat_tests}
use Rattle.std.proofs.lemmas.List.Elements.{All-cons, All-nil}
use Rattle.vdv452_rows.specs.declared.cell.Cell.{Cell as ReadCell}
use Rattle.vdv452_rows.specs.declared.cell.Cell.TheVariants as read
use Rattle.vdv452_rows.specs.declared.rows.TripRow.{TripRow}
use Rattle.vdv452_rows.specs.Rows.{cells}
use Rattle.vdv452_rows.specs.Schema as schema
use Rattle.vdv452_rows.specs.TypedRows.{typed, trip_row}
use Rattle.vdv452_rows.specs.Values.{number_of}
use Rattle.day_maker.specs.declared.cells.Cell.{Cell}
use Rattle.day_maker.specs.declared.cells.Cell.TheVariants.{Number, Variant, Nothing}
use Rattle.day_maker.specs.Made as made
use Rattle.day_maker.specs.Made.{drawn, fields_of, next_state, rows_of, trip_rows, trip_table, variant_name}
use Rattle.made_plans.specs.MadeRows.{made_net}
use Rattle.made_plans.specs.MadeTrips.{IsMadeRow}
use Rattle.made_plans.proofs.MadeNet.{read_number}

-- a trip's row, by its number, its departure, its line and its variant
abbrev row : ℕ → ℕ → ℕ → Bool → List Cell
row fid start line out = Number 1 ∷ Number fid ∷ Number start ∷ Number line ∷ Number 1 ∷ Number 1 ∷ Number 1 ∷ Variant out ∷ Nothing ∷ []

-- how it is read
abbrev read_row : ℕ → ℕ → ℕ → ℕ → ℕ → Bool → ℕ → TripRow
read_row seed trips fid start line out place =
    trip_row (cells schema.trips (trip_table seed trips) (fields_of (row fid start line out))) place

below : (n m : ℕ) → 0 < m → n % m < m
below n m some = omega (arith, some)

start_is : (seed trips fid start line : ℕ) (out : Bool) (place : ℕ) → nat_le start 172800 ≡ true →
    (read_row seed trips fid start line out place).start ≡ start
unfolding trip_row
start_is seed trips fid start line out place few = let F : Option ReadCell → ℕ = λ c. number_of (unwrap_or c read.Nothing) in
    ap F (read_number 172800 start few)

line_is : (seed trips fid start line : ℕ) (out : Bool) (place : ℕ) → nat_le line 4294967295 ≡ true →
    (read_row seed trips fid start line out place).line ≡ line
unfolding trip_row
line_is seed trips fid start line out place few = let F : Option ReadCell → ℕ = λ c. number_of (unwrap_or c read.Nothing) in
    ap F (read_number 4294967295 line few)

variant_is : (seed trips fid start line : ℕ) (out : Bool) (place : ℕ) →
    (read_row seed trips fid start line out place).variant ≡ variant_name out
unfolding trip_row
variant_is seed trips fid start line true place = refl
variant_is seed trips fid start line false place = refl

row_made : (seed trips fid start line : ℕ) (out : Bool) (place : ℕ) → 1 ≤ line → line ≤ 7 → 18000 ≤ start → start < 75600 →
    IsMadeRow (read_row seed trips fid start line out place)
unfolding trip_row
row_made seed trips fid start line out place low high from to =
    let few : nat_le start 172800 ≡ true = grind (arith, nat_tests) in
    let few_lines : nat_le line 4294967295 ≡ true = grind (arith, nat_tests) in
    let start_same = start_is seed trips fid start line out place few in
    record {
      line = line;
      out = out;
      low = low;
      high = high;
      line_is = line_is seed trips fid start line out place few_lines;
      variant_is = variant_is seed trips fid start line out place;
      group_is = refl;
      begins = omega (arith, start_same, from);
      latest = omega (arith, start_same, to);
    }

rows_made : (seed trips n fid s place : ℕ) →
    All IsMadeRow (typed trip_row place (map (cells schema.trips (trip_table seed trips)) (rows_of (trip_rows n fid s))))
rows_made seed trips zero fid s place = All-nil IsMadeRow
rows_made seed trips (suc n) fid s place =
    let a = next_state s in
    let b = next_state a in
    let c = next_state b in
    let line : drawn a 7 < 7 = below (a / 2 ^ 33) 7 (omega arith) in
    let start : drawn c 960 < 960 = below (c / 2 ^ 33) 960 (omega arith) in
    All-cons IsMadeRow (read_row seed trips fid (18000 + 60 * drawn c 960) (1 + drawn a 7) (drawn b 2 == 0) place)
    (typed trip_row (place + 1) (map (cells schema.trips (trip_table seed trips)) (rows_of (trip_rows n (fid + 1) c))))
    (row_made seed trips fid (18000 + 60 * drawn c 960) (1 + drawn a 7) (drawn b 2 == 0) place (omega arith) (omega (arith, line))
    (omega arith) (omega (arith, start)))
    (rows_made seed trips n (fid + 1) c (place + 1))

rows_count : (seed trips n fid s place : ℕ) →
    length (typed trip_row place (map (cells schema.trips (trip_table seed trips)) (rows_of (trip_rows n fid s)))) ≡ n
rows_count seed trips zero fid s place = refl
rows_count seed trips (suc n) fid s place = ap suc (rows_count seed trips n (fid + 1) (next_state (next_state (next_state s))) (place + 1))

-- the rows of the trips of a made day
pub trips_made : (seed trips : ℕ) → All IsMadeRow (made_net seed trips).trips
trips_made seed trips = rows_made seed trips trips 1 (made.first_state seed) 0

pub trips_count : (seed trips : ℕ) → length (made_net seed trips).trips ≡ trips
trips_count seed trips = rows_count seed trips trips 1 (made.first_state seed) 0
