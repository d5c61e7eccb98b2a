-- REC_FRT of an answer is plain.
use Rattle.std.proofs.Common.{◌≡◌, ℕ, ◌+◌, ◌<◌, ◌≤◌, ◌==◌, true, All, List, [], ◌∷◌, length, get_or, Option, refl, sym, ap, subst, arith, codes}
use Rattle.std.specs.Prelude.{unwrap_or}
use Rattle.std.proofs.lemmas.Bool.Decides.{nat_tests}
use Rattle.std.proofs.lemmas.Bool.{and_from, and_parts}
use Rattle.std.proofs.lemmas.List.Elements.{All-head, All-tail}
use Rattle.std.specs.List.{list_all}
use Rattle.vdv451_text.specs.declared.table.Field.{Field}
use Rattle.vdv451_text.specs.declared.table.Head.{Head}
use Rattle.vdv451_text.specs.declared.table.Table.{Table}
use Rattle.vdv451_text.specs.Plain.{are_plain_columns, is_plain_name, is_plain_row, is_plain_table}
use Rattle.vdv452_rows.specs.Rows.{place_of}
use Rattle.cover_core.specs.declared.Column.{Column}
use Rattle.trip_times.specs.declared.trip.Trip.{Trip}
use Rattle.day_model.specs.Facts.{DayFacts}
use Rattle.umlauf_write.specs.Tables.{block_of, numbered}
use Rattle.umlauf_write.specs.Trips.{HasOneRow, found_row, found_table, is_row_of, row_of}
use Rattle.umlauf_write.proofs.FoundRows.{found_holds, one_found}
use Rattle.umlauf_write.proofs.Plain.{block_small, place_there, with_uid_plain}

-- the row of a trip is plain
row_plain : (table : Table) (version fid : ℕ) → list_all (is_plain_row table.columns) table.rows ≡ true → HasOneRow table version fid →
    is_plain_row table.columns (row_of table version fid) ≡ true
row_plain table version fid plain one =
    found_holds (is_row_of table.columns version fid) (is_plain_row table.columns) table.rows [] one plain

-- it is as long as the columns
pub row_long : (table : Table) (version fid : ℕ) → is_plain_table table ≡ true → HasOneRow table version fid →
    length (row_of table version fid) ≡ length table.columns
row_long table version fid plain one =
    let name = and_parts (is_plain_name table.name) _ plain in
    let columns = and_parts (are_plain_columns table.columns) _ name.1 in
    let row = row_plain table version fid columns.1 one in
    let same = (and_parts (length table.columns == length (row_of table version fid)) _ row).0 in
    grind (arith, nat_tests, same)

rows_plain : (table : Table) (version : ℕ) (blocks : List Column) (number : ℕ) (trips : List Trip) →
    list_all (is_plain_row table.columns) table.rows ≡ true → length blocks ≤ 3000 →
    All (λ (trip : Trip). HasOneRow table version trip.fid) trips →
    list_all (is_plain_row table.columns) (numbered (found_row table version blocks) number trips) ≡ true
rows_plain table version blocks number [] plain few one = refl
rows_plain table version blocks number (trip ∷ trips) plain few one =
    and_from (is_plain_row table.columns (found_row table version blocks number trip))
    (list_all (is_plain_row table.columns) (numbered (found_row table version blocks) (number + 1) trips))
    (with_uid_plain table.columns (place_of (codes "UM_UID") table.columns) (row_of table version trip.fid) (block_of 1 blocks number)
    (place_there (codes "UM_UID") table.columns)
    (omega (arith, block_small 1 blocks number, few))
    (row_plain table version trip.fid plain (All-head (λ (trip : Trip). HasOneRow table version trip.fid) trip trips one)))
    (rows_plain table version blocks (number + 1) trips plain few
    (All-tail (λ (trip : Trip). HasOneRow table version trip.fid) trip trips one))

pub found_table_plain : (day : DayFacts) (table : Table) (blocks : List Column) → is_plain_table table ≡ true → length blocks ≤ 3000 →
    All (λ (trip : Trip). HasOneRow table day.kind.version trip.fid) day.trips → is_plain_table (found_table day table blocks) ≡ true
found_table_plain day table blocks plain few one =
    let name = and_parts (is_plain_name table.name) _ plain in
    let columns = and_parts (are_plain_columns table.columns) _ name.1 in
    and_from (is_plain_name table.name) _ name.0
    (and_from (are_plain_columns table.columns) _ columns.0 (rows_plain table day.kind.version blocks 0 day.trips columns.1 few one))

-- A row that passes is the one row. The place is a guess that the caller makes; it is tested, and where the row there is the trip's it
-- is the one row of the trip, so it is the one that the definition's search finds.
pub row_told : (table : Table) (heads : List Head) (rows : List (List Field)) (told version fid : ℕ) (row : List Field) →
    heads ≡ table.columns → rows ≡ table.rows → told < length rows → row ≡ get_or rows told row → is_row_of heads version fid row ≡ true →
    HasOneRow table version fid →
    row ≡ row_of table version fid
row_told table heads rows told version fid row same same' within is passes one =
    let P : List Head → Type 0 = λ heads. is_row_of heads version fid row ≡ true in
    let Q : List (List Field) → Type 0 = λ rows. told < length rows in
    let R : List (List Field) → Type 0 = λ rows. row ≡ get_or rows told row in
    let found = one_found (is_row_of table.columns version fid) table.rows told row (subst Q same' within) (subst R same' is)
    (subst P same passes) one in
    sym (ap (λ (o : Option (List Field)). unwrap_or o []) found)
