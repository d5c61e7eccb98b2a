-- What is written is read back: the seven tables have seven names, each table that is read has its columns, and each row says what was
-- written; so no place is wrong, and what all rows say is the plan.
use Rattle.std.proofs.Common.{◌≡◌, ℕ, ℤ, pos, negsuc, zero, suc, ◌+◌, ◌-◌, ◌<◌, ◌≤◌, ◌||◌, Bool, true, false, if◌then◌else◌, nat_lt, List, [], ◌∷◌, ◌++◌, length, map, filter, get_or, refl, sym, ap, subst, ◌∙◌, arith}
use Rattle.std.proofs.lemmas.List.{length-map}
use Rattle.std.proofs.lemmas.Bool.{and_parts}
use Rattle.std.proofs.lemmas.Bool.Decides.{nat_tests}
use Rattle.std.specs.List.{find}
use Rattle.std.specs.Prelude.{IfSome, IsTrue, Option, Some, None, Result, Ok, codes, is_some, is_none, option_and_then, slice_get, unwrap_or}
use Rattle.vdv451_text.specs.declared.table.Table.{Table}
use Rattle.vdv452_rows.specs.Cells.{whole_number}
use Rattle.vdv452_rows.specs.Rows.{first, place_of, when}
use Rattle.cover_core.specs.declared.Column.{Column}
use Rattle.cover_core.specs.Cover.{AllBelow, Problem}
use Rattle.cover_core.specs.Plans.{AreColumns, IsColumn, all_items, times}
use Rattle.trip_times.specs.declared.trip.Trip.{Trip}
use Rattle.plan_params.specs.declared.rows.group.Group.{Group}
use Rattle.plan_params.specs.declared.rows.pool.Pool.{Pool}
use Rattle.day_model.specs.Facts.{DayFacts}
use Rattle.number_tables.specs.Numbers.{number_row}
use Rattle.number_tables.specs.Signed.{signed_row}
use Rattle.number_tables.specs.Outlines.{Place as At, entry_faults, given_of, number_in, numbers, place, place_in, rows_of}
use Rattle.umlauf_write.specs.declared.answer.Answer.{Answer}
use Rattle.umlauf_write.specs.declared.text.DutyRow.{DutyRow}
use Rattle.umlauf_write.specs.declared.text.PlanFault.{PlanFault}
use Rattle.umlauf_write.specs.declared.text.PlanText.{PlanText}
use Rattle.umlauf_write.specs.Answers.{bound_table, duty_row, duty_table, group_of, leg_table, part_table, piece_at}
use Rattle.umlauf_write.specs.Reading as reading
use Rattle.umlauf_write.specs.Reading.{Numbers, Part, block_said, duty_said, entries_from, read_of, read_or, two}
use Rattle.umlauf_write.specs.Tables.{block_of, block_table, cost_row, cost_table, numbered, pool_of}
use Rattle.umlauf_write.specs.Trips.{found_row, is_number, is_row_of, row_of}
use Rattle.umlauf_write.proofs.FoundPlain.{row_long}
use Rattle.umlauf_write.proofs.Plain.{place_there}
use Rattle.plan_read.specs.Numbers.{known}
use Rattle.plan_read.specs.Reading.{counts_of, wholes}
use Rattle.plan_read.specs.ReadsBack.{HaveOwnNumbers, IsAnswerOf, IsPieceOf, IsTripTable, PlanReadsBack, duty_text, part_at, text_of as answer_text, without_worth}
use Rattle.plan_read.proofs.Same.{places_in, text_of, wholes-first}
use Rattle.plan_read.proofs.WrittenLists.{all_tagged, block-trips, duty-parts, owned, owned-there}
use Rattle.plan_read.proofs.WrittenNumbers.{among-back, placed}
use Rattle.plan_read.proofs.WrittenRows.{Each, blocks-given, bounds-given, duties-given, given, parts-given, trip-given, uid-row}

-- Rows that each give something.
no-faults : {A : Type 0} (name : List ℕ) (row : ℕ) (xs : List A) → entry_faults name row (given xs) ≡ []
no-faults name row [] = refl
no-faults name row (x ∷ xs) = no-faults name (row + 1) xs

all-given : {A : Type 0} (xs : List A) → given_of (given xs) ≡ xs
all-given [] = refl
all-given (x ∷ xs) = ap (λ l. x ∷ l) (all-given xs)

-- Classes by their numbers, which rise.
default-same : {A : Type 0} (xs : List A) (k : ℕ) (d e : A) → k < length xs → get_or xs k d ≡ get_or xs k e
default-same [] k d e there = absurd (omega arith)
default-same (x ∷ xs) zero d e there = refl
default-same (x ∷ xs) (suc k) d e there = default-same xs k d e (omega arith)

-- A pool is found again by its number: numbers rise, so no earlier pool has it, and the first place with the number is the class
-- itself. The table's row names the pool by its number alone, and this turns the number back into the class; of groups the same is
-- shown below. The default of `get_or` plays no part, as the place is there (`default-same`).
pool-place : (day : DayFacts) (class : ℕ) → HaveOwnNumbers day → class < length day.params.pools →
    place_in (map (λ (pool : Pool). pool.number) day.params.pools) (pool_of day class).number ≡ Some class
pool-place day class own there =
    let rise = own.pools in
    let pools = day.params.pools in
    let d : Pool = pool_of day class in
    let same : get_or pools class d ≡ pool_of day class = default-same pools class d _ there in
    ap (λ (pool : Pool). place_in (map (λ (pool : Pool). pool.number) pools) pool.number) (sym same)
    ∙ placed (λ (pool : Pool). pool.number) pools class d there (λ j low. let less =
    rise j class d low there in λ e. absurd (omega (arith, e, less)))

group-place : (day : DayFacts) (class : ℕ) → HaveOwnNumbers day → class < length day.params.groups →
    place_in (map (λ (group : Group). group.number) day.params.groups) (group_of day class).number ≡ Some class
group-place day class own there =
    let rise = own.groups in
    let groups = day.params.groups in
    let d : Group = group_of day class in
    let same : get_or groups class d ≡ group_of day class = default-same groups class d _ there in
    ap (λ (group : Group). place_in (map (λ (group : Group). group.number) groups) group.number) (sym same)
    ∙ placed (λ (group : Group). group.number) groups class d there (λ j low. let less =
    rise j class d low there in λ e. absurd (omega (arith, e, less)))

group-known : (day : DayFacts) (n : Numbers) (class : ℕ) → HaveOwnNumbers day → class < length day.params.groups →
    n.groups ≡ map (λ (group : Group). group.number) day.params.groups →
    reading.number_among n.groups (Some (pos (group_of day class).number)) ≡ Some (group_of day class).number
group-known day n class own there are =
    among-back n.groups (group_of day class).number class (ap (λ (l : List ℕ). place_in l (group_of day class).number) are
    ∙ group-place day class own there) (own.words class _ there)

-- Columns of a plan, one by one.
each-column : (p : Problem) (Q : Column → Type 0) → ((c : Column) → IsColumn p c → Q c) → (cs : List Column) → AreColumns p cs → Each Q cs
each-column p Q step [] are = tt
each-column p Q step (c ∷ cs) are = (step c are.0, each-column p Q step cs are.1)

column-at : (p : Problem) (cs : List Column) (k : ℕ) (d : Column) → AreColumns p cs → k < length cs → IsColumn p (get_or cs k d)
column-at p [] k d are there = absurd (omega arith)
column-at p (c ∷ cs) zero d are there = are.0
column-at p (c ∷ cs) (suc k) d are there = column-at p cs k d are.1 (omega arith)

each-item : (n : ℕ) (Q : ℕ → Type 0) → ((i : ℕ) → i < n → Q i) → (xs : List ℕ) → AllBelow n xs → Each Q xs
each-item n Q step [] below = tt
each-item n Q step (x ∷ xs) below = (step x below.0, each-item n Q step xs below.1)

-- Entries that are what is made of each item. Rows are counted on from any row `k`, so that the induction can go behind the first of
-- them; what is asked of an item is asked at its place behind `k`. So block by block, and duty by duty, what the rows say can be
-- compared with the plan.
entries-are : {A B C : Type 0} (f : ℕ → B → C) (g : A → B) (h : A → C) (k : ℕ) (xs : List A) →
    ((j : ℕ) (d : A) → j < length xs → f (k + j) (g (get_or xs j d)) ≡ h (get_or xs j d)) → entries_from f k (map g xs) ≡ map h xs
entries-are f g h k [] same = refl
entries-are f g h k (x ∷ xs) same =
    let here : k + 0 ≡ k = omega arith in
    ap (λ y. y ∷ entries_from f (k + 1) (map g xs)) (ap (λ n. f n (g x)) (sym here) ∙ same 0 x (omega arith))
    ∙ ap (λ ys. h x ∷ ys) (entries-are f g h (k + 1) xs (λ j d low. let moved : k + 1 + j ≡ k + suc j =
    omega arith in ap (λ n. f n (g (get_or xs j d))) moved ∙ same (suc j) d (omega arith)))

-- The rows of trips.
passes : {A : Type 0} (test : A → Bool) (xs : List A) (d : A) → length (filter test xs) ≡ 1 → test (unwrap_or (find test xs) d) ≡ true
passes test [] d one = absurd (omega (arith, one))
passes test (x ∷ xs) d one =
    elim (test x) as (λ t. test x ≡ t → length (if t then x ∷ filter test xs else filter test xs) ≡ 1 →
    test (unwrap_or (if t then Some x else find test xs) d) ≡ true) [
      | true ↦ λ e h. e
      | false ↦ λ e h. passes test xs d h
    ] refl one

number-is : (n : ℕ) (o : Option ℤ) → is_number n o ≡ true → o ≡ Some (pos n)
number-is n None e = absurd (cc)
number-is n (Some (pos m)) e = let same : m ≡ n = grind (arith, nat_tests) in ap (λ (m : ℕ). Some (pos m)) same
number-is n (Some (negsuc m)) e = absurd (cc)

some-place : (o : Option ℕ) → IsTrue (is_some o) → (p : ℕ) × (o ≡ Some p)
some-place None h = absurd (cc)
some-place (Some p) h = (p, refl)

abbrev EachFrom : {A : Type 0} → (ℕ → A → Type 0) → ℕ → List A → Type 0
EachFrom P k [] = Unit {0}
EachFrom P k (x ∷ xs) = P k x × EachFrom P (k + 1) xs

each-from : {A : Type 0} (P : ℕ → A → Type 0) (k : ℕ) (xs : List A) → ((j : ℕ) (d : A) → j < length xs → P (k + j) (get_or xs j d)) →
    EachFrom P k xs
each-from P k [] all = tt
each-from P k (x ∷ xs) all =
    let here : k + 0 ≡ k = omega arith in
    let Q : ℕ → Type 0 = λ n. P n x in (
      subst Q here (all 0 x (omega arith)),
      each-from P (k + 1) xs (λ j d low. let moved : k + suc j ≡ k + 1 + j =
          omega arith in let R : ℕ → Type 0 = λ n. P n (get_or xs j d) in subst R moved (all (suc j) d (omega arith))),
    )

-- REC_FRT of an answer
abbrev trips_of : DayFacts → Table → List Column → List ℕ → Table
trips_of day table blocks name =
    record { name = name; columns = table.columns; rows = numbered (found_row table day.kind.version blocks) 0 day.trips }

abbrev trip_says : DayFacts → Table → List Column → Numbers → ℕ → Trip → Type 0
trip_says day table blocks n k trip =
    reading.trip_entry n (numbers reading.trips.columns (trips_of day table blocks (codes "REC_FRT"))
    (found_row table day.kind.version blocks k trip)) ≡ Some (two k (block_of 1 blocks k - 1))

-- All rows of trips give what each gives, one by one; the trips are counted on from `k`, as their rows are.
trips-given : (day : DayFacts) (table : Table) (blocks : List Column) (n : Numbers) (k : ℕ) (ts : List Trip) →
    EachFrom (trip_says day table blocks n) k ts →
    map (reading.trip_entry n)
    (map (numbers reading.trips.columns (trips_of day table blocks (codes "REC_FRT")))
    (numbered (found_row table day.kind.version blocks) k ts)) ≡ given (owned blocks k ts)
trips-given day table blocks n k [] each = refl
trips-given day table blocks n k (t ∷ ts) each =
    ap (λ (o : Option (ℕ × ℕ)). o ∷ map (reading.trip_entry n)
    (map (numbers reading.trips.columns (trips_of day table blocks (codes "REC_FRT")))
    (numbered (found_row table day.kind.version blocks) (k + 1) ts))) each.0
    ∙ ap (λ (l : List (Option (ℕ × ℕ))). Some (two k (block_of 1 blocks k - 1)) ∷ l) (trips-given day table blocks n (k + 1) ts each.1)

-- The written row of a trip says the trip and its block. The row taken from the table has the trip's FRT_FID, since one row alone
-- passes the test; the block's number is put in the column UM_UID, which is another, so FRT_FID stays (`uid-row`). No earlier trip has
-- this FRT_FID, so it is found at the trip's own place; and as the trip stands once among the blocks, the number is one of theirs
-- (`owned-there`).
trip-says : (day : DayFacts) (table : Table) (blocks : List Column) (n : Numbers) (k : ℕ) (d : Trip) → IsTripTable day table →
    HaveOwnNumbers day → k < length day.trips → n.fids ≡ map (λ (trip : Trip). trip.fid) day.trips →
    n.blocks ≡ length blocks → length blocks ≤ 3000 → times k (all_items blocks) ≡ 1 → trip_says day table blocks n k (get_or day.trips k d)
trip-says day table blocks n k d is own there fids count few once =
    let trip = get_or day.trips k d in
    let version = day.kind.version in
    let heads = table.columns in
    let one = is.one k d there in
    let row = row_of table version trip.fid in
    let block = block_of 1 blocks k in
    let fid_at = some-place (place_of (codes "FRT_FID") heads) is.has_fid in
    let uid_at = some-place (place_of (codes "UM_UID") heads) is.has_uid in
    let test = passes (is_row_of heads version trip.fid) table.rows [] one in
    let has : number_in heads row (codes "FRT_FID") ≡ Some (pos trip.fid) =
    number-is trip.fid (number_in heads row (codes "FRT_FID"))
    (and_parts (is_number version (number_in heads row (codes "BASIS_VERSION")))
    (is_number trip.fid (number_in heads row (codes "FRT_FID"))) test).1 in
    let has_fid = ap (λ (o : Option ℕ). option_and_then whole_number (option_and_then (slice_get row) o)) (sym fid_at.1) ∙ has in
    let long = row_long table version trip.fid is.plain one in
    let P : Option ℕ → Type 0 = λ o. IfSome o (λ p. p < length heads) in
    let low : uid_at.0 < length heads = subst P uid_at.1 (place_there (codes "UM_UID") heads) in
    let owner = owned-there 1 blocks k once in
    let first = owner.0 in
    let last = owner.1 in
    let rise = own.trips in
    let found : place_in n.fids trip.fid ≡ Some k = ap (λ (l : List ℕ). place_in l trip.fid) fids
    ∙ placed (λ (trip : Trip). trip.fid) day.trips k d there (λ j before. rise j k d before there) in
    ap (reading.trip_entry n)
    (uid-row heads row trip.fid block fid_at.0 uid_at.0 fid_at.1 uid_at.1 (omega (arith, long, low)) (omega (arith, last, few)) has_fid)
    ∙ trip-given n trip.fid k block found first (omega (arith, last, count))

-- All tables together. Where each row of the five tables gives something, no place is wrong and what the rows give is what was put in:
-- five rewrites take away the lists of places, which are empty, and five more the options around the values. So what is read is the
-- plan that the rows say.
collapse : (trips : List (ℕ × ℕ)) (classes groups : List ℕ) (parts : List Part) (bounds : List ℕ) →
    read_or (text_of (given_of (given trips)) (given_of (given classes)) (given_of (given groups)) (given_of (given parts))
    (given_of (given bounds)))
    (first (entry_faults reading.trips.name 1 (given trips)
    ++ (entry_faults reading.blocks.name 1 (given classes) ++ (entry_faults reading.duties.name 1 (given groups) ++
    (entry_faults reading.parts.name 1 (given parts) ++ (entry_faults reading.bounds.name 1 (given bounds) ++ []))))))
    ≡ Ok (text_of trips classes groups parts bounds)
collapse trips classes groups parts bounds =
    let T = given_of (given trips) in
    let C = given_of (given classes) in
    let G = given_of (given groups) in
    let P = given_of (given parts) in
    let say : List At → List At → List At → List At → List At → Result PlanText PlanFault =
    λ a b c d e. read_or (text_of T C G P (given_of (given bounds))) (first (a ++ (b ++ (c ++ (d ++ (e ++ [])))))) in
    let ok : PlanText → Result PlanText PlanFault = λ t. Ok t in
    ap (λ (l : List At). say l (entry_faults reading.blocks.name 1 (given classes)) (entry_faults reading.duties.name 1 (given groups))
    (entry_faults reading.parts.name 1 (given parts)) (entry_faults reading.bounds.name 1 (given bounds)))
    (no-faults reading.trips.name 1 trips)
    ∙ (ap (λ (l : List At). say [] l (entry_faults reading.duties.name 1 (given groups)) (entry_faults reading.parts.name 1 (given parts))
    (entry_faults reading.bounds.name 1 (given bounds))) (no-faults reading.blocks.name 1 classes)
    ∙ (ap (λ (l : List At). say [] [] l (entry_faults reading.parts.name 1 (given parts))
    (entry_faults reading.bounds.name 1 (given bounds))) (no-faults reading.duties.name 1 groups)
    ∙ (ap (λ (l : List At). say [] [] [] l (entry_faults reading.bounds.name 1 (given bounds))) (no-faults reading.parts.name 1 parts)
    ∙ (ap (λ (l : List At). say [] [] [] [] l) (no-faults reading.bounds.name 1 bounds)
    ∙ (ap (λ (l : List (ℕ × ℕ)). ok (text_of l C G P (given_of (given bounds)))) (all-given trips)
    ∙ (ap (λ (l : List ℕ). ok (text_of trips l G P (given_of (given bounds)))) (all-given classes)
    ∙ (ap (λ (l : List ℕ). ok (text_of trips classes l P (given_of (given bounds)))) (all-given groups)
    ∙ (ap (λ (l : List Part). ok (text_of trips classes groups l (given_of (given bounds)))) (all-given parts)
    ∙ ap (λ (l : List ℕ). ok (text_of trips classes groups parts l)) (all-given bounds)))))))))

-- What the rows say is the plan. It is shown block by block and duty by duty: the rows with a block's number have its trips in their
-- order (`block-trips`, for which each trip must be in one block alone and a block's trips must rise), and the rows with a duty's
-- number have its pieces in theirs (`duty-parts`). Classes and group numbers are what their own rows give.
texts-same : (day : DayFacts) (answer : Answer) (p q : Problem) → IsAnswerOf day p q answer →
    text_of (owned answer.blocks.columns 0 day.trips) (map (λ (c : Column). c.class) answer.blocks.columns)
    (map (λ (c : Column). (group_of day c.class).number) answer.duties.columns)
    (all_tagged (part_at answer.pieces) 0 answer.duties.columns) answer.bounds ≡ answer_text day answer
texts-same day answer p q is =
    let B = answer.blocks.columns in
    let D = answer.duties.columns in
    let trips = owned B 0 day.trips in
    let parts = all_tagged (part_at answer.pieces) 0 D in
    let lists = is.block_lists in
    let columns = is.blocks.worths in
    let once = is.blocks.once in
    let many = is.trips in
    let Below : List ℕ → ℕ → Type 0 = λ xs n. AllBelow n xs in
    let make : List Column → List DutyRow → PlanText =
    λ b d. record { blocks = record { columns = b }; duties = d; bounds = answer.bounds } in
    let blocks : entries_from (block_said trips) 0 (map (λ (c : Column). c.class) B) ≡ map without_worth B =
    entries-are (block_said trips) (λ (c : Column). c.class) without_worth 0 B (λ k d there.
    let c = get_or B k d in
    let listed = lists c.class c.items c.worth (column-at p B k d columns there).1 in
    let zero-plus : 0 + k ≡ k = omega arith in
    ap (λ n. block_said trips n c.class) zero-plus
    ∙ ap (λ (l : List ℕ). record { class = c.class; worth = 0; items = l })
    (block-trips B day.trips k d there listed.1 (subst (Below c.items) many listed.2) (λ i low. once i (omega (arith, many, low))))) in
    let duties : entries_from (duty_said parts) 0 (map (λ (c : Column). (group_of day c.class).number) D)
    ≡ map (duty_text day answer.pieces) D =
    entries-are (duty_said parts) (λ (c : Column). (group_of day c.class).number) (duty_text day answer.pieces) 0 D (λ k d there.
    let c = get_or D k d in
    ap (λ (l : List (ℕ × ℕ)). record { group = (group_of day c.class).number; parts = l })
    (duty-parts (part_at answer.pieces) 0 k D d there)) in
    ap (λ (b : List Column). make b (entries_from (duty_said parts) 0 (map (λ (c : Column). (group_of day c.class).number) D))) blocks
    ∙ ap (λ (d : List DutyRow). make (map without_worth B) d) duties

numbered-long : {A B : Type 0} (f : ℕ → A → B) (k : ℕ) (xs : List A) → length (numbered f k xs) ≡ length xs
numbered-long f k [] = refl
numbered-long f k (x ∷ xs) = ap suc (numbered-long f (k + 1) xs)

rows-long : {A B C D : Type 0} (f : ℕ → A → B) (g : B → C) (h : C → D) (xs : List A) → length (map h (map g (numbered f 1 xs))) ≡ length xs
rows-long f g h xs = length-map (map g (numbered f 1 xs)) h ∙ (length-map (numbered f 1 xs) g ∙ numbered-long f 1 xs)

-- the tables of an answer, where REC_FRT has a name
abbrev tables_with : DayFacts → Table → Answer → List ℕ → List Table
tables_with day table answer name =
    block_table day answer.blocks.columns ∷ trips_of day table answer.blocks.columns name ∷ cost_table day answer.blocks.columns
    ∷ leg_table day answer.legs ∷
    duty_table day answer.pieces answer.duties.columns ∷ part_table answer.pieces answer.duties.columns ∷ bound_table answer.blocks.columns
    answer.duties.columns answer.bounds ∷ []

-- no table is wrong as a whole
none-wrong : (day : DayFacts) (table : Table) (answer : Answer) → IsTripTable day table →
    wholes (tables_with day table answer (codes "REC_FRT")) ≡ []
none-wrong day table answer is =
    let fid = some-place (place_of (codes "FRT_FID") table.columns) is.has_fid in
    let uid = some-place (place_of (codes "UM_UID") table.columns) is.has_uid in
    let lacks : Option ℕ → Option ℕ → List At =
    λ f u. (((when (is_none f || (is_none u || false)) (place (codes "REC_FRT") 0) ++ []) ++ []) ++ []) ++ [] in
    ap (λ (o : Option ℕ). lacks o (place_of (codes "UM_UID") table.columns)) fid.1 ∙ ap (λ (o : Option ℕ). lacks (Some fid.0) o) uid.1

-- The tables that are written of a plan are read back as that plan. `read_of` is rewritten from the tables on: none is wrong as a
-- whole, and each table's rows give its items one by one (`te`, `be`, `de`, `pe` and `four`); then no place is wrong (`collapse`), and
-- what is said is the plan (`texts-same`). The name of the table of trips is replaced by REC_FRT first, so that tables are told apart
-- by their names. This is the contract of `plans_are_read_back`, on which it rests that a written plan is judged as the plan itself.
pub reads-back : PlanReadsBack
reads-back day table answer p q is own lawful =
    let B = answer.blocks.columns in
    let D = answer.duties.columns in
    let pieces = answer.pieces in
    let ts = tables_with day table answer (codes "REC_FRT") in
    let trip_rows = rows_of reading.trips ts in
    let block_rows = rows_of reading.blocks ts in
    let duty_rows = rows_of reading.duties ts in
    let part_rows = rows_of reading.parts ts in
    let bound_rows = rows_of reading.bounds ts in
    let n : Numbers = known day (counts_of block_rows duty_rows) in
    let blocks_long : n.blocks ≡ length B = rows-long (cost_row day) number_row (numbers reading.blocks.columns (cost_table day B)) B in
    let duties_long : n.duties ≡ length D =
    rows-long (duty_row day pieces) signed_row (numbers reading.duties.columns (duty_table day pieces D)) D in
    let piece_there : (item : ℕ) → item < q.items → IsPieceOf n.blocks (piece_at pieces item) = λ item low.
    let P : ℕ → Type 0 = λ m. IsPieceOf m (piece_at pieces item) in
    let many = lawful.pieces in
    subst P (sym blocks_long) (lawful.parts item _ (omega (arith, low, many))) in
    let pools_many = lawful.pools in
    let groups_many = lawful.groups in
    let trips_many = lawful.trips in
    let once = lawful.blocks.once in
    let duty_lists = lawful.duty_lists in
    let te : map (reading.trip_entry n) trip_rows ≡ given (owned B 0 day.trips) =
    trips-given day table B n 0 day.trips (each-from (trip_says day table B n) 0 day.trips (λ k d there.
    let Q : ℕ → Type 0 = λ m. trip_says day table B n m (get_or day.trips k d) in
    let zero-plus : k ≡ 0 + k = omega arith in
    subst Q zero-plus (trip-says day table B n k d is own there refl blocks_long lawful.few
    (once k (omega (arith, trips_many, there)))))) in
    let be : entries_from (reading.block_entry n) 0 block_rows ≡ given (map (λ (c : Column). c.class) B) =
    blocks-given day n B 0 B
    (each-column p _ (λ c column. let low = column.0 in pool-place day c.class own (omega (arith, low, pools_many)))
    B lawful.blocks.worths) in
    let de : entries_from (reading.duty_entry n) 0 duty_rows ≡ given (map (λ (c : Column). (group_of day c.class).number) D) =
    duties-given day pieces n D 0 D
    (each-column q _ (λ c column. let low = column.0 in group-known day n c.class own (omega (arith, low, groups_many)) refl)
    D lawful.duties.worths) in
    let pe : map (reading.part_entry n) part_rows ≡ given (all_tagged (part_at pieces) 0 D) =
    parts-given pieces D n 0 D (omega (arith, duties_long))
    (each-column q _ (λ c column. each-item q.items _ piece_there c.items (duty_lists c.class c.items c.worth column.1).2)
    D lawful.duties.worths) in
    let four = bounds-given B D answer.bounds lawful.bounds in
    let say : List (Option (ℕ × ℕ)) → List (Option ℕ) → List (Option ℕ) → List (Option Part) → List (Option ℕ) → ℕ →
    Result PlanText PlanFault = λ t b d p s m.
    read_or (text_of (given_of t) (given_of b) (given_of d) (given_of p) (given_of s))
    (first (entry_faults reading.trips.name 1 t
    ++ (entry_faults reading.blocks.name 1 b ++ (entry_faults reading.duties.name 1 d ++ (entry_faults reading.parts.name 1 p ++
    (entry_faults reading.bounds.name 1 s ++ when (nat_lt m 4) (place reading.bounds.name 0))))))) in
    let t1 = given (owned B 0 day.trips) in
    let b1 = given (map (λ (c : Column). c.class) B) in
    let d1 = given (map (λ (c : Column). (group_of day c.class).number) D) in
    let p1 = given (all_tagged (part_at pieces) 0 D) in
    let t0 = map (reading.trip_entry n) trip_rows in
    let b0 = entries_from (reading.block_entry n) 0 block_rows in
    let d0 = entries_from (reading.duty_entry n) 0 duty_rows in
    let p0 = map (reading.part_entry n) part_rows in
    let s0 = entries_from reading.bound_entry 0 bound_rows in
    let m0 = length bound_rows in
    ap (λ (name : List ℕ). read_of day (tables_with day table answer name)) is.name
    ∙ (ap (λ (l : List At). read_or (reading.said day ts) (first l)) (wholes-first day ts)
    ∙ (ap (λ (l : List At). read_or (reading.said day ts) (first (l ++ places_in day trip_rows block_rows duty_rows part_rows bound_rows)))
    (none-wrong day table answer is)
    ∙ (ap (λ t. say t b0 d0 p0 s0 m0) te
    ∙ (ap (λ b. say t1 b d0 p0 s0 m0) be
    ∙ (ap (λ d. say t1 b1 d p0 s0 m0) de
    ∙ (ap (λ p. say t1 b1 d1 p s0 m0) pe
    ∙ (ap (λ s. say t1 b1 d1 p1 s m0) four.0 ∙ (ap (λ m. say t1 b1 d1 p1 (given answer.bounds) m) four.1
    ∙ (collapse (owned B 0 day.trips) (map (λ (c : Column). c.class) B) (map (λ (c : Column). (group_of day c.class).number) D)
    (all_tagged (part_at pieces) 0 D) answer.bounds
    ∙ ap (λ (text : PlanText). Ok text) (texts-same day answer p q lawful))))))))))
