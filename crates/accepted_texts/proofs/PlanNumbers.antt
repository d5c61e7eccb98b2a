-- The tables of a plan are plain, and their numbers have 64 bits.
use Rattle.std.proofs.Common.{◌≡◌, ℕ, ℤ, pos, negsuc, neg_ℤ, zero, suc, ◌+◌, ◌*◌, ◌<◌, ◌≤◌, ◌^◌, ◌≤ℤ◌, ◌+ℤ◌, ◌-ℤ◌, Bool, true, false, if◌then◌else◌, nat_lt, All, IsTrue, List, [], ◌∷◌, length, map, Option, Some, None, IfSome, refl, ap, subst, arith, codes, slice_get, slice_index_or, slice_set}
use Rattle.std.specs.Prelude.{decimal, option_and_then, unwrap_or}
use Rattle.std.proofs.Math.Nat.{mul-le-mul}
use Rattle.std.proofs.lemmas.Bool.Decides.{nat_tests}
use Rattle.std.proofs.lemmas.Bool.{and_from, and_parts}
use Rattle.std.proofs.lemmas.Int.{ints}
use Rattle.std.proofs.lemmas.List.Elements.{recursion_from_All}
use Rattle.std.specs.List.{AllByRecursion, find, list_all}
use Rattle.std.specs.Option.{option_map}
use Rattle.plan_core.specs.declared.types.Leg.{Leg}
use Rattle.plan_core.specs.declared.types.LegKind.{LegKind}
use Rattle.plan_core.specs.declared.types.LegKind.TheVariants as kinds
use Rattle.plan_core.specs.declared.types.Piece.{Piece}
use Rattle.plan_core.specs.declared.types.Point.{Point}
use Rattle.vdv451_text.specs.declared.table.Field.{Field}
use Rattle.vdv451_text.specs.declared.table.Field.TheVariants.{Num, Raw}
use Rattle.vdv451_text.specs.declared.table.Head.{Head}
use Rattle.vdv451_text.specs.declared.table.Table.{Table}
use Rattle.vdv451_text.specs.Fields.{is_num_format}
use Rattle.vdv451_text.specs.Plain.{are_plain, is_plain_table, is_sized_field, is_sized_row, is_word}
use Rattle.vdv452_tables.specs.Ranges.{IsTime}
use Rattle.vdv452_rows.specs.Rows.{place_of}
use Rattle.number_tables.specs.Numbers.{AreFieldNumbers, number_row, number_rows}
use Rattle.number_tables.specs.Signed.{signed_row, signed_rows}
use Rattle.number_tables.proofs.PlainLemmas.{plain_table}
use Rattle.number_tables.proofs.SignedLemmas.{plain_signed}
use Rattle.cover_core.specs.declared.Column.{Column}
use Rattle.cover_core.specs.Plans.{AreColumns, IsPlan, cost}
use Rattle.cover_core.proofs.Counts.{has_few_columns}
use Rattle.cover_core.proofs.Values.{Rises-length}
use Rattle.trip_times.specs.declared.trip.Trip.{Trip}
use Rattle.plan_params.specs.declared.rows.group.Group.{Group}
use Rattle.plan_params.specs.declared.rows.pool.Pool.{Pool}
use Rattle.plan_params.specs.Limits.{HaveRanges, IsGroup, IsPool}
use Rattle.plan_params.specs.LookUps.{way_in}
use Rattle.day_method.specs.Method.{SidePlan}
use Rattle.day_model.specs.Facts.{DayFacts, dead}
use Rattle.depot_network.specs.Listed.{blocks_listed}
use Rattle.depot_network.specs.Network.{blocks_of}
use Rattle.block_cut.specs.Cuts.{pieces_of_plan}
use Rattle.block_cut.specs.Legs.{block_legs}
use Rattle.duty_network.specs.Duties.{Duty, DutyFacts, begins, cost_of, drives_of, duty_of, duty_worth, ends, last_piece, limits_of, pieces_at}
use Rattle.duty_network.specs.Times.{given as given_duty, rises as duty_rises, seconds as duty_seconds}
use Rattle.eu561_rules.specs.Lawful.{is_lawful}
use Rattle.duty_network.specs.Listed.{duties_listed}
use Rattle.duty_network.specs.Ranges.{NetFits, IsShift as IsDutyShift}
use Rattle.duty_network.proofs.Better.{Some-same, and_then-Some, given-Some}
use Rattle.duty_network.proofs.Sizes.{on-fits, shift-at, way-short}
use Rattle.umlauf_write.specs.Answers.{all_rows, answer_tables, bound_columns, bound_rows, bound_table, driving_of, duty_columns, duty_row, duty_table, fid_of, first_of, group_of, kind_number, last_of, leg_columns, leg_numbers, leg_rows, leg_table, no_group, no_piece, part_columns, part_row, part_rows, part_table, piece_at, sign_off, sign_on, values_of}
use Rattle.umlauf_write.specs.Tables.{block_columns, block_of, block_row, block_table, cost_columns, cost_row, cost_table, format_at, numbered, pool_of, uid_field, with_uid}
use Rattle.umlauf_write.specs.Trips.{HasOneRow, found_row, found_table, is_row_of, row_of}
use Rattle.umlauf_write.proofs.BoundRows.{bounds_full}
use Rattle.umlauf_write.proofs.FoundPlain.{found_table_plain}
use Rattle.umlauf_write.proofs.Plain.{block_rows_full, block_small, cost_rows_full}
use Rattle.umlauf_write.proofs.Rows.{all_full, signed_full}
use Rattle.plan_command.specs.Planning.{duties_over}
use Rattle.plan_command.specs.PlanText.{answer_of, four_bounds}
use Rattle.accepted_texts.proofs.FactNumbers.{HasNumbers, IsNumber, IsNumbered, IsPlace}
use Rattle.accepted_texts.proofs.LegNumbers.{AreFitLegs, HasEnds, IsClose, IsFitLeg, IsFitTrip, at_each, block_fit, both_each, worth_cheap}
use Rattle.accepted_texts.proofs.TextsBack.{HasWords, HaveWords}

-- Rows of numbers of 64 bits.
abbrev pub IsMiddle : ℤ → Type 0
IsMiddle z = (neg_ℤ (pos 9223372036854775807) ≤ℤ z) × (z ≤ℤ pos 9223372036854775807)

abbrev pub AreMiddle : List (Option ℤ) → Type 0
AreMiddle [] = Unit {0}
AreMiddle (o ∷ row) = IfSome o IsMiddle × AreMiddle row

below_word : (n : ℕ) → n < 2 ^ 63 → nat_lt n (2 ^ 63) ≡ true
below_word n h = grind (arith, nat_tests, h)

middle_word : (z : ℤ) → IsMiddle z → is_word z ≡ true
middle_word (pos n) h = let k = h.1 in below_word n (omega (arith, ints, k))
middle_word (negsuc n) h = let k = h.0 in below_word n (omega (arith, ints, k))

number_words : (row : List (Option ℕ)) → AreFieldNumbers row → is_sized_row (number_row row) ≡ true
number_words [] h = refl
number_words (None ∷ row) h = number_words row h.1
number_words (Some n ∷ row) h = and_from (nat_lt n (2 ^ 63)) (is_sized_row (number_row row)) (below_word n h.0) (number_words row h.1)

signed_words : (row : List (Option ℤ)) → AreMiddle row → is_sized_row (signed_row row) ≡ true
signed_words [] h = refl
signed_words (None ∷ row) h = signed_words row h.1
signed_words (Some z ∷ row) h = and_from (is_word z) (is_sized_row (signed_row row)) (middle_word z h.0) (signed_words row h.1)

pub number_rows_words : (rows : List (List (Option ℕ))) → AllByRecursion AreFieldNumbers rows →
    list_all is_sized_row (number_rows rows) ≡ true
number_rows_words [] h = refl
number_rows_words (row ∷ rows) h =
    and_from (is_sized_row (number_row row)) (list_all is_sized_row (number_rows rows)) (number_words row h.0) (number_rows_words rows h.1)

-- A row whose numbers lie between -(2^63 - 1) and 2^63 - 1 passes the test by which a text can say it. All that follows estimates
-- numbers; here estimates become the test, once for rows of signed numbers and once for rows of natural ones (`number_rows_words`).
pub signed_rows_words : (rows : List (List (Option ℤ))) → AllByRecursion AreMiddle rows → list_all is_sized_row (signed_rows rows) ≡ true
signed_rows_words [] h = refl
signed_rows_words (row ∷ rows) h =
    and_from (is_sized_row (signed_row row)) (list_all is_sized_row (signed_rows rows)) (signed_words row h.0) (signed_rows_words rows h.1)

-- what holds of each item by its number holds of the numbered rows
-- The rows of a table are numbered from 1, so a row's own number is a field as well: in the induction the first number is free, and
-- with what is left it stays within the greatest one. So each row is proved by itself, with a number of few bits and with what is
-- known of its item.
numbered_each : {A B : Type 0} (P : B → Type 0) (Q : A → Type 0) (most : ℕ) (value : ℕ → A → B) →
    ((n : ℕ) (item : A) → n ≤ most → Q item → P (value n item)) → (n : ℕ) (items : List A) → n + length items ≤ most + 1 →
    AllByRecursion Q items →
    AllByRecursion P (numbered value n items)
numbered_each P Q most value each n [] few all = tt
numbered_each P Q most value each n (item ∷ items) few all =
    (each n item (omega (arith, few)) all.0, numbered_each P Q most value each (n + 1) items (omega (arith, few)) all.1)

lists_each : {A B : Type 0} (P : B → Type 0) (Q : A → Type 0) (most : ℕ) (rows : ℕ → A → List B) →
    ((n : ℕ) (item : A) → n ≤ most → Q item → AllByRecursion P (rows n item)) → (n : ℕ) (items : List A) → n + length items ≤ most + 1 →
    AllByRecursion Q items →
    AllByRecursion P (all_rows rows n items)
lists_each P Q most rows each n [] few all = tt
lists_each P Q most rows each n (item ∷ items) few all =
    both_each P (rows n item) (all_rows rows (n + 1) items) (each n item (omega (arith, few)) all.0)
    (lists_each P Q most rows each (n + 1) items (omega (arith, few)) all.1)

-- what holds of each item and of the one past the end holds at each place
index_each : {A : Type 0} (P : A → Type 0) (xs : List A) (k : ℕ) (d : A) → P d → AllByRecursion P xs → P (slice_index_or xs k d)
index_each P [] zero d last all = last
index_each P [] (suc k) d last all = last
index_each P (x ∷ xs) zero d last all = all.0
index_each P (x ∷ xs) (suc k) d last all = index_each P xs k d last all.1

if_mapped : (f : ℕ → ℤ) (o : Option ℕ) → ((n : ℕ) → o ≡ Some n → IsMiddle (f n)) → IfSome (option_map f o) IsMiddle
if_mapped f None h = tt
if_mapped f (Some n) h = h n refl

natural : (n : ℕ) → n ≤ 9223372036854775807 → IsMiddle (pos n)
natural n h = (omega (arith, ints), omega (arith, ints, h))

close_middle : (z : ℤ) → IsClose z → IsMiddle z
close_middle z h = let l = h.0 in let k = h.1 in (omega (arith, ints, l), omega (arith, ints, k))

-- REC_FRT: the rows that were read, with the numbers of blocks
set_words : (row : List Field) (place : ℕ) (field : Field) → is_sized_field field ≡ true → is_sized_row row ≡ true →
    is_sized_row (slice_set row place field) ≡ true
set_words [] place field h all = refl
set_words (old ∷ row) zero field h all =
    and_from (is_sized_field field) (is_sized_row row) h (and_parts (is_sized_field old) (is_sized_row row) all).1
set_words (old ∷ row) (suc place) field h all =
    let parts = and_parts (is_sized_field old) (is_sized_row row) all in
    and_from (is_sized_field old) (is_sized_row (slice_set row place field)) parts.0 (set_words row place field h parts.1)

uid_words : (format : List ℕ) (number : ℕ) → number < 2 ^ 63 → is_sized_field (uid_field format number) ≡ true
uid_words format number h = by (is_num_format format)
  where
    by : (b : Bool) → is_sized_field (if b then Num (pos number) else Raw (decimal number)) ≡ true
    by true = below_word number h
    by false = refl

with_uid_words : (heads : List Head) (place : Option ℕ) (row : List Field) (number : ℕ) → number < 2 ^ 63 → is_sized_row row ≡ true →
    is_sized_row (with_uid heads place row number) ≡ true
with_uid_words heads None row number h all = all
with_uid_words heads (Some place) row number h all =
    set_words row place (uid_field (format_at heads place) number) (uid_words (format_at heads place) number h) all

find_words : (p : List Field → Bool) (rows : List (List Field)) → list_all is_sized_row rows ≡ true →
    is_sized_row (unwrap_or (find p rows) []) ≡ true
find_words p [] all = refl
find_words p (row ∷ rows) all = by (p row) (find_words p rows parts.1)
  where
    parts : (is_sized_row row ≡ true) × (list_all is_sized_row rows ≡ true)
    parts = and_parts (is_sized_row row) (list_all is_sized_row rows) all

    by : (b : Bool) → is_sized_row (unwrap_or (find p rows) []) ≡ true →
        is_sized_row (unwrap_or (if b then Some row else find p rows) []) ≡ true
    by true later = parts.0
    by false later = later

-- A row of the plan's REC_FRT is the row that was read for the trip, with one field changed: UM_UID, which becomes the number of a
-- block, at most 3,000. What was read had 64 bits (`find_words`), also where no row is found and the empty one stands for it.
found_words : (table : Table) (version : ℕ) (blocks : List Column) (number : ℕ) (trips : List Trip) →
    HasWords table → length blocks ≤ 3000 →
    list_all is_sized_row (numbered (found_row table version blocks) number trips) ≡ true
found_words table version blocks number [] words few = refl
found_words table version blocks number (trip ∷ trips) words few =
    let small = block_small 1 blocks number in
    and_from (is_sized_row (found_row table version blocks number trip))
    (list_all is_sized_row (numbered (found_row table version blocks) (number + 1) trips))
    (with_uid_words table.columns (place_of (codes "UM_UID") table.columns) (row_of table version trip.fid) (block_of 1 blocks number)
    (omega (arith, small, few)) (find_words (is_row_of table.columns version trip.fid) table.rows words))
    (found_words table version blocks (number + 1) trips words few)

-- The costs of columns.
-- Costs are estimated from the settings alone: a block of n trips costs at most 10^10 for each of n + 2 moves (`worth_cheap`), and a
-- duty at most 2 * 10^10 (`duty_low`). With at most 3,000 columns no cost of a plan comes near 2^63, and no bound is above the plan's
-- cost.
cost_low : (cs : List Column) → AllByRecursion (λ (c : Column). c.worth ≤ 40000000000000) cs → cost cs ≤ 40000000000000 * length cs
cost_low [] all = omega arith
cost_low (c ∷ cs) all = let first = all.0 in omega (arith, first, cost_low cs all.1)

-- a column of few items whose worth has few bits
abbrev IsFitColumn : Column → Type 0
IsFitColumn c = (c.worth ≤ 40000000000000) × (length c.items ≤ 3000)

worths_each : (cs : List Column) → AllByRecursion IsFitColumn cs → AllByRecursion (λ (c : Column). c.worth ≤ 40000000000000) cs
worths_each [] all = tt
worths_each (c ∷ cs) all = (all.0.0, worths_each cs all.1)

block_each : (facts : DayFacts) → AllByRecursion IsFitTrip facts.trips → ((from to : Point) → IfSome (dead facts from to) IsTime) →
    AllByRecursion IsPool facts.params.pools → length facts.trips ≤ 3000 → (cs : List Column) → AreColumns (blocks_of facts false) cs →
    AllByRecursion IsFitColumn cs
block_each facts trips short pools few [] are = tt
block_each facts trips short pools few (c ∷ cs) are =
    let listed = blocks_listed (record { day = facts; counts = false }) c.class c.items c.worth are.0.1 in
    let count = Rises-length (length facts.trips) c.items listed.1 listed.2 in
    let cheap = worth_cheap facts trips short pools c.class c.items c.worth are.0.1 in
    ((omega (arith, count, few, cheap), omega (arith, count, few)), block_each facts trips short pools few cs are.1)

-- A duty costs its fixed cost and its rate for each second of its spread, which is at most 12 days.
shifts_at : (pieces : List Piece) (list : List ℕ) (ps : List Piece) → All IsDutyShift pieces → pieces_at pieces list ≡ Some ps →
    AllByRecursion IsDutyShift ps
shifts_at pieces [] ps all e = let none : [] ≡ ps = Some-same [] ps e in subst (AllByRecursion IsDutyShift) none tt
shifts_at pieces (k ∷ ks) ps all e =
    let (p, is_p, e1) = and_then-Some (λ (p : Piece). option_and_then (λ (qs : List Piece). Some (p ∷ qs)) (pieces_at pieces ks))
    (slice_get pieces k) ps e in
    let (qs, is_qs, e2) = and_then-Some (λ (qs : List Piece). Some (p ∷ qs)) (pieces_at pieces ks) ps e1 in
    subst (AllByRecursion IsDutyShift) (Some-same (p ∷ qs) ps e2) (shift-at pieces k p all is_p, shifts_at pieces ks qs all is_qs)

last_shift : (p : Piece) (ps : List Piece) → IsDutyShift p → AllByRecursion IsDutyShift ps → IsDutyShift (last_piece p ps)
last_shift p [] h all = h
last_shift p (q ∷ qs) h all = last_shift q qs all.0 all.1

begins_close : (d : DutyFacts) (g : Group) (ps : List Piece) (on : ℤ) → NetFits d → IsGroup g → AllByRecursion IsDutyShift ps →
    begins d g ps ≡ Some on →
    neg_ℤ (pos 345600) ≤ℤ on
begins_close d g [] on f m all e = absurd cc
begins_close d g (p ∷ ps) on f m all e = (on-fits d g p on f m all.0 e).0

ends_close : (d : DutyFacts) (g : Group) (ps : List Piece) (off : ℤ) → NetFits d → IsGroup g → AllByRecursion IsDutyShift ps →
    ends d g ps ≡ Some off →
    off ≤ℤ pos 691200
ends_close d g [] off f m all e = absurd cc
ends_close d g (p ∷ ps) off f m all e =
    let last : Piece = last_piece p ps in
    let (way, is_way, e1) =
    and_then-Some (λ (way : ℕ). Some (last.end.0 +ℤ pos way +ℤ pos g.sign_off)) (way_in d.params last.to g.home) off e in
    let same : last.end.0 +ℤ pos way +ℤ pos g.sign_off ≡ off = Some-same _ off e1 in
    let short = way-short d.params last.to g.home way f.params.ways is_way in
    let shift : IsDutyShift last = last_shift p ps all.0 all.1 in
    let late = shift.ends in let after = m.sign_off in
    omega (arith, ints, same, short, late, after)

spread_short : (on off : ℤ) (spread : ℕ) → neg_ℤ (pos 345600) ≤ℤ on → off ≤ℤ pos 691200 → off -ℤ on ≡ pos spread → spread ≤ 1036800
spread_short on off spread low high is = omega (arith, ints, low, high, is)

seconds_of : (z : ℤ) (n : ℕ) → duty_seconds z ≡ Some n → z ≡ pos n
seconds_of (pos m) n e = ap pos (Some-same m n e)
seconds_of (negsuc m) n e = absurd cc

module _ (d : DutyFacts) (costs : d.counts ≡ false) (fits : NetFits d) where
  group_at : (class : ℕ) (g : Group) → slice_get d.params.groups class ≡ Some g → IsGroup g
  group_at class g e = at_each IsGroup d.params.groups class g (recursion_from_All IsGroup d.params.groups fits.params.groups) e

  -- A duty begins at most four days before midnight and ends within eight days (`begins_close`, `ends_close`), as its pieces lie
  -- within four days and ways, sign-on and sign-off are short. So its spread is at most 12 days, and with a rate of at most 10,000 it
  -- costs at most 2 * 10^10.
  duty_low : (class : ℕ) (list : List ℕ) (duty : Duty) → duty_of d class list ≡ Some duty →
      duty.group.fixed + duty.group.rate * duty.spread ≤ 20000000000
  duty_low class list duty e =
      let (rising, e1) = given-Some (duty_rises list) _ duty e in
      let (g, is_g, e2) = and_then-Some _ (slice_get d.params.groups class) duty e1 in
      let (ps, is_ps, e3) = and_then-Some _ (pieces_at d.pieces list) duty e2 in
      let (drives, is_drives, e4) = and_then-Some _ (drives_of d ps) duty e3 in
      let (on, is_on, e5) = and_then-Some _ (begins d g ps) duty e4 in
      let (off, is_off, e6) = and_then-Some _ (ends d g ps) duty e5 in
      let (spread, is_spread, e7) = and_then-Some _ (duty_seconds (off -ℤ on)) duty e6 in
      let made : Duty = record { group = g; drives = drives; on = on; off = off; spread = spread } in
      let same : made ≡ duty = Some-same made duty e7 in
      let group = group_at class g is_g in
      let shifts = shifts_at d.pieces list ps fits.shifts is_ps in
      let short : spread ≤ 1036800 =
      spread_short on off spread (begins_close d g ps on fits group shifts is_on) (ends_close d g ps off fits group shifts is_off)
      (seconds_of (off -ℤ on) spread is_spread) in
      let rated : g.rate * spread ≤ 10000 * 1036800 = mul-le-mul group.rate short in
      let fixed = group.fixed in
      let low : g.fixed + g.rate * spread ≤ 20000000000 = omega (arith, rated, fixed) in
      let P : Duty → Type 0 = λ duty. duty.group.fixed + duty.group.rate * duty.spread ≤ 20000000000 in
      subst P same low

  duty_cheap : (class : ℕ) (list : List ℕ) (worth : ℕ) → duty_worth d class list ≡ Some worth → worth ≤ 20000000000
  duty_cheap class list worth e =
      let (duty, is_duty, e1) =
      and_then-Some (λ (duty : Duty). given_duty (is_lawful (limits_of duty.group) duty.drives duty.spread) (Some (cost_of d.counts duty)))
      (duty_of d class list) worth e in
      let (lawful, e2) = given-Some (is_lawful (limits_of duty.group) duty.drives duty.spread) (Some (cost_of d.counts duty)) worth e1 in
      let same : cost_of d.counts duty ≡ worth = Some-same (cost_of d.counts duty) worth e2 in
      let cost : cost_of d.counts duty ≡ duty.group.fixed + duty.group.rate * duty.spread = ap (λ (b : Bool). cost_of b duty) costs in
      let low = duty_low class list duty is_duty in
      omega (arith, same, cost, low)

duty_each : (facts : DayFacts) (blocks : List Column) →
    NetFits (record { pieces = pieces_of_plan facts blocks; params = facts.params; counts = false }) →
    (cs : List Column) → AreColumns (duties_over facts blocks false) cs → AllByRecursion IsFitColumn cs
duty_each facts blocks fits [] are = tt
duty_each facts blocks fits (c ∷ cs) are =
    let over : DutyFacts = record { pieces = pieces_of_plan facts blocks; params = facts.params; counts = false } in
    let listed = duties_listed over c.class c.items c.worth are.0.1 in
    let count = Rises-length (length over.pieces) c.items listed.1 listed.2 in
    let few = fits.few in
    let cheap = duty_cheap over refl fits c.class c.items c.worth are.0.1 in
    ((omega (arith, cheap), omega (arith, count, few)), duty_each facts blocks fits cs are.1)

-- a piece between places, within four days, whose block and index have 32 bits
abbrev pub IsFitPiece : Piece → Type 0
IsFitPiece p = HasEnds p × IsClose p.begin.0 × IsClose p.end.0 × (p.driving ≤ 345600) × IsNumber p.block × IsNumber p.index

kind_few : (k : LegKind) → kind_number k ≤ 5
kind_few kinds.PullOut = omega arith
kind_few kinds.Trip = omega arith
kind_few kinds.Deadhead = omega arith
kind_few kinds.Stand = omega arith
kind_few kinds.PullIn = omega arith

fid_at : (trips : List Trip) (n : ℕ) → AllByRecursion (λ (trip : Trip). trip.fid ≤ 10 ^ 18) trips →
    IfSome (option_map (λ fid. pos fid) (option_map (λ (trip : Trip). trip.fid) (slice_get trips n))) IsMiddle
fid_at [] n all = tt
fid_at (trip ∷ trips) zero all = let first = all.0 in natural trip.fid (omega (arith, first))
fid_at (trip ∷ trips) (suc n) all = fid_at trips n all.1

fid_middle : (trips : List Trip) (o : Option ℕ) → AllByRecursion (λ (trip : Trip). trip.fid ≤ 10 ^ 18) trips →
    IfSome (option_map (λ fid. pos fid) (fid_of trips o)) IsMiddle
fid_middle trips None all = tt
fid_middle trips (Some n) all = fid_at trips n all

-- What is asked of a day, of the table of its trips, and of blocks and duties for their tables to be written. Each number of these tables
-- is one of the day (32 bits), one that counts blocks, duties, pieces or legs (few), a moment or a number of seconds (of few days), a
-- cost (of few connections, or of one spread), a bound (no greater than the plan's own number or cost), or a field of REC_FRT as it was
-- read.
pub record IsWritable (facts : DayFacts) (table : Table) (blocks duties : SidePlan) : Type 0 where
  pub numbers : HasNumbers facts
  pub trips : AllByRecursion IsFitTrip facts.trips
  pub few : length facts.trips ≤ 3000
  pub fids : All (λ (trip : Trip). trip.fid ≤ 10 ^ 18) facts.trips
  pub params : HaveRanges facts.params
  pub short : (from to : Point) → IfSome (dead facts from to) IsTime
  pub plain : IsTrue (is_plain_table table)
  pub words : HasWords table
  pub one : All (λ (trip : Trip). HasOneRow table facts.kind.version trip.fid) facts.trips
  pub blocks_are : IsPlan (blocks_of facts false) blocks.columns
  pub duties_are : IsPlan (duties_over facts blocks.columns false) duties.columns
  pub net : NetFits (record { pieces = pieces_of_plan facts blocks.columns; params = facts.params; counts = false })
  pub pieces : All IsFitPiece (pieces_of_plan facts blocks.columns)
  pub block_number : blocks.count.bound ≤ length blocks.columns
  pub block_cost : blocks.cost.bound ≤ cost blocks.columns
  pub duty_number : duties.count.bound ≤ length duties.columns
  pub duty_cost : duties.cost.bound ≤ cost duties.columns

module _ (facts : DayFacts) (table : Table) (blocks duties : SidePlan) (is : IsWritable facts table blocks duties) where
  abbrev pieces : List Piece
  pieces = pieces_of_plan facts blocks.columns

  few_blocks : length blocks.columns ≤ 3000
  few_blocks =
      let count = has_few_columns (blocks_of facts false) (blocks_listed (record { day = facts; counts = false }))
      blocks.columns is.blocks_are in
      let few = is.few in
      omega (arith, count, few)

  few_duties : length duties.columns ≤ 3000
  few_duties =
      let over : DutyFacts = record { pieces = pieces; params = facts.params; counts = false } in
      let count = has_few_columns (duties_over facts blocks.columns false) (duties_listed over) duties.columns is.duties_are in
      let few = is.net.few in
      omega (arith, count, few)

  pools : AllByRecursion IsPool facts.params.pools
  pools = recursion_from_All IsPool facts.params.pools is.params.pools

  fit_blocks : AllByRecursion IsFitColumn blocks.columns
  fit_blocks = block_each facts is.trips is.short pools is.few blocks.columns is.blocks_are.worths

  fit_duties : AllByRecursion IsFitColumn duties.columns
  fit_duties = duty_each facts blocks.columns is.net duties.columns is.duties_are.worths

  pool_numbers : (class : ℕ) → IsNumbered (pool_of facts class)
  pool_numbers class =
      index_each IsNumbered facts.params.pools class _ (omega arith, (omega arith, omega arith), omega arith)
      (recursion_from_All IsNumbered facts.params.pools is.numbers.pools)

  group_number : (class : ℕ) → IsNumber (group_of facts class).number
  group_number class =
      index_each (λ (g : Group). IsNumber g.number) facts.params.groups class no_group (omega arith)
      (recursion_from_All (λ (g : Group). IsNumber g.number) facts.params.groups is.numbers.groups)

  group_fits : (class : ℕ) → IsGroup (group_of facts class)
  group_fits class =
      index_each IsGroup facts.params.groups class no_group
      (record { cap = omega arith; fixed = omega arith; rate = omega arith; sign_on = omega arith; sign_off = omega arith })
      (recursion_from_All IsGroup facts.params.groups is.params.groups)

  fit_piece : (item : ℕ) → IsFitPiece (piece_at pieces item)
  fit_piece item =
      index_each IsFitPiece pieces item no_piece (
        ((omega arith, omega arith), (omega arith, omega arith)),
        (omega (arith, ints), omega (arith, ints)),
        (
          omega (arith, ints),
          omega (arith, ints),
        ),
        omega arith,
        omega arith,
        omega arith,
      )
      (recursion_from_All IsFitPiece pieces is.pieces)

  -- REC_UMLAUF
  block_row_fits : (n : ℕ) (block : Column) → n ≤ 3000 → IsFitColumn block → AreFieldNumbers (block_row facts n block)
  block_row_fits n block few fit =
      let version = is.numbers.version in
      let kind = is.numbers.kind in
      let pool = pool_numbers block.class in
      let nr = pool.1.1 in let typ = pool.1.0 in let vehicle = pool.2 in (
        omega (arith, version),
        (
          omega (arith, kind),
          (
            omega
                (arith, few),
            (omega (arith, nr), (omega (arith, typ), (omega (arith, nr), (omega (arith, typ), (omega (arith, vehicle), tt))))),
          ),
        ),
      )

  blocks_words : HasWords (block_table facts blocks.columns)
  blocks_words =
      number_rows_words (numbered (block_row facts) 1 blocks.columns)
      (numbered_each AreFieldNumbers IsFitColumn 3000 (block_row facts) block_row_fits 1 blocks.columns (let few =
      few_blocks in omega (arith, few)) fit_blocks)

  -- X_UMLAUF
  cost_row_fits : (n : ℕ) (block : Column) → n ≤ 3000 → IsFitColumn block → AreFieldNumbers (cost_row facts n block)
  cost_row_fits n block few fit =
      let pool = (pool_numbers block.class).0 in
      let worth = fit.0 in
      (omega (arith, few), (omega (arith, pool), (omega (arith, worth), tt)))

  costs_words : HasWords (cost_table facts blocks.columns)
  costs_words =
      number_rows_words (numbered (cost_row facts) 1 blocks.columns)
      (numbered_each AreFieldNumbers IsFitColumn 3000 (cost_row facts) cost_row_fits 1 blocks.columns (let few =
      few_blocks in omega (arith, few)) fit_blocks)

  -- X_UMLAUF_TEIL
  leg_row_fits : (block n : ℕ) (leg : Leg) → block ≤ 3000 → n ≤ 12003 → IsFitLeg leg → AreMiddle (leg_numbers facts.trips block n leg)
  leg_row_fits block n leg few_blocks few fit =
      let kind = kind_few leg.kind in
      let ft = fit.0.0 in let fn = fit.0.1 in let tt' = fit.1.0 in let tn = fit.1.1 in (
        natural block (omega (arith, few_blocks)),
        (
          natural n (omega (arith, few)),
          (
            natural (kind_number leg.kind) (omega (arith, kind)),
            (
              fid_middle facts.trips leg.trip (recursion_from_All (λ (trip : Trip). trip.fid ≤ 10 ^ 18) facts.trips is.fids),
              (
                natural leg.from.typ (omega (arith, ft)),
                (
                  natural leg.from.nr (omega (arith, fn)),
                  (
                    close_middle leg.begin.0 fit.2,
                    (natural leg.to.typ (omega (arith, tt')), (natural leg.to.nr (omega (arith, tn)), (close_middle leg.end.0 fit.3, tt))),
                  ),
                ),
              ),
            ),
          ),
        ),
      )

  leg_rows_fit : (block : ℕ) (legs : List Leg) → block ≤ 3000 → AreFitLegs 12003 legs →
      AllByRecursion AreMiddle (leg_rows facts.trips block legs)
  leg_rows_fit block legs few fit =
      numbered_each AreMiddle IsFitLeg 12003 (leg_numbers facts.trips block)
      (λ n leg small fits. leg_row_fits block n leg few small fits) 1 legs
      (let count = fit.few in omega (arith, count)) fit.fit

  legs_each : (cs : List Column) → AllByRecursion IsFitColumn cs → AllByRecursion (AreFitLegs 12003) (map (block_legs facts) cs)
  legs_each [] all = tt
  legs_each (c ∷ cs) all =
      let depots = depots_of facts.params.pools (recursion_from_All IsNumbered facts.params.pools is.numbers.pools) in
      let legs = block_fit facts is.trips is.short depots c in
      let few = legs.few in let items = all.0.1 in
      (record { fit = legs.fit; few = omega (arith, few, items) }, legs_each cs all.1)
    where
      depots_of : (pools : List Pool) → AllByRecursion IsNumbered pools → AllByRecursion (λ (pool : Pool). IsPlace pool.depot) pools
      depots_of [] all = tt
      depots_of (pool ∷ pools) all = (all.0.1, depots_of pools all.1)

  legs_count : (cs : List Column) → length (map (block_legs facts) cs) ≡ length cs
  legs_count [] = refl
  legs_count (c ∷ cs) = ap suc (legs_count cs)

  legs_words : HasWords (leg_table facts (map (block_legs facts) blocks.columns))
  legs_words =
      let legs : List (List Leg) = map (block_legs facts) blocks.columns in
      let count = legs_count blocks.columns in
      let few = few_blocks in
      signed_rows_words (all_rows (leg_rows facts.trips) 1 legs)
      (lists_each AreMiddle (AreFitLegs 12003) 3000 (leg_rows facts.trips) leg_rows_fit 1 legs (omega (arith, count, few))
      (legs_each blocks.columns fit_blocks))

  -- X_DIENST
  on_middle : (class item : ℕ) → IfSome (sign_on facts (group_of facts class) (piece_at pieces item)) IsMiddle
  on_middle class item =
      let group : Group = group_of facts class in
      let first : Piece = piece_at pieces item in
      let fit = fit_piece item in
      let low = fit.1.0 in let high = fit.1.1 in
      let before = (group_fits class).sign_on in
      if_mapped (λ way. first.begin.0 -ℤ pos way -ℤ pos group.sign_on) (way_in facts.params group.home first.from)
      (λ way e. let short = way-short facts.params group.home first.from way is.params.ways e in
      (omega (arith, ints, low, short, before), omega (arith, ints, high)))

  off_middle : (class item : ℕ) → IfSome (sign_off facts (group_of facts class) (piece_at pieces item)) IsMiddle
  off_middle class item =
      let group : Group = group_of facts class in
      let last : Piece = piece_at pieces item in
      let fit = fit_piece item in
      let low = fit.2.0 in let high = fit.2.1 in
      let after = (group_fits class).sign_off in
      if_mapped (λ way. last.end.0 +ℤ pos way +ℤ pos group.sign_off) (way_in facts.params last.to group.home)
      (λ way e. let short = way-short facts.params last.to group.home way is.params.ways e in
      (omega (arith, ints, low), omega (arith, ints, high, short, after)))

  driving_low : (items : List ℕ) → driving_of pieces items ≤ 345600 * length items
  driving_low [] = omega arith
  driving_low (item ∷ items) = let first = (fit_piece item).3 in let rest = driving_low items in omega (arith, first, rest)

  duty_row_fits : (n : ℕ) (duty : Column) → n ≤ 3000 → IsFitColumn duty → AreMiddle (duty_row facts pieces n duty)
  duty_row_fits n duty few fit =
      let number = group_number duty.class in
      let driving = driving_low duty.items in
      let worth = fit.0 in let items = fit.1 in (
        natural n (omega (arith, few)),
        (
          natural (group_of facts duty.class).number (omega (arith, number)),
          (
            on_middle duty.class (first_of duty.items),
            (
              off_middle duty.class (last_of duty.items),
              (natural (driving_of pieces duty.items) (omega (arith, driving, items)), (natural duty.worth (omega (arith, worth)), tt)),
            ),
          ),
        ),
      )

  duties_words : HasWords (duty_table facts pieces duties.columns)
  duties_words =
      signed_rows_words (numbered (duty_row facts pieces) 1 duties.columns)
      (numbered_each AreMiddle IsFitColumn 3000 (duty_row facts pieces) duty_row_fits 1 duties.columns (let few =
      few_duties in omega (arith, few)) fit_duties)

  -- X_DIENST_STUECK
  part_row_fits : (duty n item : ℕ) → duty ≤ 3000 → n ≤ 3000 → AreMiddle (part_row pieces duty n item)
  part_row_fits duty n item few_duties few =
      let piece : Piece = piece_at pieces item in
      let fit = fit_piece item in
      let ft = fit.0.0.0 in let fn = fit.0.0.1 in let tt' = fit.0.1.0 in let tn = fit.0.1.1 in
      let driving = fit.3 in let block = fit.4 in let index = fit.5 in (
        natural duty (omega (arith, few_duties)),
        (
          natural n (omega (arith, few)),
          (
            natural piece.block (omega (arith, block)),
            (
              natural piece.index (omega (arith, index)),
              (
                natural piece.from.typ (omega (arith, ft)),
                (
                  natural piece.from.nr (omega (arith, fn)),
                  (
                    close_middle piece.begin.0 fit.1,
                    (
                      natural piece.to.typ (omega (arith, tt')),
                      (
                        natural piece.to.nr (omega (arith, tn)),
                        (
                          close_middle piece.end.0 fit.2,
                          (natural piece.driving (omega (arith, driving)), tt),
                        ),
                      ),
                    ),
                  ),
                ),
              ),
            ),
          ),
        ),
      )

  any_each : (items : List ℕ) → AllByRecursion (λ (item : ℕ). Unit {0}) items
  any_each [] = tt
  any_each (item ∷ items) = (tt, any_each items)

  part_rows_fit : (n : ℕ) (duty : Column) → n ≤ 3000 → IsFitColumn duty → AllByRecursion AreMiddle (part_rows pieces n duty)
  part_rows_fit n duty few fit =
      numbered_each AreMiddle (λ (item : ℕ). Unit {0}) 3000 (part_row pieces n)
      (λ m item small any. part_row_fits n m item few small) 1 duty.items
      (let items = fit.1 in omega (arith, items)) (any_each duty.items)

  parts_words : HasWords (part_table pieces duties.columns)
  parts_words =
      signed_rows_words (all_rows (part_rows pieces) 1 duties.columns)
      (lists_each AreMiddle IsFitColumn 3000 (part_rows pieces) part_rows_fit 1 duties.columns (let few =
      few_duties in omega (arith, few)) fit_duties)

  -- X_SCHRANKE
  bounds_words : HasWords (bound_table blocks.columns duties.columns (four_bounds blocks duties))
  bounds_words =
      let b = few_blocks in let d = few_duties in
      let bc = cost_low blocks.columns (worths_each blocks.columns fit_blocks) in
      let dc = cost_low duties.columns (worths_each duties.columns fit_duties) in
      let b1 = is.block_number in let b2 = is.block_cost in let b3 = is.duty_number in let b4 = is.duty_cost in
      number_rows_words (bound_rows 1 (values_of blocks.columns duties.columns) (four_bounds blocks duties)) (
        (omega arith, (omega (arith, b), (omega (arith, b, b1), tt))),
        (
          (omega arith, (omega (arith, b, bc), (omega (arith, b, bc, b2), tt))),
          (
            (omega arith, (omega (arith, d), (omega (arith, d, b3), tt))),
            ((omega arith, (omega (arith, d, dc), (omega (arith, d, dc, b4), tt))), tt),
          ),
        ),
      )

  -- The seven tables, one after another: each field of each row is one of the numbers that `IsWritable` bounds, and rows, lists of
  -- rows and tables follow by `numbered_each` and `lists_each`. With `plan_plain` this is what `text_spells` asks, so the plan's text
  -- is read back as these tables and no others; the checker is handed what was planned, and not what a text with numbers out of range
  -- might be read as.
  pub plan_words : HaveWords (answer_tables facts table (answer_of facts blocks duties))
  plan_words = (
    blocks_words,
    (
      found_words table facts.kind.version blocks.columns 0 facts.trips is.words few_blocks,
      (costs_words, (legs_words, (duties_words, (parts_words, (bounds_words, tt))))),
    ),
  )

  seven_plain : (a b c d e f g : Table) → is_plain_table a ≡ true → is_plain_table b ≡ true → is_plain_table c ≡ true →
      is_plain_table d ≡ true →
      is_plain_table e ≡ true → is_plain_table f ≡ true → is_plain_table g ≡ true → are_plain (a ∷ b ∷ c ∷ d ∷ e ∷ f ∷ g ∷ []) ≡ true
  seven_plain a b c d e f g pa pb pc pd pe pf pg = rw (pa, pb, pc, pd, pe, pf, pg) refl

  -- A table is plain where each row has a number for each column, since its names and formats are fixed; so this needs nothing of the
  -- plan but that REC_FRT has its rows (`found_table_plain`). Plain is what a text can spell at all, and sizes of numbers are asked
  -- besides.
  pub plan_plain : are_plain (answer_tables facts table (answer_of facts blocks duties)) ≡ true
  plan_plain =
      let legs : List (List Leg) = map (block_legs facts) blocks.columns in
      seven_plain (block_table facts blocks.columns) (found_table facts table blocks.columns) (cost_table facts blocks.columns)
      (leg_table facts legs)
      (duty_table facts pieces duties.columns) (part_table pieces duties.columns)
      (bound_table blocks.columns duties.columns (four_bounds blocks duties))
      (plain_table (codes "REC_UMLAUF") block_columns (numbered (block_row facts) 1 blocks.columns) refl
      (block_rows_full facts blocks.columns))
      (found_table_plain facts table blocks.columns is.plain few_blocks is.one)
      (plain_table (codes "X_UMLAUF") cost_columns (numbered (cost_row facts) 1 blocks.columns) refl (cost_rows_full facts blocks.columns))
      (plain_signed (codes "X_UMLAUF_TEIL") leg_columns (all_rows (leg_rows facts.trips) 1 legs) refl
      (all_full leg_columns (leg_rows facts.trips)
      (λ n ls. signed_full leg_columns (leg_numbers facts.trips n) (λ k leg. refl) 1 ls) 1 legs))
      (plain_signed (codes "X_DIENST") duty_columns (numbered (duty_row facts pieces) 1 duties.columns) refl
      (signed_full duty_columns (duty_row facts pieces) (λ n duty. refl) 1 duties.columns))
      (plain_signed (codes "X_DIENST_STUECK") part_columns (all_rows (part_rows pieces) 1 duties.columns) refl
      (all_full part_columns (part_rows pieces) (λ n duty. signed_full part_columns (part_row pieces n) (λ k item. refl) 1 duty.items)
      1 duties.columns))
      (plain_table (codes "X_SCHRANKE") bound_columns
      (bound_rows 1 (values_of blocks.columns duties.columns) (four_bounds blocks duties)) refl
      (bounds_full 1 (values_of blocks.columns duties.columns) (four_bounds blocks duties)))
