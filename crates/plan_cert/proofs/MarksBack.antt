-- Marks that are written are read back.
use Rattle.std.proofs.Common.{◌≡◌, ℕ, ℤ, ◌+◌, ◌<◌, ◌≤◌, Bool, List, [], ◌∷◌, ◌++◌, All, length, map, refl, ap, ◌∙◌, append-nil}
use Rattle.std.proofs.lemmas.List.Elements.{All-head, All-tail}
use Rattle.std.specs.List.{cons_option, filter_map}
use Rattle.std.specs.Prelude.{Option, Some, None, AllPairs, slice_index}
use Rattle.vdv452_rows.specs.Cells.{whole_number}
use Rattle.number_tables.specs.Outlines.{word}
use Rattle.number_tables.specs.Signed.{signed_field, signed_row, signed_rows}
use Rattle.cover_core.specs.declared.marks.Mark.{Mark}
use Rattle.cover_core.specs.declared.marks.BlockMark.{BlockMark}
use Rattle.plan_cert.specs.declared.cert.Pass.{Pass}
use Rattle.plan_cert.specs.declared.cert.Pass.TheVariants.{BlockNumber, BlockCost, DutyNumber, DutyCost}
use Rattle.plan_cert.specs.declared.columns.BlockColumns.{BlockColumns}
use Rattle.plan_cert.specs.declared.columns.DutyColumns.{DutyColumns}
use Rattle.plan_cert.specs.declared.duties.Driven.{Driven}
use Rattle.plan_cert.specs.declared.entries.MarkPlace.{MarkPlace}
use Rattle.plan_cert.specs.declared.shape.Shape.{Shape}
use Rattle.plan_cert.specs.Entries.{block_entry, BlockEntry, block_place, driven_at, duty_entry, DutyEntry, duty_place, mark_of, pass_from}
use Rattle.plan_cert.specs.Laws.{IsBlockMarkOf, IsMarkOf}
use Rattle.plan_cert.specs.Marks.{block_marks, BlockMarks, duty_marks, DutyMarks, marks_in_pass}
use Rattle.plan_cert.specs.Numbers.{◌>>=◌, class_among, counted, truth}
use Rattle.plan_cert.specs.Shapes.{items_of, numbers_in}
use Rattle.plan_cert.specs.Writing.{bit, block_row, block_rows, duty_row, duty_rows, pass_field, whole}
use Rattle.plan_cert.proofs.Says.{Says, says-both}
use Rattle.plan_cert.proofs.FieldsBack.{class-back, counted-back, truth-back, word-back}

-- where the columns of the tables of marks stand
abbrev pub nine_columns : DutyColumns
nine_columns = record {
  place = record { pass = 0; class = 1; item = 2 };
  start = 3;
  driven =
      record { driving = 4; quarter = 5; total = 6; three = 7 };
  value = 8;
}

abbrev pub five_columns : BlockColumns
five_columns = record { place = record { pass = 0; class = 1; item = 2 }; driving = 3; value = 4 }

abbrev pub mark_place : Pass → ℕ → ℕ → MarkPlace
mark_place pass class item = record { pass = pass; class = class; item = item }

-- the pass, the class and the item of a mark
place-row : (s : Shape) (field : Option ℤ) (read : Option ℤ → Option Pass) (pass : Pass) (class item : ℕ) → read field ≡ Some pass →
    class_among (numbers_in s.classes pass) (whole (slice_index (numbers_in s.classes pass) class)) ≡ Some class → item < items_of s pass →
    (read field >>= λ q. class_among (numbers_in s.classes q) (whole (slice_index (numbers_in s.classes pass) class)) >>= λ k.
    counted (items_of s q) (whole (item + 1)) >>= λ i. Some (mark_place q k i)) ≡
    Some (mark_place pass class item)
place-row s field read pass class item of_pass of_class below =
    let number = whole (slice_index (numbers_in s.classes pass) class) in
    let f : Option Pass → Option MarkPlace =
    λ o. o >>= λ q. class_among (numbers_in s.classes q) number >>= λ k. counted (items_of s q) (whole (item + 1)) >>= λ i.
    Some (mark_place q k i) in
    let g : Option ℕ → Option MarkPlace =
    λ o. o >>= λ k. counted (items_of s pass) (whole (item + 1)) >>= λ i. Some (mark_place pass k i) in
    let h : Option ℕ → Option MarkPlace = λ o. o >>= λ i. Some (mark_place pass class i) in
    ap f of_pass ∙ (ap g of_class ∙ ap h (counted-back (items_of s pass) item below))

abbrev driven_of : ℕ → Bool → ℕ → Bool → Driven
driven_of d q t h = record { driving = d; quarter = q; total = t; three = h }

abbrev driven : Mark → Driven
driven m = record { driving = m.driving; quarter = m.quarter; total = m.total; three = m.three }

driven-row : (m : Mark) → m.driving ≤ 4294967295 → m.total ≤ 4294967295 →
    (word (whole m.driving) >>= λ d. truth (whole_number (signed_field (bit m.quarter))) >>= λ q. word (whole m.total) >>= λ t.
    truth (whole_number (signed_field (bit m.three))) >>= λ h. Some (driven_of d q t h)) ≡ Some (driven m)
driven-row m driving total =
    let f : Option ℕ → Option Driven =
    λ o. o >>= λ d. truth (whole_number (signed_field (bit m.quarter))) >>= λ q. word (whole m.total) >>= λ t.
    truth (whole_number (signed_field (bit m.three))) >>= λ h. Some (driven_of d q t h) in
    let g : Option Bool → Option Driven =
    λ o. o >>= λ q. word (whole m.total) >>= λ t. truth (whole_number (signed_field (bit m.three))) >>= λ h.
    Some (driven_of m.driving q t h) in
    let k : Option ℕ → Option Driven =
    λ o. o >>= λ t. truth (whole_number (signed_field (bit m.three))) >>= λ h. Some (driven_of m.driving m.quarter t h) in
    let l : Option Bool → Option Driven = λ o. o >>= λ h. Some (driven_of m.driving m.quarter m.total h) in
    ap f (word-back m.driving driving) ∙ (ap g (truth-back m.quarter) ∙ (ap k (word-back m.total total) ∙ ap l (truth-back m.three)))

abbrev pub duty_tag : Pass → Mark → DutyEntry
duty_tag pass m = record { pass = pass; mark = m }

abbrev pub block_tag : Pass → BlockMark → BlockEntry
block_tag pass m = record { pass = pass; mark = m }

-- The row of a mark of duties says the mark again, field by field: its pass by the number, its class by the place of the class's
-- number, which stands once among those that rise, the piece counted from 1, and numbers that have 32 bits. Marks of blocks, below,
-- have fewer fields.
duty-back : (s : Shape) (pass : Pass) (m : Mark) → pass_from 3 DutyNumber DutyCost (pass_field pass) ≡ Some pass →
    AllPairs (λ (earlier later : ℕ). earlier < later) (numbers_in s.classes pass) →
    IsMarkOf (items_of s pass) (length (numbers_in s.classes pass)) m →
    duty_entry s nine_columns (signed_row (duty_row pass (slice_index (numbers_in s.classes pass) m.class) m)) ≡ Some (duty_tag pass m)
duty-back s pass m of_pass rise is =
    let row = signed_row (duty_row pass (slice_index (numbers_in s.classes pass) m.class) m) in
    let at : duty_place s nine_columns.place row ≡ Some (mark_place pass m.class m.piece) =
    place-row s (pass_field pass) (pass_from 3 DutyNumber DutyCost) pass m.class m.piece of_pass
    (class-back (numbers_in s.classes pass) m.class rise is.class) is.item in
    let driving : driven_at nine_columns.driven row ≡ Some (driven m) = driven-row m is.driving is.total in
    let f : Option MarkPlace → Option DutyEntry =
    λ o. o >>= λ place. driven_at nine_columns.driven row >>= λ d. Some (duty_tag place.pass (mark_of place m.start.0 d m.value)) in
    let g : Option Driven → Option DutyEntry =
    λ o. o >>= λ d. Some (duty_tag pass (mark_of (mark_place pass m.class m.piece) m.start.0 d m.value)) in
    ap f at ∙ ap g driving

block-back : (s : Shape) (pass : Pass) (m : BlockMark) → pass_from 1 BlockNumber BlockCost (pass_field pass) ≡ Some pass →
    AllPairs (λ (earlier later : ℕ). earlier < later) (numbers_in s.classes pass) →
    IsBlockMarkOf (items_of s pass) (length (numbers_in s.classes pass)) m →
    block_entry s five_columns (signed_row (block_row pass (slice_index (numbers_in s.classes pass) m.class) m)) ≡ Some (block_tag pass m)
block-back s pass m of_pass rise is =
    let row = signed_row (block_row pass (slice_index (numbers_in s.classes pass) m.class) m) in
    let at : block_place s five_columns.place row ≡ Some (mark_place pass m.class m.trip) =
    place-row s (pass_field pass) (pass_from 1 BlockNumber BlockCost) pass m.class m.trip of_pass
    (class-back (numbers_in s.classes pass) m.class rise is.class) is.item in
    let make : MarkPlace → ℕ → BlockEntry =
    λ place d. block_tag place.pass (record { class = place.class; trip = place.item; driving = d; value = m.value }) in
    let f : Option MarkPlace → Option BlockEntry = λ o. o >>= λ place. word (whole m.driving) >>= λ d. Some (make place d) in
    let g : Option ℕ → Option BlockEntry = λ o. o >>= λ d. Some (make (mark_place pass m.class m.trip) d) in
    ap f at ∙ ap g (word-back m.driving is.driving)

duties-say : (s : Shape) (pass : Pass) (ms : List Mark) → pass_from 3 DutyNumber DutyCost (pass_field pass) ≡ Some pass →
    AllPairs (λ (earlier later : ℕ). earlier < later) (numbers_in s.classes pass) →
    All (IsMarkOf (items_of s pass) (length (numbers_in s.classes pass))) ms →
    Says (duty_entry s nine_columns) (signed_rows (duty_rows pass (numbers_in s.classes pass) ms)) (map (duty_tag pass) ms)
duties-say s pass [] of_pass rise are = tt
duties-say s pass (m ∷ ms) of_pass rise are =
    let P : Mark → Type 0 = IsMarkOf (items_of s pass) (length (numbers_in s.classes pass)) in
    (duty-back s pass m of_pass rise (All-head P m ms are), duties-say s pass ms of_pass rise (All-tail P m ms are))

blocks-say : (s : Shape) (pass : Pass) (ms : List BlockMark) → pass_from 1 BlockNumber BlockCost (pass_field pass) ≡ Some pass →
    AllPairs (λ (earlier later : ℕ). earlier < later) (numbers_in s.classes pass) →
    All (IsBlockMarkOf (items_of s pass) (length (numbers_in s.classes pass))) ms →
    Says (block_entry s five_columns) (signed_rows (block_rows pass (numbers_in s.classes pass) ms)) (map (block_tag pass) ms)
blocks-say s pass [] of_pass rise are = tt
blocks-say s pass (m ∷ ms) of_pass rise are =
    let P : BlockMark → Type 0 = IsBlockMarkOf (items_of s pass) (length (numbers_in s.classes pass)) in
    (block-back s pass m of_pass rise (All-head P m ms are), blocks-say s pass ms of_pass rise (All-tail P m ms are))

-- what is picked of tagged marks
filter-both : {A M : Type 0} (pick : A → Option M) (xs ys : List A) → filter_map pick (xs ++ ys) ≡ filter_map pick xs ++ filter_map pick ys
filter-both pick [] ys = refl
filter-both {A} {M} pick (x ∷ xs) ys = one (pick x) (filter-both pick xs ys)
  where
    one : (o : Option M) → filter_map pick (xs ++ ys) ≡ filter_map pick xs ++ filter_map pick ys →
        cons_option o (filter_map pick (xs ++ ys)) ≡ cons_option o (filter_map pick xs) ++ filter_map pick ys
    one None e = e
    one (Some m) e = ap (λ (l : List M). m ∷ l) e

picked : {A M : Type 0} (pick : A → Option M) (tag : M → A) (ms : List M) → ((m : M) → pick (tag m) ≡ Some m) →
    filter_map pick (map tag ms) ≡ ms
picked pick tag [] own = refl
picked {A} {M} pick tag (m ∷ ms) own =
    ap (λ (o : Option M). cons_option o (filter_map pick (map tag ms))) (own m) ∙ ap (λ (l : List M). m ∷ l) (picked pick tag ms own)

unpicked : {A M : Type 0} (pick : A → Option M) (tag : M → A) (ms : List M) → ((m : M) → pick (tag m) ≡ None) →
    filter_map pick (map tag ms) ≡ []
unpicked pick tag [] other = refl
unpicked {A} {M} pick tag (m ∷ ms) other =
    ap (λ (o : Option M). cons_option o (filter_map pick (map tag ms))) (other m) ∙ unpicked pick tag ms other

-- The rows of the pass with costs stand behind those of the pass that counts; picking a pass leaves nothing of the other's marks and
-- all of its own, in their order. So one table with a column for the pass keeps both lists apart.
pub duties-kept : (three four : List Mark) → duty_marks (map (duty_tag DutyNumber) three ++ map (duty_tag DutyCost) four)
    ≡ record { of_number = three; of_cost = four }
duties-kept three four =
    let tagged3 = map (duty_tag DutyNumber) three in
    let tagged4 = map (duty_tag DutyCost) four in
    let number : marks_in_pass DutyNumber (tagged3 ++ tagged4) ≡ three =
    filter-both _ tagged3 tagged4
    ∙ (ap (λ (l : List Mark). l ++ marks_in_pass DutyNumber tagged4) (picked _ (duty_tag DutyNumber) three (λ m. refl))
    ∙ (ap (λ (l : List Mark). three ++ l) (unpicked _ (duty_tag DutyCost) four (λ m. refl)) ∙ append-nil three)) in
    let cost : marks_in_pass DutyCost (tagged3 ++ tagged4) ≡ four =
    filter-both _ tagged3 tagged4
    ∙ (ap (λ (l : List Mark). l ++ marks_in_pass DutyCost tagged4) (unpicked _ (duty_tag DutyNumber) three (λ m. refl))
    ∙ picked _ (duty_tag DutyCost) four (λ m. refl)) in
    let make : List Mark → List Mark → DutyMarks = λ a b. record { of_number = a; of_cost = b } in
    ap (λ (b : List Mark). make (marks_in_pass DutyNumber (tagged3 ++ tagged4)) b) cost ∙ ap (λ (a : List Mark). make a four) number

pub blocks-kept : (one two : List BlockMark) → block_marks (map (block_tag BlockNumber) one ++ map (block_tag BlockCost) two)
    ≡ record { of_number = one; of_cost = two }
blocks-kept one two =
    let tagged1 = map (block_tag BlockNumber) one in
    let tagged2 = map (block_tag BlockCost) two in
    let number : marks_in_pass BlockNumber (tagged1 ++ tagged2) ≡ one =
    filter-both _ tagged1 tagged2
    ∙ (ap (λ (l : List BlockMark). l ++ marks_in_pass BlockNumber tagged2) (picked _ (block_tag BlockNumber) one (λ m. refl))
    ∙ (ap (λ (l : List BlockMark). one ++ l) (unpicked _ (block_tag BlockCost) two (λ m. refl)) ∙ append-nil one)) in
    let cost : marks_in_pass BlockCost (tagged1 ++ tagged2) ≡ two =
    filter-both _ tagged1 tagged2
    ∙ (ap (λ (l : List BlockMark). l ++ marks_in_pass BlockCost tagged2) (unpicked _ (block_tag BlockNumber) one (λ m. refl))
    ∙ picked _ (block_tag BlockCost) two (λ m. refl)) in
    let make : List BlockMark → List BlockMark → BlockMarks = λ a b. record { of_number = a; of_cost = b } in
    ap (λ (b : List BlockMark). make (marks_in_pass BlockNumber (tagged1 ++ tagged2)) b) cost
    ∙ ap (λ (a : List BlockMark). make a two) number

pub duties-say-both : (s : Shape) (three four : List Mark) → AllPairs (λ (earlier later : ℕ). earlier < later) s.classes.groups →
    All (IsMarkOf s.pieces (length s.classes.groups)) three →
    All (IsMarkOf s.pieces (length s.classes.groups)) four →
    Says (duty_entry s nine_columns)
    (signed_rows (duty_rows DutyNumber s.classes.groups three) ++ signed_rows (duty_rows DutyCost s.classes.groups four))
    (map (duty_tag DutyNumber) three ++ map (duty_tag DutyCost) four)
duties-say-both s three four rise are3 are4 =
    says-both (duty_entry s nine_columns) (signed_rows (duty_rows DutyNumber s.classes.groups three)) (map (duty_tag DutyNumber) three)
    (signed_rows (duty_rows DutyCost s.classes.groups four)) (map (duty_tag DutyCost) four)
    (duties-say s DutyNumber three refl rise are3) (duties-say s DutyCost four refl rise are4)

pub blocks-say-both : (s : Shape) (one two : List BlockMark) → AllPairs (λ (earlier later : ℕ). earlier < later) s.classes.pools →
    All (IsBlockMarkOf s.trips (length s.classes.pools)) one →
    All (IsBlockMarkOf s.trips (length s.classes.pools)) two →
    Says (block_entry s five_columns)
    (signed_rows (block_rows BlockNumber s.classes.pools one) ++ signed_rows (block_rows BlockCost s.classes.pools two))
    (map (block_tag BlockNumber) one ++ map (block_tag BlockCost) two)
blocks-say-both s one two rise are1 are2 =
    says-both (block_entry s five_columns) (signed_rows (block_rows BlockNumber s.classes.pools one)) (map (block_tag BlockNumber) one)
    (signed_rows (block_rows BlockCost s.classes.pools two)) (map (block_tag BlockCost) two)
    (blocks-say s BlockNumber one refl rise are1) (blocks-say s BlockCost two refl rise are2)
