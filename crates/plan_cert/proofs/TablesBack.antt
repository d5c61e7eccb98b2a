-- Tables whose rows say prices or marks of all passes give these.
use Rattle.std.proofs.Common.{◌≡◌, ℕ, ℤ, List, [], ◌++◌, length, map, ap, ◌∙◌}
use Rattle.std.proofs.lemmas.Iterator.Adapters.{position_from-zero}
use Rattle.std.specs.List.{filter_map}
use Rattle.std.specs.Prelude.{Option, None, Result, Ok, is_none}
use Rattle.vdv451_text.specs.declared.table.Field.{Field}
use Rattle.cover_core.specs.declared.marks.Mark.{Mark}
use Rattle.cover_core.specs.declared.marks.BlockMark.{BlockMark}
use Rattle.plan_cert.specs.declared.cert.Pass.TheVariants.{BlockNumber, BlockCost, DutyNumber, DutyCost}
use Rattle.plan_cert.specs.declared.columns.PriceColumns.{PriceColumns}
use Rattle.plan_cert.specs.declared.fault.CertTable.TheVariants as which
use Rattle.plan_cert.specs.declared.fault.Place.{Place}
use Rattle.plan_cert.specs.declared.prices.FourLists.{FourLists}
use Rattle.plan_cert.specs.declared.prices.Priced.{Priced}
use Rattle.plan_cert.specs.declared.shape.Shape.{Shape}
use Rattle.plan_cert.specs.declared.slots.Entry.{Entry}
use Rattle.plan_cert.specs.Entries.{block_entry, BlockEntry, duty_entry, DutyEntry}
use Rattle.plan_cert.specs.Marks.{block_marks, BlockMarks, block_marks_in, duty_marks, DutyMarks, duty_marks_in}
use Rattle.plan_cert.specs.Places.{◌>>=◌, first_wrong, no_wrong}
use Rattle.plan_cert.specs.Prices.{count_for, entry_of, found_slots, table_for}
use Rattle.plan_cert.specs.PriceTables.{four_of, prices_in}
use Rattle.plan_cert.proofs.MarksBack.{block_tag, blocks-kept, duties-kept, duty_tag, five_columns, nine_columns}
use Rattle.plan_cert.proofs.PricesBack.{all-new, all-slots, all_entries, four-back}
use Rattle.plan_cert.proofs.Says.{Says, all-say, none-wrong, said}

-- rows that say the prices of all passes give these prices
pub prices-back : (kind : Priced) (s : Shape) (columns : PriceColumns) (rows : List (List Field)) (one two three four : List ℤ) →
    Says (entry_of kind s columns) rows (all_entries one two three four) →
    length one ≡ count_for kind s BlockNumber → length two ≡ count_for kind s BlockCost → length three ≡ count_for kind s DutyNumber →
    length four ≡ count_for kind s DutyCost →
    prices_in kind s columns rows ≡ Ok (record { block_number = one; block_cost = two; duty_number = three; duty_cost = four })
prices-back kind s columns rows one two three four says long1 long2 long3 long4 =
    let t = table_for kind in
    let none = none-wrong (entry_of kind s columns) [] 0 rows (all_entries one two three four) says (all-new one two three four) in
    let next : Option ℕ → Result FourLists Place =
    λ o. no_wrong t o >>= λ x. four_of t (found_slots (count_for kind s) (filter_map (entry_of kind s columns) rows)) in
    ap next none
    ∙ (ap (λ (es : List Entry). four_of t (found_slots (count_for kind s) es))
    (said (entry_of kind s columns) rows (all_entries one two three four) says)
    ∙ (ap (four_of t) (all-slots (count_for kind s) one two three four long1 long2 long3 long4) ∙ four-back t one two three four))

-- rows that say marks of both passes give these marks
pub duty-marks-back : (s : Shape) (rows : List (List Field)) (three four : List Mark) →
    Says (duty_entry s nine_columns) rows (map (duty_tag DutyNumber) three ++ map (duty_tag DutyCost) four) →
    duty_marks_in s nine_columns rows ≡ Ok (record { of_number = three; of_cost = four })
duty-marks-back s rows three four says =
    let say = duty_entry s nine_columns in
    let es = map (duty_tag DutyNumber) three ++ map (duty_tag DutyCost) four in
    let none : first_wrong say rows ≡ None = position_from-zero (λ row. is_none (say row)) rows ∙ all-say say 0 rows es says in
    let next : Option ℕ → Result DutyMarks Place = λ o. no_wrong which.DutyMarks o >>= λ x. Ok (duty_marks (filter_map say rows)) in
    let ok : DutyMarks → Result DutyMarks Place = λ m. Ok m in
    ap next none ∙ (ap (λ (xs : List DutyEntry). ok (duty_marks xs)) (said say rows es says) ∙ ap ok (duties-kept three four))

pub block-marks-back : (s : Shape) (rows : List (List Field)) (one two : List BlockMark) →
    Says (block_entry s five_columns) rows (map (block_tag BlockNumber) one ++ map (block_tag BlockCost) two) →
    block_marks_in s five_columns rows ≡ Ok (record { of_number = one; of_cost = two })
block-marks-back s rows one two says =
    let say = block_entry s five_columns in
    let es = map (block_tag BlockNumber) one ++ map (block_tag BlockCost) two in
    let none : first_wrong say rows ≡ None = position_from-zero (λ row. is_none (say row)) rows ∙ all-say say 0 rows es says in
    let next : Option ℕ → Result BlockMarks Place = λ o. no_wrong which.BlockMarks o >>= λ x. Ok (block_marks (filter_map say rows)) in
    let ok : BlockMarks → Result BlockMarks Place = λ m. Ok m in
    ap next none ∙ (ap (λ (xs : List BlockEntry). ok (block_marks xs)) (said say rows es says) ∙ ap ok (blocks-kept one two))
