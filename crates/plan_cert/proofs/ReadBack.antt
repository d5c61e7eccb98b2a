-- The tables of a certificate stand for it.
use Rattle.std.proofs.Common.{◌≡◌, List, [], ◌∷◌, ◌++◌, All, length, map, refl, sym, ap, ◌∙◌, subst, arith}
use Rattle.std.proofs.lemmas.List.{length-map}
use Rattle.std.proofs.lemmas.List.Elements.{All-cons, All-head, All-nil, All-tail}
use Rattle.std.specs.Prelude.{Some, Result, Ok}
use Rattle.plan_core.specs.declared.types.Price.{Price}
use Rattle.vdv451_text.specs.declared.table.Field.{Field}
use Rattle.number_tables.specs.Signed.{signed_rows}
use Rattle.cover_core.specs.declared.marks.Mark.{Mark}
use Rattle.cover_core.specs.declared.marks.BlockMark.{BlockMark}
use Rattle.plan_cert.specs.declared.cert.Cert.{Cert}
use Rattle.plan_cert.specs.declared.cert.CertPart.{CertPart}
use Rattle.plan_cert.specs.declared.cert.Pass.TheVariants.{BlockNumber, BlockCost, DutyNumber, DutyCost}
use Rattle.plan_cert.specs.declared.fault.Place.{Place}
use Rattle.plan_cert.specs.declared.prices.FourLists.{FourLists}
use Rattle.plan_cert.specs.declared.prices.Priced.TheVariants.{Items, Classes}
use Rattle.plan_cert.specs.declared.shape.Shape.{Shape}
use Rattle.plan_cert.specs.Certificates.{block_part, cert_from, duty_part, price, read_of}
use Rattle.plan_cert.specs.Laws.{AreParts, HaveOwnNumbers, IsBlockPart, IsDutyPart, IsModerate, IsPart, ReadsBack}
use Rattle.plan_cert.specs.Marks.{BlockMarks, block_marks_in, block_marks_of, DutyMarks, duty_marks_in, duty_marks_of}
use Rattle.plan_cert.specs.Numbers.{moderate}
use Rattle.plan_cert.specs.Places.{◌>>=◌}
use Rattle.plan_cert.specs.Prices.{entry_of}
use Rattle.plan_cert.specs.PriceTables.{prices_in, prices_of}
use Rattle.plan_cert.specs.Writing.{all_class_rows, all_price_rows, block_rows, class_rows, duty_rows, four_tables, price_rows, tables_of}
use Rattle.plan_cert.proofs.FieldsBack.{moderate-back}
use Rattle.plan_cert.proofs.MarksBack.{blocks-say-both, duties-say-both, five_columns, nine_columns}
use Rattle.plan_cert.proofs.PricesBack.{all_entries, classes-say, items-say, raw, three_columns}
use Rattle.plan_cert.proofs.Says.{Says, entries, says-both}
use Rattle.plan_cert.proofs.TablesBack.{block-marks-back, duty-marks-back, prices-back}
use Rattle.plan_cert.proofs.TableRows.{rows-both, rows-four}

kept : (ps : List Price) → All IsModerate ps → All (λ (p : Price). moderate (Some p.0) ≡ Some p.0) ps
kept [] are = All-nil (λ (p : Price). moderate (Some p.0) ≡ Some p.0)
kept (p ∷ ps) are = All-cons (λ (q : Price). moderate (Some q.0) ≡ Some q.0) p ps (moderate-back p (All-head IsModerate p ps are))
    (kept ps (All-tail IsModerate p ps are))

abbrev four_of_raw : CertPart → CertPart → CertPart → CertPart → FourLists
four_of_raw one two three four = record {
  block_number = map raw one.prices.items;
  block_cost = map raw two.prices.items;
  duty_number =
      map raw three.prices.items;
  duty_cost = map raw four.prices.items;
}

abbrev four_of_classes : CertPart → CertPart → CertPart → CertPart → FourLists
four_of_classes one two three four = record {
  block_number = one.class_prices;
  block_cost = two.class_prices;
  duty_number =
      three.class_prices;
  duty_cost = four.class_prices;
}

-- Prices of items are read back. The rows of the four passes stand one pass behind another, and each says the price of its item
-- (`items-say`, for which the price must be moderate); `prices-back` puts the entries of such rows back into four lists. Each pass has
-- as many prices as items, so no item is left without one.
prices-of : (s : Shape) (one two three four : CertPart) → IsPart s.trips (length s.classes.pools) one →
    IsPart s.trips (length s.classes.pools) two → IsPart s.pieces (length s.classes.groups) three →
    IsPart s.pieces (length s.classes.groups) four →
    prices_of Items s (four_tables s.classes one two three four) ≡ Ok (four_of_raw one two three four)
prices-of s one two three four is1 is2 is3 is4 =
    let say = entry_of Items s three_columns in
    let r1 = price_rows BlockNumber 0 one.prices.items in
    let r2 = price_rows BlockCost 0 two.prices.items in
    let r3 = price_rows DutyNumber 0 three.prices.items in
    let r4 = price_rows DutyCost 0 four.prices.items in
    let long1 = is1.prices in
    let long2 = is2.prices in
    let long3 = is3.prices in
    let long4 = is4.prices in
    let says = says-both say (signed_rows r1) (entries BlockNumber 0 (map raw one.prices.items))
    (signed_rows r2 ++ (signed_rows r3 ++ signed_rows r4)) _
    (items-say s BlockNumber 0 one.prices.items (omega arith) (kept one.prices.items is1.moderate))
    (says-both say (signed_rows r2) (entries BlockCost 0 (map raw two.prices.items)) (signed_rows r3 ++ signed_rows r4) _
    (items-say s BlockCost 0 two.prices.items (omega arith) (kept two.prices.items is2.moderate))
    (says-both say (signed_rows r3) (entries DutyNumber 0 (map raw three.prices.items)) (signed_rows r4)
    (entries DutyCost 0 (map raw four.prices.items))
    (items-say s DutyNumber 0 three.prices.items (omega arith) (kept three.prices.items is3.moderate))
    (items-say s DutyCost 0 four.prices.items (omega arith) (kept four.prices.items is4.moderate)))) in
    let P : List (List Field) → Type 0 =
    λ rows. Says say rows (all_entries (map raw one.prices.items) (map raw two.prices.items) (map raw three.prices.items)
    (map raw four.prices.items)) in
    let table : prices_of Items s (four_tables s.classes one two three four)
    ≡ prices_in Items s three_columns (signed_rows (all_price_rows one two three four)) = refl in
    table ∙ prices-back Items s three_columns (signed_rows (all_price_rows one two three four)) (map raw one.prices.items)
    (map raw two.prices.items) (map raw three.prices.items) (map raw four.prices.items)
    (subst P (sym (rows-four r1 r2 r3 r4)) says)
    (length-map one.prices.items raw ∙ long1) (length-map two.prices.items raw ∙ long2) (length-map three.prices.items raw ∙ long3)
    (length-map four.prices.items raw ∙ long4)

class-prices-of : (s : Shape) (one two three four : CertPart) → HaveOwnNumbers s.classes → IsPart s.trips (length s.classes.pools) one →
    IsPart s.trips (length s.classes.pools) two →
    IsPart s.pieces (length s.classes.groups) three → IsPart s.pieces (length s.classes.groups) four →
    prices_of Classes s (four_tables s.classes one two three four) ≡ Ok (four_of_classes one two three four)
class-prices-of s one two three four own is1 is2 is3 is4 =
    let say = entry_of Classes s three_columns in
    let pools = s.classes.pools in
    let groups = s.classes.groups in
    let r1 = class_rows BlockNumber pools 0 one.class_prices in
    let r2 = class_rows BlockCost pools 0 two.class_prices in
    let r3 = class_rows DutyNumber groups 0 three.class_prices in
    let r4 = class_rows DutyCost groups 0 four.class_prices in
    let long1 = is1.class_prices in
    let long2 = is2.class_prices in
    let long3 = is3.class_prices in
    let long4 = is4.class_prices in
    let says = says-both say (signed_rows r1) (entries BlockNumber 0 one.class_prices)
    (signed_rows r2 ++ (signed_rows r3 ++ signed_rows r4)) _
    (classes-say s BlockNumber 0 one.class_prices (omega arith) own.pools)
    (says-both say (signed_rows r2) (entries BlockCost 0 two.class_prices) (signed_rows r3 ++ signed_rows r4) _
    (classes-say s BlockCost 0 two.class_prices (omega arith) own.pools)
    (says-both say (signed_rows r3) (entries DutyNumber 0 three.class_prices) (signed_rows r4) (entries DutyCost 0 four.class_prices)
    (classes-say s DutyNumber 0 three.class_prices (omega arith) own.groups)
    (classes-say s DutyCost 0 four.class_prices (omega arith) own.groups))) in
    let P : List (List Field) → Type 0 =
    λ rows. Says say rows (all_entries one.class_prices two.class_prices three.class_prices four.class_prices) in
    let table : prices_of Classes s (four_tables s.classes one two three four)
    ≡ prices_in Classes s three_columns (signed_rows (all_class_rows s.classes one two three four)) = refl in
    table ∙ prices-back Classes s three_columns (signed_rows (all_class_rows s.classes one two three four)) one.class_prices
    two.class_prices three.class_prices four.class_prices
    (subst P (sym (rows-four r1 r2 r3 r4)) says) long1 long2 long3 long4

-- Marks of duties are read back: each row says one mark and its pass, and of the marks of both passes each pass picks its own, in
-- their order. Marks of blocks go the same way below. The order of marks counts, as a certificate is read back as it is.
duties-of : (s : Shape) (one two three four : CertPart) → HaveOwnNumbers s.classes → IsDutyPart s.pieces (length s.classes.groups) three →
    IsDutyPart s.pieces (length s.classes.groups) four →
    duty_marks_of s (four_tables s.classes one two three four) ≡ Ok (record { of_number = three.cover.marks; of_cost = four.cover.marks })
duties-of s one two three four own is3 is4 =
    let r3 = duty_rows DutyNumber s.classes.groups three.cover.marks in
    let r4 = duty_rows DutyCost s.classes.groups four.cover.marks in
    let table : duty_marks_of s (four_tables s.classes one two three four) ≡ duty_marks_in s nine_columns (signed_rows (r3 ++ r4)) = refl in
    table ∙ (ap (duty_marks_in s nine_columns) (rows-both r3 r4)
    ∙ duty-marks-back s (signed_rows r3 ++ signed_rows r4) three.cover.marks four.cover.marks
    (duties-say-both s three.cover.marks four.cover.marks own.groups is3.marks is4.marks))

blocks-of : (s : Shape) (one two three four : CertPart) → HaveOwnNumbers s.classes → IsBlockPart s.trips (length s.classes.pools) one →
    IsBlockPart s.trips (length s.classes.pools) two →
    block_marks_of s (four_tables s.classes one two three four) ≡ Ok (record { of_number = one.blocks.marks; of_cost = two.blocks.marks })
blocks-of s one two three four own is1 is2 =
    let r1 = block_rows BlockNumber s.classes.pools one.blocks.marks in
    let r2 = block_rows BlockCost s.classes.pools two.blocks.marks in
    let table : block_marks_of s (four_tables s.classes one two three four) ≡ block_marks_in s five_columns (signed_rows (r1 ++ r2)) =
    refl in
    table ∙ (ap (block_marks_in s five_columns) (rows-both r1 r2)
    ∙ block-marks-back s (signed_rows r1 ++ signed_rows r2) one.blocks.marks two.blocks.marks
    (blocks-say-both s one.blocks.marks two.blocks.marks own.pools is1.marks is2.marks))

-- numbers of prices are prices again
priced : (ps : List Price) → map price (map raw ps) ≡ ps
priced [] = refl
priced (p ∷ ps) = ap (λ (l : List Price). p ∷ l) (priced ps)

-- A part that is read has no marks of the other kind, and neither has one that is written; so nothing of the part is lost, though the
-- tables have no room for such marks.
block-part : (part : CertPart) → part.cover.marks ≡ [] → block_part (map raw part.prices.items) part.class_prices part.blocks.marks ≡ part
block-part part none =
    let make : List Price → List Mark → CertPart =
    λ ps ms. record {
      prices = record { items = ps };
      class_prices = part.class_prices;
      cover =
          record { marks = ms };
      blocks = part.blocks;
    } in
    ap (λ (ps : List Price). make ps []) (priced part.prices.items) ∙ ap (λ (ms : List Mark). make part.prices.items ms) (sym none)

duty-part : (part : CertPart) → part.blocks.marks ≡ [] → duty_part (map raw part.prices.items) part.class_prices part.cover.marks ≡ part
duty-part part none =
    let make : List Price → List BlockMark → CertPart =
    λ ps ms. record {
      prices = record { items = ps };
      class_prices = part.class_prices;
      cover = part.cover;
      blocks =
          record { marks = ms };
    } in
    ap (λ (ps : List Price). make ps []) (priced part.prices.items) ∙ ap (λ (ms : List BlockMark). make part.prices.items ms) (sym none)

-- The four tables are read one after another: with each rewritten to the lists that were written (`prices-of`, `class-prices-of`,
-- `duties-of`, `blocks-of`) reading ends, and the parts made of these lists are those of the certificate.
four-parts : (s : Shape) (one two three four : CertPart) → HaveOwnNumbers s.classes → IsBlockPart s.trips (length s.classes.pools) one →
    IsBlockPart s.trips (length s.classes.pools) two →
    IsDutyPart s.pieces (length s.classes.groups) three → IsDutyPart s.pieces (length s.classes.groups) four →
    read_of s (four_tables s.classes one two three four) ≡ Ok (record { parts = one ∷ two ∷ three ∷ four ∷ [] })
four-parts s one two three four own is1 is2 is3 is4 =
    let tables = four_tables s.classes one two three four in
    let ps = four_of_raw one two three four in
    let cs = four_of_classes one two three four in
    let ds : DutyMarks = record { of_number = three.cover.marks; of_cost = four.cover.marks } in
    let bs : BlockMarks = record { of_number = one.blocks.marks; of_cost = two.blocks.marks } in
    let f : Result FourLists Place → Result Cert Place =
    λ r. r >>= λ p. prices_of Classes s tables >>= λ c. duty_marks_of s tables >>= λ d. block_marks_of s tables >>= λ b.
    Ok (cert_from p c d b) in
    let g : Result FourLists Place → Result Cert Place =
    λ r. r >>= λ c. duty_marks_of s tables >>= λ d. block_marks_of s tables >>= λ b. Ok (cert_from ps c d b) in
    let h : Result DutyMarks Place → Result Cert Place = λ r. r >>= λ d. block_marks_of s tables >>= λ b. Ok (cert_from ps cs d b) in
    let k : Result BlockMarks Place → Result Cert Place = λ r. r >>= λ b. Ok (cert_from ps cs ds b) in
    let make : CertPart → CertPart → CertPart → CertPart → Result Cert Place = λ p q r t. Ok (record { parts = p ∷ q ∷ r ∷ t ∷ [] }) in
    let b1 = block_part (map raw one.prices.items) one.class_prices one.blocks.marks in
    let b2 = block_part (map raw two.prices.items) two.class_prices two.blocks.marks in
    let d3 = duty_part (map raw three.prices.items) three.class_prices three.cover.marks in
    ap f (prices-of s one two three four is1.part_is is2.part_is is3.part_is is4.part_is)
    ∙ (ap g (class-prices-of s one two three four own is1.part_is is2.part_is is3.part_is is4.part_is)
    ∙ (ap h (duties-of s one two three four own is3 is4)
    ∙ (ap k (blocks-of s one two three four own is1 is2)
    ∙ (ap (λ (t : CertPart). make b1 b2 d3 t) (duty-part four is4.none)
    ∙ (ap (λ (r : CertPart). make b1 b2 r four) (duty-part three is3.none)
    ∙ (ap (λ (q : CertPart). make b1 q three four) (block-part two is2.none)
    ∙ ap (λ (p : CertPart). make p two three four) (block-part one is1.none)))))))

any-parts : (s : Shape) (parts : List CertPart) → HaveOwnNumbers s.classes → AreParts s parts →
    read_of s (tables_of s.classes (record { parts = parts })) ≡ Ok (record { parts = parts })
any-parts s [] own are = absurd are
any-parts s (one ∷ []) own are = absurd are
any-parts s (one ∷ two ∷ []) own are = absurd are
any-parts s (one ∷ two ∷ three ∷ []) own are = absurd are
any-parts s (one ∷ two ∷ three ∷ four ∷ []) own are = four-parts s one two three four own are.0 are.1 are.2 are.3
any-parts s (one ∷ two ∷ three ∷ four ∷ five ∷ more) own are = absurd are

-- What is written is read back, for a certificate of four parts: only then there are tables at all (`any-parts`), and then by
-- `four-parts`. Numbers of classes must rise, so that each names its class alone. It is the contract of `certificates_are_read_back`:
-- `check` sees the very prices and marks with which the planner proved its bounds.
pub reads-back : (s : Shape) → ReadsBack s
reads-back s cert own are = any-parts s cert.parts own are
