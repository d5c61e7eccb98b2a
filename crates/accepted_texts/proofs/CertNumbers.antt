-- The tables of a certificate are plain, and their numbers have 64 bits.
use Rattle.std.proofs.Common.{◌≡◌, ℕ, ℤ, pos, zero, suc, ◌+◌, ◌≤◌, ◌++◌, Bool, true, false, List, [], ◌∷◌, length, map, get_or, Option, Some, None, refl, sym, subst, arith, codes}
use Rattle.std.specs.Prelude.{slice_index}
use Rattle.std.proofs.lemmas.Int.{ints}
use Rattle.std.proofs.lemmas.List.Elements.{recursion_from_All}
use Rattle.std.proofs.lemmas.Option.{slice_get-get_or}
use Rattle.std.specs.List.{AllByRecursion}
use Rattle.std.specs.declared.cmp.Ordering.{Ordering}
use Rattle.plan_core.specs.declared.Price.{Price}
use Rattle.vdv451_text.specs.declared.table.Table.{Table}
use Rattle.vdv451_text.specs.Plain.{are_plain, is_plain_table}
use Rattle.number_tables.proofs.SignedLemmas.{plain_signed}
use Rattle.cover_core.specs.declared.Prices.{Prices}
use Rattle.cover_core.specs.declared.marks.BlockMark.{BlockMark}
use Rattle.cover_core.specs.declared.marks.Mark.{Mark}
use Rattle.cover_core.specs.FirstLeast.{AllWithin}
use Rattle.cover_core.specs.Labels.{label_after, label_of}
use Rattle.dual_bound.specs.declared.kept.Kept.{Kept}
use Rattle.day_method.specs.Method.{SidePlan}
use Rattle.plan_params.specs.declared.rows.group.Group.{Group}
use Rattle.plan_params.specs.declared.rows.pool.Pool.{Pool}
use Rattle.day_model.specs.Facts.{DayFacts}
use Rattle.day_model.specs.Ranges.{AreInRange}
use Rattle.mark_cover.specs.Marking.{Marking, of_class}
use Rattle.mark_cover.specs.Minimal.{AreMinimal, AreSafe, IsOpenMark}
use Rattle.depot_network.specs.BlockMarks.{block_marking}
use Rattle.depot_network.specs.Network.{blocks_of}
use Rattle.duty_network.specs.Duties.{DutyFacts}
use Rattle.duty_network.specs.Ranges.{NetFits}
use Rattle.block_cover.specs.Laws.{marks-safe}
use Rattle.block_cover.specs.Seen.{MarkFits, mark_order as block_order}
use Rattle.label_cover.specs.Laws.{duty-safe}
use Rattle.label_cover.specs.Marked.{duty_marking, mark_order as duty_order}
use Rattle.label_cover.specs.Ranges.{MarkHasRanges}
use Rattle.plan_cert.specs.declared.cert.Cert.{Cert}
use Rattle.plan_cert.specs.declared.cert.CertPart.{CertPart}
use Rattle.plan_cert.specs.declared.cert.Pass.{Pass}
use Rattle.plan_cert.specs.declared.cert.Pass.TheVariants.{BlockNumber, BlockCost, DutyNumber, DutyCost}
use Rattle.plan_cert.specs.declared.fault.CertTable.TheVariants as which
use Rattle.plan_cert.specs.Names.{columns_of}
use Rattle.plan_cert.specs.Numbers.{pass_number}
use Rattle.plan_cert.specs.Shapes.{class_numbers_of, group_numbers_of, pool_numbers_of}
use Rattle.plan_cert.specs.Writing.{Row, all_block_rows, all_class_rows, all_duty_rows, all_price_rows, bit, block_row, block_rows, cert_table, class_rows, duty_row, duty_rows, four_tables, price_rows, tables_in, tables_of}
use Rattle.plan_cert.proofs.TableRows.{full-both, full-classes, full-map, full-prices}
use Rattle.plan_command.specs.Planning.{IsDualFeasible, duties_over}
use Rattle.plan_certify.specs.Certificate.{ArePaid, IsBlockPartOf, IsCertOf, IsDutyPartOf, duty_facts}
use Rattle.accepted_texts.proofs.FactNumbers.{HasNumbers, IsNumber, IsNumbered}
use Rattle.accepted_texts.proofs.LegNumbers.{both_each}
use Rattle.accepted_texts.proofs.PlanNumbers.{AreMiddle, IsMiddle, signed_rows_words}
use Rattle.accepted_texts.proofs.TextsBack.{HasWords, HaveWords}

-- What each step keeps holds of the marks of open lists, so of those of a least cover.
module _ {L : Type 0} (m : Marking L) (sound : L → Type 0) (safe : AreSafe m sound) where
  after_sound : (class : ℕ) (o : Option L) (xs : List ℕ) (b : L) → ((a : L) → o ≡ Some a → sound a) →
      label_after (of_class m class) o xs ≡ Some b → sound b
  after_sound class None xs b known e = absurd (cc)
  after_sound class (Some a) [] b known e = known b e
  after_sound class (Some a) (x ∷ xs) b known e = after_sound class (m.extend a x) xs b (λ c is. safe.steps a c x (known a refl) is) e

  list_sound : (class : ℕ) (list : List ℕ) (b : L) → label_of (of_class m class) list ≡ Some b → sound b
  list_sound class [] b e = absurd (cc)
  list_sound class (x ∷ xs) b e = after_sound class (m.start class x) xs b (λ a is. safe.starts class x a is) e

  open_sound : (a : L) → IsOpenMark m a → sound a
  open_sound a (class, there, list, has) = list_sound class list a has

  -- As in `check_answers`: the first label of a list has the property and each extension keeps it, so the marks of all open lists have
  -- it, by induction over the list, and a least cover has no marks but those. So no table of marks, however long, has to be looked at.
  least_sound : (order : L → L → Ordering) (marks : List L) → AreMinimal m order marks → AllByRecursion sound marks
  least_sound order marks least =
      recursion_from_All sound marks
      (λ k d there. open_sound (get_or marks k d) (least.only (get_or marks k d) (k, slice_get-get_or marks k d there)).0)

few_pass : (pass : Pass) → pass_number pass ≤ 4
few_pass BlockNumber = omega arith
few_pass BlockCost = omega arith
few_pass DutyNumber = omega arith
few_pass DutyCost = omega arith

natural : (n : ℕ) → n ≤ 9223372036854775807 → IsMiddle (pos n)
natural n h = (omega (arith, ints), omega (arith, ints, h))

pass_middle : (pass : Pass) → IsMiddle (pos (pass_number pass))
pass_middle pass = let few = few_pass pass in natural (pass_number pass) (omega (arith, few))

bit_row : (b : Bool) (row : Row) → AreMiddle row → AreMiddle (bit b ∷ row)
bit_row true row all = (natural 1 (omega arith), all)
bit_row false row all = (natural 0 (omega arith), all)

-- numbers of classes
index_number : (numbers : List ℕ) (k : ℕ) → AllByRecursion IsNumber numbers → IsNumber (slice_index numbers k)
index_number [] zero all = omega arith
index_number [] (suc k) all = omega arith
index_number (n ∷ numbers) zero all = all.0
index_number (n ∷ numbers) (suc k) all = index_number numbers k all.1

price_rows_middle : (pass : Pass) (place : ℕ) (prices : List Price) → place + length prices ≤ 3000 → AllWithin 3000000000000000 prices →
    AllByRecursion AreMiddle (price_rows pass place prices)
price_rows_middle pass place [] few within = tt
price_rows_middle pass place (p ∷ ps) few within =
    let low = within.0 in let high = within.1 in (
      (pass_middle pass, (natural (place + 1) (omega (arith, few)), ((omega (arith, ints, low), omega (arith, ints, high)), tt))),
      price_rows_middle pass (place + 1) ps (omega (arith, few)) within.2,
    )

class_rows_middle : (pass : Pass) (numbers : List ℕ) (class : ℕ) (prices : List ℤ) → AllByRecursion IsNumber numbers →
    AllByRecursion IsMiddle prices →
    AllByRecursion AreMiddle (class_rows pass numbers class prices)
class_rows_middle pass numbers class [] all middle = tt
class_rows_middle pass numbers class (z ∷ zs) all middle =
    let number = index_number numbers class all in (
      (pass_middle pass, (natural (slice_index numbers class) (omega (arith, number)), (middle.0, tt))),
      class_rows_middle pass numbers (class + 1) zs all middle.1,
    )

-- The value of a mark is bounded by the greatest price for each piece up to its last one and by what a duty may cost besides (`low`,
-- `high`), and there are at most 3,000 pieces; so it has 64 bits. All other fields are numbers of passes, classes, pieces and seconds,
-- which have few bits.
duty_rows_middle : (pass : Pass) (numbers : List ℕ) (count : ℕ) (marks : List Mark) → AllByRecursion IsNumber numbers →
    AllByRecursion (MarkHasRanges count) marks → AllByRecursion AreMiddle (duty_rows pass numbers marks)
duty_rows_middle pass numbers count [] all marks = tt
duty_rows_middle pass numbers count (m ∷ ms) all marks =
    let number = index_number numbers m.class all in
    let one = marks.0 in
    let piece = one.piece in let few = one.few in let early = one.early in let late = one.late in
    let driving = one.driving in let total = one.total in let low = one.low in let high = one.high in
    let value : AreMiddle (Some m.value ∷ []) = ((omega (arith, ints, piece, few, low), omega (arith, ints, piece, few, high)), tt) in (
      (
        pass_middle pass,
        (
          natural (slice_index numbers m.class) (omega (arith, number)),
          (
            natural (m.piece + 1) (omega (arith, piece, few)),
            (
              (omega (arith, ints, early), omega (arith, ints, late)),
              (
                natural m.driving (omega (arith, driving)),
                bit_row m.quarter (Some (pos m.total) ∷ bit m.three ∷ Some m.value ∷ [])
                    (natural m.total (omega (arith, total)), bit_row m.three (Some m.value ∷ []) value),
              ),
            ),
          ),
        ),
      ),
      duty_rows_middle pass numbers count ms all marks.1,
    )

block_rows_middle : (pass : Pass) (numbers : List ℕ) (count : ℕ) (marks : List BlockMark) → count ≤ 3000 → AllByRecursion IsNumber numbers →
    AllByRecursion (MarkFits count) marks → AllByRecursion AreMiddle (block_rows pass numbers marks)
block_rows_middle pass numbers count [] few all marks = tt
block_rows_middle pass numbers count (m ∷ ms) few all marks =
    let number = index_number numbers m.class all in
    let one = marks.0 in
    let trip = one.trip in let driving = one.driving in let low = one.low in let high = one.high in (
      (
        pass_middle pass,
        (
          natural (slice_index numbers m.class) (omega (arith, number)),
          (
            natural (m.trip + 1) (omega (arith, trip, few)),
            (natural m.driving (omega (arith, driving)), ((omega (arith, ints, trip, few, low), omega (arith, ints, trip, few, high)), tt)),
          ),
        ),
      ),
      block_rows_middle pass numbers count ms few all marks.1,
    )

-- The numbers of a certificate are those of passes, items and classes, kept prices and class prices, and the fields of marks. The marks
-- of a least cover are those of open lists, and what each step of a list keeps holds of them: at most 3,000 items, each with a price of
-- at most 3 * 10^15 and a bounded cost, keep a value within 64 bits.

-- the class prices of the four passes have 64 bits
pub record HaveMiddle (blocks duties : SidePlan) : Type 0 where
  pub block_number : AllByRecursion IsMiddle blocks.count.class_prices
  pub block_cost : AllByRecursion IsMiddle blocks.cost.class_prices
  pub duty_number : AllByRecursion IsMiddle duties.count.class_prices
  pub duty_cost : AllByRecursion IsMiddle duties.cost.class_prices

map_each : {A : Type 0} (f : A → ℕ) (xs : List A) → AllByRecursion (λ (x : A). IsNumber (f x)) xs → AllByRecursion IsNumber (map f xs)
map_each f [] all = tt
map_each f (x ∷ xs) all = (all.0, map_each f xs all.1)

pools_of : (pools : List Pool) → AllByRecursion IsNumbered pools → AllByRecursion (λ (pool : Pool). IsNumber pool.number) pools
pools_of [] all = tt
pools_of (pool ∷ pools) all = (all.0.0, pools_of pools all.1)

four_plain : (a b c d : Table) → is_plain_table a ≡ true → is_plain_table b ≡ true → is_plain_table c ≡ true → is_plain_table d ≡ true →
    are_plain (a ∷ b ∷ c ∷ d ∷ []) ≡ true
four_plain a b c d pa pb pc pd = rw (pa, pb, pc, pd) refl

module _ (facts : DayFacts) (numbers : HasNumbers facts) (in_range : AreInRange facts) (blocks duties : SidePlan)
    (net : (counts : Bool) → NetFits (duty_facts facts blocks.columns counts)) (paid : ArePaid facts blocks duties)
    (middle : HaveMiddle blocks duties)
    (cert : Cert) (is : IsCertOf facts blocks duties cert) where
  pool_numbers : AllByRecursion IsNumber (pool_numbers_of facts)
  pool_numbers =
      map_each (λ (pool : Pool). pool.number) facts.params.pools
      (pools_of facts.params.pools (recursion_from_All IsNumbered facts.params.pools numbers.pools))

  group_numbers : AllByRecursion IsNumber (group_numbers_of facts)
  group_numbers =
      map_each (λ (group : Group). group.number) facts.params.groups
      (recursion_from_All (λ (group : Group). IsNumber group.number) facts.params.groups numbers.groups)

  -- a part's prices and class prices are those that were kept
  prices_middle : (pass : Pass) (kept : Kept) (part : CertPart) → part.prices ≡ kept.prices → length kept.prices.items ≤ 3000 →
      AllWithin 3000000000000000 kept.prices.items → AllByRecursion AreMiddle (price_rows pass 0 part.prices.items)
  prices_middle pass kept part same few within =
      let P : Prices → Type 0 = λ q. AllByRecursion AreMiddle (price_rows pass 0 q.items) in
      subst P (sym same) (price_rows_middle pass 0 kept.prices.items (omega (arith, few)) within)

  charges_middle : (pass : Pass) (class_numbers : List ℕ) (kept : Kept) (part : CertPart) → part.class_prices ≡ kept.class_prices →
      AllByRecursion IsNumber class_numbers → AllByRecursion IsMiddle kept.class_prices →
      AllByRecursion AreMiddle (class_rows pass class_numbers 0 part.class_prices)
  charges_middle pass class_numbers kept part same all within =
      let P : List ℤ → Type 0 = λ zs. AllByRecursion AreMiddle (class_rows pass class_numbers 0 zs) in
      subst P (sym same) (class_rows_middle pass class_numbers 0 kept.class_prices all within)

  block_prices : (pass : Pass) (counts : Bool) (kept : Kept) (part : CertPart) → IsDualFeasible (blocks_of facts counts) kept →
      part.prices ≡ kept.prices →
      AllByRecursion AreMiddle (price_rows pass 0 part.prices.items)
  block_prices pass counts kept part feasible same =
      let count = feasible.prices.0 in let few = in_range.few in
      prices_middle pass kept part same (omega (arith, count, few)) feasible.prices.1

  duty_prices : (pass : Pass) (counts : Bool) (kept : Kept) (part : CertPart) →
      IsDualFeasible (duties_over facts blocks.columns counts) kept → part.prices ≡ kept.prices →
      AllByRecursion AreMiddle (price_rows pass 0 part.prices.items)
  duty_prices pass counts kept part feasible same =
      let count = feasible.prices.0 in let few = (net counts).few in
      prices_middle pass kept part same (omega (arith, count, few)) feasible.prices.1

  block_marks : (pass : Pass) (counts : Bool) (kept : Kept) (part : CertPart) → IsDualFeasible (blocks_of facts counts) kept →
      IsBlockPartOf facts counts kept part →
      AllByRecursion AreMiddle (block_rows pass (pool_numbers_of facts) part.blocks.marks)
  block_marks pass counts kept part feasible made =
      let marking = block_marking facts counts kept.prices.items in
      block_rows_middle pass (pool_numbers_of facts) (length facts.trips) part.blocks.marks in_range.few pool_numbers
      (least_sound marking (MarkFits (length facts.trips))
      (marks-safe facts counts kept.prices.items in_range.daily in_range.params.pools feasible.prices.1) block_order
      part.blocks.marks made.least)

  duty_marks : (pass : Pass) (counts : Bool) (kept : Kept) (part : CertPart) →
      IsDualFeasible (duties_over facts blocks.columns counts) kept →
      IsDutyPartOf (duty_facts facts blocks.columns counts) kept part →
      AllByRecursion AreMiddle (duty_rows pass (group_numbers_of facts) part.cover.marks)
  duty_marks pass counts kept part feasible made =
      let over : DutyFacts = duty_facts facts blocks.columns counts in
      let marking = duty_marking over kept.prices.items in
      duty_rows_middle pass (group_numbers_of facts) (length over.pieces) part.cover.marks group_numbers
      (least_sound marking (MarkHasRanges (length over.pieces)) (duty-safe over kept.prices.items (net counts) feasible.prices.1) duty_order
      part.cover.marks made.least)

  abbrev one : CertPart
  one = is.block_number

  abbrev two : CertPart
  two = is.block_cost

  abbrev three : CertPart
  three = is.duty_number

  abbrev four : CertPart
  four = is.duty_cost

  prices_words : HasWords (cert_table which.Prices (all_price_rows one two three four))
  prices_words =
      let r1 = price_rows BlockNumber 0 one.prices.items in
      let r2 = price_rows BlockCost 0 two.prices.items in
      let r3 = price_rows DutyNumber 0 three.prices.items in
      let r4 = price_rows DutyCost 0 four.prices.items in
      signed_rows_words (all_price_rows one two three four)
      (both_each AreMiddle ((r1 ++ r2) ++ r3) r4
      (both_each AreMiddle (r1 ++ r2) r3
      (both_each AreMiddle r1 r2 (block_prices BlockNumber true blocks.count one paid.block_number is.of_block_number.prices)
      (block_prices BlockCost false blocks.cost two paid.block_cost is.of_block_cost.prices))
      (duty_prices DutyNumber true duties.count three paid.duty_number is.of_duty_number.prices))
      (duty_prices DutyCost false duties.cost four paid.duty_cost is.of_duty_cost.prices))

  charges_words : HasWords (cert_table which.ClassPrices (all_class_rows (class_numbers_of facts) one two three four))
  charges_words =
      let pools = pool_numbers_of facts in
      let groups = group_numbers_of facts in
      let r1 = class_rows BlockNumber pools 0 one.class_prices in
      let r2 = class_rows BlockCost pools 0 two.class_prices in
      let r3 = class_rows DutyNumber groups 0 three.class_prices in
      let r4 = class_rows DutyCost groups 0 four.class_prices in
      signed_rows_words (all_class_rows (class_numbers_of facts) one two three four)
      (both_each AreMiddle ((r1 ++ r2) ++ r3) r4
      (both_each AreMiddle (r1 ++ r2) r3
      (both_each AreMiddle r1 r2
      (charges_middle BlockNumber pools blocks.count one is.of_block_number.class_prices pool_numbers middle.block_number)
      (charges_middle BlockCost pools blocks.cost two is.of_block_cost.class_prices pool_numbers middle.block_cost))
      (charges_middle DutyNumber groups duties.count three is.of_duty_number.class_prices group_numbers middle.duty_number))
      (charges_middle DutyCost groups duties.cost four is.of_duty_cost.class_prices group_numbers middle.duty_cost))

  duty_marks_words : HasWords (cert_table which.DutyMarks (all_duty_rows (class_numbers_of facts) three four))
  duty_marks_words =
      let groups = group_numbers_of facts in
      signed_rows_words (all_duty_rows (class_numbers_of facts) three four)
      (both_each AreMiddle (duty_rows DutyNumber groups three.cover.marks) (duty_rows DutyCost groups four.cover.marks)
      (duty_marks DutyNumber true duties.count three paid.duty_number is.of_duty_number)
      (duty_marks DutyCost false duties.cost four paid.duty_cost is.of_duty_cost))

  block_marks_words : HasWords (cert_table which.BlockMarks (all_block_rows (class_numbers_of facts) one two))
  block_marks_words =
      let pools = pool_numbers_of facts in
      signed_rows_words (all_block_rows (class_numbers_of facts) one two)
      (both_each AreMiddle (block_rows BlockNumber pools one.blocks.marks) (block_rows BlockCost pools two.blocks.marks)
      (block_marks BlockNumber true blocks.count one paid.block_number is.of_block_number)
      (block_marks BlockCost false blocks.cost two paid.block_cost is.of_block_cost))

  -- The four tables have rows of three kinds. Prices are at most 3 * 10^15, as each kept offer is dual feasible; class prices have 64
  -- bits by assumption (`HaveMiddle`, which `ClassPrices` shows of fixed rounds); marks are those of a least cover. With `cert_plain`
  -- the certificate's text is read back as these tables alone (`text_is`).
  pub cert_words : HaveWords (tables_of (class_numbers_of facts) cert)
  cert_words =
      let P : List CertPart → Type 0 = λ parts. HaveWords (tables_in (class_numbers_of facts) parts) in
      let words : HaveWords (four_tables (class_numbers_of facts) one two three four) =
      (prices_words, (charges_words, (duty_marks_words, (block_marks_words, tt)))) in
      subst P (sym is.parts) words

  pub cert_plain : are_plain (tables_of (class_numbers_of facts) cert) ≡ true
  cert_plain =
      let c = class_numbers_of facts in
      let P : List CertPart → Type 0 = λ parts. are_plain (tables_in c parts) ≡ true in
      let p1 = price_rows BlockNumber 0 one.prices.items in
      let p2 = price_rows BlockCost 0 two.prices.items in
      let p3 = price_rows DutyNumber 0 three.prices.items in
      let p4 = price_rows DutyCost 0 four.prices.items in
      let c1 = class_rows BlockNumber c.pools 0 one.class_prices in
      let c2 = class_rows BlockCost c.pools 0 two.class_prices in
      let c3 = class_rows DutyNumber c.groups 0 three.class_prices in
      let c4 = class_rows DutyCost c.groups 0 four.class_prices in
      let prices : List (List ℕ) = columns_of which.Prices in
      let classes : List (List ℕ) = columns_of which.ClassPrices in
      let duty_columns : List (List ℕ) = columns_of which.DutyMarks in
      let block_columns : List (List ℕ) = columns_of which.BlockMarks in
      let plain : are_plain (four_tables c one two three four) ≡ true =
      four_plain (cert_table which.Prices (all_price_rows one two three four))
      (cert_table which.ClassPrices (all_class_rows c one two three four))
      (cert_table which.DutyMarks (all_duty_rows c three four)) (cert_table which.BlockMarks (all_block_rows c one two))
      (plain_signed (codes "X_PREIS") prices (((p1 ++ p2) ++ p3) ++ p4) refl
      (full-both prices ((p1 ++ p2) ++ p3) p4
      (full-both prices (p1 ++ p2) p3
      (full-both prices p1 p2 (full-prices BlockNumber 0 one.prices.items) (full-prices BlockCost 0 two.prices.items))
      (full-prices DutyNumber 0 three.prices.items))
      (full-prices DutyCost 0 four.prices.items)))
      (plain_signed (codes "X_KLASSENPREIS") classes (((c1 ++ c2) ++ c3) ++ c4) refl
      (full-both classes ((c1 ++ c2) ++ c3) c4
      (full-both classes (c1 ++ c2) c3
      (full-both classes c1 c2 (full-classes BlockNumber c.pools 0 one.class_prices) (full-classes BlockCost c.pools 0 two.class_prices))
      (full-classes DutyNumber c.groups 0 three.class_prices))
      (full-classes DutyCost c.groups 0 four.class_prices)))
      (plain_signed (codes "X_MARKE") duty_columns (all_duty_rows c three four) refl
      (full-both duty_columns (duty_rows DutyNumber c.groups three.cover.marks) (duty_rows DutyCost c.groups four.cover.marks)
      (full-map duty_columns (λ (m : Mark). duty_row DutyNumber (slice_index c.groups m.class) m) three.cover.marks (λ m. refl))
      (full-map duty_columns (λ (m : Mark). duty_row DutyCost (slice_index c.groups m.class) m) four.cover.marks (λ m. refl))))
      (plain_signed (codes "X_UMARKE") block_columns (all_block_rows c one two) refl
      (full-both block_columns (block_rows BlockNumber c.pools one.blocks.marks) (block_rows BlockCost c.pools two.blocks.marks)
      (full-map block_columns (λ (m : BlockMark). block_row BlockNumber (slice_index c.pools m.class) m) one.blocks.marks (λ m. refl))
      (full-map block_columns (λ (m : BlockMark). block_row BlockCost (slice_index c.pools m.class) m) two.blocks.marks (λ m. refl)))) in
      subst P (sym is.parts) plain
