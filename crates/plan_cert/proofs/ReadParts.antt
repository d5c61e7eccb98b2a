-- A certificate that is read has four parts, with a price for each item and class, and with marks of classes and items that are there.
use Rattle.std.proofs.Common.{◌≡◌, ℕ, ℤ, List, [], ◌∷◌, All, length, map, refl, ap, ◌∙◌, subst}
use Rattle.std.proofs.lemmas.List.{length-map}
use Rattle.std.proofs.lemmas.List.Elements.{All-cons, All-nil}
use Rattle.std.specs.List.{filter_map}
use Rattle.std.specs.Prelude.{Option, Some, None, Result, Ok, Err}
use Rattle.vdv451_text.specs.declared.table.Field.{Field}
use Rattle.vdv451_text.specs.declared.table.Table.{Table}
use Rattle.plan_cert.specs.declared.cert.Cert.{Cert}
use Rattle.plan_cert.specs.declared.cert.Pass.{Pass}
use Rattle.plan_cert.specs.declared.cert.Pass.TheVariants.{BlockNumber, BlockCost, DutyNumber, DutyCost}
use Rattle.plan_cert.specs.declared.columns.PriceColumns.{PriceColumns}
use Rattle.plan_cert.specs.declared.fault.CertTable.{CertTable}
use Rattle.plan_cert.specs.declared.fault.CertTable.TheVariants as which
use Rattle.plan_cert.specs.declared.fault.Place.{Place}
use Rattle.plan_cert.specs.declared.prices.FourLists.{FourLists}
use Rattle.plan_cert.specs.declared.prices.Priced.{Priced}
use Rattle.plan_cert.specs.declared.prices.Priced.TheVariants.{Items, Classes}
use Rattle.plan_cert.specs.declared.shape.Shape.{Shape}
use Rattle.plan_cert.specs.declared.slots.Entry.{Entry}
use Rattle.plan_cert.specs.Certificates.{cert_from, price, read_of}
use Rattle.plan_cert.specs.Columns.{block_columns, duty_columns, price_columns}
use Rattle.plan_cert.specs.Entries.{block_entry, duty_entry}
use Rattle.plan_cert.specs.Laws.{AreParts, IsBlockMarkOf, IsMarkOf, IsModerate}
use Rattle.plan_cert.specs.Marks.{BlockMarks, block_marks_of, DutyMarks, duty_marks_of}
use Rattle.plan_cert.specs.Places.{◌>>=◌, first_wrong, needed, no_wrong, table_of}
use Rattle.plan_cert.specs.Prices.{all_there, count_for, entry_of, found_prices, found_slots, number_column, table_for, wrong_price}
use Rattle.plan_cert.specs.PriceTables.{four_of, prices_of}
use Rattle.plan_cert.proofs.Kept.{slots-long}
use Rattle.plan_cert.proofs.Found.{Each, IsModerateNumber, found-all, item-moderate, said-each, there-all}
use Rattle.plan_cert.proofs.FoundMarks.{all-blocks, all-duties}

-- what is read
abbrev pub answer : {A : Type 0} → A → Result A Place
answer x = Ok x

pub ok-same : {A : Type 0} (x y : A) → answer x ≡ answer y → x ≡ y
ok-same {A} x y e = let f : Result A Place → A = λ r. elim r [ Ok v ↦ v | Err p ↦ x ] in ap f e

-- what was made of an answer
pub record IsNext {A B : Type 0} (r : Result A Place) (f : A → Result B Place) (y : B) : Type 0 where
  pub value : A
  pub is : r ≡ Ok value
  pub made : f value ≡ Ok y

pub next : {A B : Type 0} (r : Result A Place) (f : A → Result B Place) (y : B) → (r >>= f) ≡ Ok y → IsNext r f y
next (Ok x) f y e = record { value = x; is = refl; made = e }
next (Err p) f y e = absurd (cc)

pub there : {A : Type 0} (t : CertTable) (o : Option A) (x : A) → needed t o ≡ Ok x → o ≡ Some x
there t None x e = absurd (cc)
there {A} t (Some y) x e = ap (λ (z : A). Some z) (ok-same y x e)

-- one list of prices
record IsList (P : ℤ → Type 0) (count : ℕ) (zs : List ℤ) : Type 0 where
  pub long : length zs ≡ count
  pub each : Each P zs

list-is : (P : ℤ → Type 0) (t : CertTable) (pass : Pass) (count : ℕ) (es : List Entry) (zs : List ℤ) → Each (λ (e : Entry). P e.price) es →
    length (found_prices count pass es) ≡ count →
    needed t (all_there (found_prices count pass es)) ≡ Ok zs → IsList P count zs
list-is P t pass count es zs each long e =
    let found = there-all P (found_prices count pass es) zs (there t (all_there (found_prices count pass es)) zs e)
    (found-all P pass 0 count es each) in
    record { long = found.long ∙ long; each = found.each }

-- the prices of the four passes
record AreLists (P : ℤ → Type 0) (count : Pass → ℕ) (four : FourLists) : Type 0 where
  pub one : IsList P (count BlockNumber) four.block_number
  pub two : IsList P (count BlockCost) four.block_cost
  pub three : IsList P (count DutyNumber) four.duty_number
  pub four_is : IsList P (count DutyCost) four.duty_cost

lists-are : (P : ℤ → Type 0) (t : CertTable) (count : Pass → ℕ) (es : List Entry) (four : FourLists) → Each (λ (e : Entry). P e.price) es →
    four_of t (found_slots count es) ≡ Ok four → AreLists P count four
lists-are P t count es four each e =
    let x = next (needed t (all_there (found_prices (count BlockNumber) BlockNumber es))) _ four e in
    let y = next (needed t (all_there (found_prices (count BlockCost) BlockCost es))) _ four x.made in
    let z = next (needed t (all_there (found_prices (count DutyNumber) DutyNumber es))) _ four y.made in
    let w = next (needed t (all_there (found_prices (count DutyCost) DutyCost es))) _ four z.made in
    let Q : FourLists → Type 0 = AreLists P count in
    subst Q (ok-same _ four w.made)
    (record {
      one = list-is P t BlockNumber (count BlockNumber) es x.value each (slots-long count es BlockNumber) x.is;
      two = list-is P t BlockCost (count BlockCost) es y.value each (slots-long count es BlockCost) y.is;
      three = list-is P t DutyNumber (count DutyNumber) es z.value each (slots-long count es DutyNumber) z.is;
      four_is = list-is P t DutyCost (count DutyCost) es w.value each (slots-long count es DutyCost) w.is;
    })

prices-are : (P : ℤ → Type 0) (kind : Priced) (s : Shape) (tables : List Table) (four : FourLists) →
    ((columns : PriceColumns) (row : List Field) (e : Entry) → entry_of kind s columns row ≡ Some e → P e.price) →
    prices_of kind s tables ≡ Ok four → AreLists P (count_for kind s) four
prices-are P kind s tables four has e =
    let x = next (table_of (table_for kind) tables) _ four e in
    let y = next (needed (table_for kind) (price_columns x.value.columns (number_column kind))) _ four x.made in
    let say = entry_of kind s y.value in
    let z = next (no_wrong (table_for kind) (wrong_price say [] 0 x.value.rows)) _ four y.made in
    lists-are P (table_for kind) (count_for kind s) (filter_map say x.value.rows) four
    (said-each (λ (e : Entry). P e.price) say x.value.rows (has y.value)) z.made

record AreDuties (s : Shape) (marks : DutyMarks) : Type 0 where
  pub of_number : Each (IsMarkOf s.pieces (length s.classes.groups)) marks.of_number
  pub of_cost : Each (IsMarkOf s.pieces (length s.classes.groups)) marks.of_cost

duties-are : (s : Shape) (tables : List Table) (marks : DutyMarks) → duty_marks_of s tables ≡ Ok marks → AreDuties s marks
duties-are s tables marks e =
    let x = next (table_of which.DutyMarks tables) _ marks e in
    let y = next (needed which.DutyMarks (duty_columns x.value.columns)) _ marks x.made in
    let z = next (no_wrong which.DutyMarks (first_wrong (duty_entry s y.value) x.value.rows)) _ marks y.made in
    subst (AreDuties s) (ok-same _ marks z.made)
    (record { of_number = all-duties s y.value DutyNumber x.value.rows; of_cost = all-duties s y.value DutyCost x.value.rows })

record AreBlocks (s : Shape) (marks : BlockMarks) : Type 0 where
  pub of_number : Each (IsBlockMarkOf s.trips (length s.classes.pools)) marks.of_number
  pub of_cost : Each (IsBlockMarkOf s.trips (length s.classes.pools)) marks.of_cost

blocks-are : (s : Shape) (tables : List Table) (marks : BlockMarks) → block_marks_of s tables ≡ Ok marks → AreBlocks s marks
blocks-are s tables marks e =
    let x = next (table_of which.BlockMarks tables) _ marks e in
    let y = next (needed which.BlockMarks (block_columns x.value.columns)) _ marks x.made in
    let z = next (no_wrong which.BlockMarks (first_wrong (block_entry s y.value) x.value.rows)) _ marks y.made in
    subst (AreBlocks s) (ok-same _ marks z.made)
    (record { of_number = all-blocks s y.value BlockNumber x.value.rows; of_cost = all-blocks s y.value BlockCost x.value.rows })

all-of : {A : Type 0} (P : A → Type 0) (xs : List A) → Each P xs → All P xs
all-of P [] each = All-nil P
all-of P (x ∷ xs) each = All-cons P x xs each.0 (all-of P xs each.1)

moderate-all : (zs : List ℤ) → Each IsModerateNumber zs → All IsModerate (map price zs)
moderate-all [] each = All-nil IsModerate
moderate-all (z ∷ zs) each =
    let head = each.0 in All-cons IsModerate (price z) (map price zs) (head.least, head.most) (moderate-all zs each.1)

abbrev Any : ℤ → Type 0
Any z = Unit {0}

part-is : (items classes : ℕ) (numbers class_prices : List ℤ) (part-of : IsList IsModerateNumber items numbers)
    (classes-of : IsList Any classes class_prices) → (length (map price numbers) ≡ items) × All IsModerate (map price numbers)
part-is items classes numbers class_prices part-of classes-of = (length-map numbers price ∙ part-of.long, moderate-all numbers part-of.each)

-- What is read has its parts, from wherever the tables come. Reading is opened from its end: where it succeeds each of its four steps
-- has (`next`), and so each table was there, had its columns and no wrong row. A price that is read was said by a row, which had to be
-- moderate (`said-each`); slots are as many as items, and all were filled. So the checker may use a certificate's prices, classes and
-- items untested.
pub parts-are : (s : Shape) (tables : List Table) (cert : Cert) → read_of s tables ≡ Ok cert → AreParts s cert.parts
parts-are s tables cert e =
    let x = next (prices_of Items s tables) _ cert e in
    let y = next (prices_of Classes s tables) _ cert x.made in
    let z = next (duty_marks_of s tables) _ cert y.made in
    let w = next (block_marks_of s tables) _ cert z.made in
    let ps = prices-are IsModerateNumber Items s tables x.value (item-moderate s) x.is in
    let cs = prices-are Any Classes s tables y.value (λ columns row e is. tt) y.is in
    let ds = duties-are s tables z.value z.is in
    let bs = blocks-are s tables w.value w.is in
    let p1 = part-is s.trips (length s.classes.pools) x.value.block_number y.value.block_number ps.one cs.one in
    let p2 = part-is s.trips (length s.classes.pools) x.value.block_cost y.value.block_cost ps.two cs.two in
    let p3 = part-is s.pieces (length s.classes.groups) x.value.duty_number y.value.duty_number ps.three cs.three in
    let p4 = part-is s.pieces (length s.classes.groups) x.value.duty_cost y.value.duty_cost ps.four_is cs.four_is in
    let P : Cert → Type 0 = λ c. AreParts s c.parts in
    subst P (ok-same (cert_from x.value y.value z.value w.value) cert w.made) (
      record {
        part_is = record { prices = p1.0; moderate = p1.1; class_prices = cs.one.long };
        marks =
            all-of (IsBlockMarkOf s.trips (length s.classes.pools)) w.value.of_number bs.of_number;
        none = refl;
      },
      record {
        part_is = record { prices = p2.0; moderate = p2.1; class_prices = cs.two.long };
        marks =
            all-of (IsBlockMarkOf s.trips (length s.classes.pools)) w.value.of_cost bs.of_cost;
        none = refl;
      },
      record {
        part_is = record { prices = p3.0; moderate = p3.1; class_prices = cs.three.long };
        marks =
            all-of (IsMarkOf s.pieces (length s.classes.groups)) z.value.of_number ds.of_number;
        none = refl;
      },
      record {
        part_is = record { prices = p4.0; moderate = p4.1; class_prices = cs.four_is.long };
        marks =
            all-of (IsMarkOf s.pieces (length s.classes.groups)) z.value.of_cost ds.of_cost;
        none = refl;
      },
    )
