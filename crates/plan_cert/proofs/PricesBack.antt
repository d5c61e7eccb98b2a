-- Prices that are written are read back.
use Rattle.std.proofs.Common.{◌≡◌, ℕ, ℤ, ◌+◌, ◌<◌, ◌≤◌, List, [], ◌∷◌, ◌++◌, All, length, map, refl, sym, ap, ◌∙◌, arith}
use Rattle.std.proofs.lemmas.List.Elements.{All-head, All-tail}
use Rattle.std.specs.List.{range_with_len}
use Rattle.std.specs.Prelude.{Option, Some, None, Ok, AllPairs, slice_index}
use Rattle.plan_core.specs.declared.types.Price.{Price}
use Rattle.number_tables.specs.Signed.{signed_row, signed_rows}
use Rattle.plan_cert.specs.declared.cert.Pass.{Pass}
use Rattle.plan_cert.specs.declared.cert.Pass.TheVariants.{BlockNumber, BlockCost, DutyNumber, DutyCost}
use Rattle.plan_cert.specs.declared.columns.PriceColumns.{PriceColumns}
use Rattle.plan_cert.specs.declared.fault.CertTable.{CertTable}
use Rattle.plan_cert.specs.declared.prices.Priced.TheVariants.{Items, Classes}
use Rattle.plan_cert.specs.declared.shape.Shape.{Shape}
use Rattle.plan_cert.specs.declared.slots.Entry.{Entry}
use Rattle.plan_cert.specs.declared.slots.Slots.{Slots}
use Rattle.plan_cert.specs.Numbers.{◌>>=◌, class_among, counted, moderate}
use Rattle.plan_cert.specs.Prices.{class_entry, entry, entry_of, found_price, found_prices, found_slots, item_entry}
use Rattle.plan_cert.specs.PriceTables.{four_of}
use Rattle.plan_cert.specs.Shapes.{items_of, numbers_in}
use Rattle.plan_cert.specs.Writing.{class_row, class_rows, price_row, price_rows, whole}
use Rattle.plan_cert.proofs.Lists.{same-on}
use Rattle.plan_cert.proofs.Says.{AreNew, Says, entries, found-left, found-right, new-both, other-none, own-found, rising-new, there}
use Rattle.plan_cert.proofs.FieldsBack.{class-back, counted-back, pass-back}

-- the entries of the four passes
abbrev pub all_entries : List ℤ → List ℤ → List ℤ → List ℤ → List Entry
all_entries one two three four =
    entries BlockNumber 0 one ++ (entries BlockCost 0 two ++ (entries DutyNumber 0 three ++ entries DutyCost 0 four))

-- No price of the four passes is given twice: within a pass the numbers rise (`rising-new`), and in the passes before nothing of this
-- pass is found (`other-none`). So no row of what is written is wrong.
pub all-new : (one two three four : List ℤ) → AreNew [] (all_entries one two three four)
all-new one two three four =
    let e1 = entries BlockNumber 0 one in
    let e2 = entries BlockCost 0 two in
    let e3 = entries DutyNumber 0 three in
    let e4 = entries DutyCost 0 four in
    let none12 : (n : ℕ) → found_price DutyCost n (e1 ++ e2) ≡ None =
    λ n. found-right DutyCost n e1 e2 (other-none BlockNumber DutyCost n 0 one refl) ∙ other-none BlockCost DutyCost n 0 two refl in
    new-both [] e1 (e2 ++ (e3 ++ e4)) (rising-new [] BlockNumber 0 one (λ n above. refl))
    (new-both e1 e2 (e3 ++ e4) (rising-new e1 BlockCost 0 two (λ n above. other-none BlockNumber BlockCost n 0 one refl))
    (new-both (e1 ++ e2) e3 e4
    (rising-new (e1 ++ e2) DutyNumber 0 three
    (λ n above. found-right DutyNumber n e1 e2 (other-none BlockNumber DutyNumber n 0 one refl)
    ∙ other-none BlockCost DutyNumber n 0 two refl))
    (rising-new ((e1 ++ e2) ++ e3) DutyCost 0 four (λ n above. found-right DutyCost n (e1 ++ e2) e3 (none12 n)
    ∙ other-none DutyNumber DutyCost n 0 three refl))))

abbrev there_all : List ℤ → List (Option ℤ)
there_all zs = map (λ (z : ℤ). Some z) zs

-- where nothing else is found of a pass, its prices are found
own-slots : (es : List Entry) (pass : Pass) (count : ℕ) (zs : List ℤ) →
    ((n : ℕ) → found_price pass n es ≡ found_price pass n (entries pass 0 zs)) → length zs ≡ count →
    found_prices count pass es ≡ there_all zs
own-slots es pass count zs same long =
    same-on (λ n. found_price pass n es) (λ n. found_price pass n (entries pass 0 zs)) 0 count same
    ∙ (ap (λ (c : ℕ). map (λ n. found_price pass n (entries pass 0 zs)) (range_with_len 0 c)) (sym long) ∙ own-found pass 0 zs)

-- All prices are found in their slots. Of the four lists of entries, one behind the other, three say nothing of a pass, so what is
-- found is found in its own list (`own-slots`), under the numbers from 0 on. As each list is as long as its pass has items or classes,
-- all slots are filled, and `four-back` makes lists of them.
pub all-slots : (count : Pass → ℕ) (one two three four : List ℤ) → length one ≡ count BlockNumber → length two ≡ count BlockCost →
    length three ≡ count DutyNumber → length four ≡ count DutyCost →
    found_slots count (all_entries one two three four) ≡ record {
      block_number = there_all one;
      block_cost = there_all two;
      duty_number =
          there_all three;
      duty_cost = there_all four;
    }
all-slots count one two three four long1 long2 long3 long4 =
    let e1 = entries BlockNumber 0 one in
    let e2 = entries BlockCost 0 two in
    let e3 = entries DutyNumber 0 three in
    let e4 = entries DutyCost 0 four in
    let all = all_entries one two three four in
    let s1 = own-slots all BlockNumber (count BlockNumber) one
    (λ n. found-left BlockNumber n e1 (e2 ++ (e3 ++ e4))
    (found-right BlockNumber n e2 (e3 ++ e4) (other-none BlockCost BlockNumber n 0 two refl)
    ∙ (found-right BlockNumber n e3 e4 (other-none DutyNumber BlockNumber n 0 three refl) ∙ other-none DutyCost BlockNumber n 0 four refl)))
    long1 in
    let s2 = own-slots all BlockCost (count BlockCost) two
    (λ n. found-right BlockCost n e1 (e2 ++ (e3 ++ e4)) (other-none BlockNumber BlockCost n 0 one refl)
    ∙ found-left BlockCost n e2 (e3 ++ e4) (found-right BlockCost n e3 e4 (other-none DutyNumber BlockCost n 0 three refl)
    ∙ other-none DutyCost BlockCost n 0 four refl)) long2 in
    let s3 = own-slots all DutyNumber (count DutyNumber) three
    (λ n. found-right DutyNumber n e1 (e2 ++ (e3 ++ e4)) (other-none BlockNumber DutyNumber n 0 one refl)
    ∙ (found-right DutyNumber n e2 (e3 ++ e4) (other-none BlockCost DutyNumber n 0 two refl)
    ∙ found-left DutyNumber n e3 e4 (other-none DutyCost DutyNumber n 0 four refl))) long3 in
    let s4 = own-slots all DutyCost (count DutyCost) four
    (λ n. found-right DutyCost n e1 (e2 ++ (e3 ++ e4)) (other-none BlockNumber DutyCost n 0 one refl)
    ∙ (found-right DutyCost n e2 (e3 ++ e4) (other-none BlockCost DutyCost n 0 two refl)
    ∙ found-right DutyCost n e3 e4 (other-none DutyNumber DutyCost n 0 three refl))) long4 in
    let make : List (Option ℤ) → List (Option ℤ) → List (Option ℤ) → List (Option ℤ) → Slots =
    λ a b c d. record { block_number = a; block_cost = b; duty_number = c; duty_cost = d } in
    let f1 = found_prices (count BlockNumber) BlockNumber all in
    let f2 = found_prices (count BlockCost) BlockCost all in
    let f3 = found_prices (count DutyNumber) DutyNumber all in
    ap (λ d. make f1 f2 f3 d) s4
    ∙ (ap (λ c. make f1 f2 c (there_all four)) s3
    ∙ (ap (λ b. make f1 b (there_all three) (there_all four)) s2 ∙ ap (λ a. make a (there_all two) (there_all three) (there_all four)) s1))

pub four-back : (t : CertTable) (one two three four : List ℤ) →
    four_of t (record {
      block_number = there_all one;
      block_cost = there_all two;
      duty_number =
          there_all three;
      duty_cost = there_all four;
    }) ≡
    Ok (record { block_number = one; block_cost = two; duty_number = three; duty_cost = four })
four-back t one two three four = rw (there one, there two, there three, there four) refl

-- where the three columns of prices stand
abbrev pub three_columns : PriceColumns
three_columns = record { pass = 0; number = 1; price = 2 }

abbrev pub raw : Price → ℤ
raw p = p.0

item-row : (s : Shape) (pass : Pass) (place : ℕ) (p : Price) → place < items_of s pass → moderate (Some p.0) ≡ Some p.0 →
    item_entry s three_columns (signed_row (price_row pass place p)) ≡ Some (entry pass place p.0)
item-row s pass place p below kept =
    let f : Option Pass → Option Entry =
    λ o. o >>= λ q. counted (items_of s q) (whole (place + 1)) >>= λ n. moderate (Some p.0) >>= λ z. Some (entry q n z) in
    let g : Option ℕ → Option Entry = λ o. o >>= λ n. moderate (Some p.0) >>= λ z. Some (entry pass n z) in
    let h : Option ℤ → Option Entry = λ o. o >>= λ z. Some (entry pass place z) in
    ap f (pass-back pass) ∙ (ap g (counted-back (items_of s pass) place below) ∙ ap h kept)

-- the rows of prices of items say them
pub items-say : (s : Shape) (pass : Pass) (place : ℕ) (ps : List Price) → place + length ps ≤ items_of s pass →
    All (λ (p : Price). moderate (Some p.0) ≡ Some p.0) ps →
    Says (entry_of Items s three_columns) (signed_rows (price_rows pass place ps)) (entries pass place (map raw ps))
items-say s pass place [] few kept = tt
items-say s pass place (p ∷ ps) few kept = (
  item-row s pass place p (omega arith) (All-head (λ (q : Price). moderate (Some q.0) ≡ Some q.0) p ps kept),
  items-say s pass (place + 1) ps (omega arith) (All-tail (λ (q : Price). moderate (Some q.0) ≡ Some q.0) p ps kept),
)

class-row : (s : Shape) (pass : Pass) (class number : ℕ) (z : ℤ) → class_among (numbers_in s.classes pass) (whole number) ≡ Some class →
    class_entry s three_columns (signed_row (class_row pass number z)) ≡ Some (entry pass class z)
class-row s pass class number z found =
    let f : Option Pass → Option Entry = λ o. o >>= λ q. class_among (numbers_in s.classes q) (whole number) >>= λ n. Some (entry q n z) in
    let g : Option ℕ → Option Entry = λ o. o >>= λ n. Some (entry pass n z) in
    ap f (pass-back pass) ∙ ap g found

-- The rows of class prices, each with the number of its class, say the classes in order: numbers rise, so each stands once among them,
-- and the row gives the very class that it was written for (`class-back`).
pub classes-say : (s : Shape) (pass : Pass) (class : ℕ) (zs : List ℤ) → class + length zs ≤ length (numbers_in s.classes pass) →
    AllPairs (λ (earlier later : ℕ). earlier < later) (numbers_in s.classes pass) →
    Says (entry_of Classes s three_columns) (signed_rows (class_rows pass (numbers_in s.classes pass) class zs)) (entries pass class zs)
classes-say s pass class [] few rise = tt
classes-say s pass class (z ∷ zs) few rise = (
  class-row s pass class (slice_index (numbers_in s.classes pass) class) z
      (class-back (numbers_in s.classes pass) class rise (omega arith)),
  classes-say s pass (class + 1) zs (omega arith) rise,
)
