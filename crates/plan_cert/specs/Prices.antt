-- Promise: the prices that the rows of X_PREIS and X_KLASSENPREIS give.
use Rattle.std.specs.Prelude.{ℕ, ℤ, ◌+◌, ◌&&◌, Bool, nat_eq, List, [], ◌∷◌, ◌++◌, length, map, Option, Some, None, is_some, if◌then◌else◌, slice_index_or, slice_set, codes}
use Rattle.std.specs.List.{filter_map, list_all, range_with_len}
use Rattle.vdv451_text.specs.declared.table.Field.{Field}
use Rattle.plan_cert.specs.declared.cert.Pass.{Pass}
use Rattle.plan_cert.specs.declared.cert.Pass.TheVariants.{BlockNumber, BlockCost, DutyNumber, DutyCost}
use Rattle.plan_cert.specs.declared.columns.PriceColumns.{PriceColumns}
use Rattle.plan_cert.specs.declared.fault.CertTable.{CertTable}
use Rattle.plan_cert.specs.declared.fault.CertTable.TheVariants as which
use Rattle.plan_cert.specs.declared.prices.Priced.{Priced}
use Rattle.plan_cert.specs.declared.prices.Priced.TheVariants.{Items, Classes}
use Rattle.plan_cert.specs.declared.shape.Shape.{Shape}
use Rattle.plan_cert.specs.declared.slots.Entry.{Entry}
use Rattle.plan_cert.specs.declared.slots.Slots.{Slots}
use Rattle.number_tables.specs.Outlines.{number_at}
use Rattle.plan_cert.specs.Numbers.{◌>>=◌, any_pass, class_among, counted, moderate, same_pass}
use Rattle.plan_cert.specs.Shapes.{items_of, numbers_in}

-- the table of prices of items or of classes, and the column that numbers these
abbrev pub table_for : Priced → CertTable
table_for Items = which.Prices
table_for Classes = which.ClassPrices

abbrev pub number_column : Priced → List ℕ
number_column Items = codes "LFD_NR"
number_column Classes = codes "KLASSE"

-- how many prices a pass has
abbrev pub count_for : Priced → Shape → Pass → ℕ
count_for Items s pass = items_of s pass
count_for Classes s pass = length (numbers_in s.classes pass)

abbrev pub entry : Pass → ℕ → ℤ → Entry
entry pass number price = record { pass = pass; number = number; price = price }

-- ART, LFD_NR, PREIS
abbrev pub item_entry : Shape → PriceColumns → List Field → Option Entry
item_entry s columns row = do
  pass ← any_pass (number_at row columns.pass)
  number ← counted (items_of s pass) (number_at row columns.number)
  price ← moderate (number_at row columns.price)
  Some (entry pass number price)

-- ART, KLASSE, PREIS
abbrev pub class_entry : Shape → PriceColumns → List Field → Option Entry
class_entry s columns row = do
  pass ← any_pass (number_at row columns.pass)
  number ← class_among (numbers_in s.classes pass) (number_at row columns.number)
  price ← number_at row columns.price
  Some (entry pass number price)

abbrev pub entry_of : Priced → Shape → PriceColumns → List Field → Option Entry
entry_of Items s columns row = item_entry s columns row
entry_of Classes s columns row = class_entry s columns row

abbrev pub is_of : Pass → ℕ → Entry → Bool
is_of pass number e = same_pass e.pass pass && nat_eq e.number number

-- the first price of a number in a pass
abbrev pub found_price : Pass → ℕ → List Entry → Option ℤ
found_price pass number [] = None
found_price pass number (e ∷ es) = if is_of pass number e then Some e.price else found_price pass number es

-- the prices of the first numbers in a pass
abbrev pub found_prices : ℕ → Pass → List Entry → List (Option ℤ)
found_prices count pass entries = map (λ number. found_price pass number entries) (range_with_len 0 count)

-- The first row, counted on from this one, that gives no price, or gives one that stands among those before.
abbrev pub wrong_price : (List Field → Option Entry) → List Entry → ℕ → List (List Field) → Option ℕ
wrong_price say before place [] = None
wrong_price say before place (row ∷ rows) = elim (say row) [
  | None ↦ Some place
  | Some e ↦ if is_some (found_price e.pass e.number before) then Some place else wrong_price say (before ++ e ∷ []) (place + 1) rows
]

-- all values, where none is missing
abbrev pub all_there : {A : Type 0} → List (Option A) → Option (List A)
all_there os = if list_all is_some os then Some (filter_map (λ o. o) os) else None

-- the prices of the four passes, as far as they were found
abbrev pub found_slots : (Pass → ℕ) → List Entry → Slots
found_slots count entries = record {
  block_number = found_prices (count BlockNumber) BlockNumber entries;
  block_cost = found_prices (count BlockCost) BlockCost entries;
  duty_number = found_prices (count DutyNumber) DutyNumber entries;
  duty_cost = found_prices (count DutyCost) DutyCost entries;
}

-- The prices as they are kept while rows are read.
abbrev pub slots_in : Slots → Pass → List (Option ℤ)
slots_in s BlockNumber = s.block_number
slots_in s BlockCost = s.block_cost
slots_in s DutyNumber = s.duty_number
slots_in s DutyCost = s.duty_cost

abbrev pub slot_at : Slots → Pass → ℕ → Option ℤ
slot_at s pass number = slice_index_or (slots_in s pass) number None

abbrev pub with_slot : Slots → Pass → ℕ → ℤ → Slots
with_slot s BlockNumber number price = record s { block_number = slice_set s.block_number number (Some price) }
with_slot s BlockCost number price = record s { block_cost = slice_set s.block_cost number (Some price) }
with_slot s DutyNumber number price = record s { duty_number = slice_set s.duty_number number (Some price) }
with_slot s DutyCost number price = record s { duty_cost = slice_set s.duty_cost number (Some price) }
