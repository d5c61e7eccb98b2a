-- Promise: the tables X_PREIS and X_KLASSENPREIS, read.
use Rattle.std.specs.Prelude.{List, [], Result, Ok}
use Rattle.std.specs.List.{filter_map}
use Rattle.vdv451_text.specs.declared.table.Field.{Field}
use Rattle.vdv451_text.specs.declared.table.Table.{Table}
use Rattle.plan_cert.specs.declared.columns.PriceColumns.{PriceColumns}
use Rattle.plan_cert.specs.declared.fault.CertTable.{CertTable}
use Rattle.plan_cert.specs.declared.fault.Place.{Place}
use Rattle.plan_cert.specs.declared.prices.FourLists.{FourLists}
use Rattle.plan_cert.specs.declared.prices.Priced.{Priced}
use Rattle.plan_cert.specs.declared.shape.Shape.{Shape}
use Rattle.plan_cert.specs.declared.slots.Slots.{Slots}
use Rattle.plan_cert.specs.Columns.{price_columns}
use Rattle.plan_cert.specs.Places.{◌>>=◌, needed, no_wrong, table_of}
use Rattle.plan_cert.specs.Prices.{all_there, count_for, entry_of, found_slots, number_column, table_for, wrong_price}

-- the prices of the four passes; where one is missing the table is wrong as a whole
abbrev pub four_of : CertTable → Slots → Result FourLists Place
four_of t slots = do
  one ← needed t (all_there slots.block_number)
  two ← needed t (all_there slots.block_cost)
  three ← needed t (all_there slots.duty_number)
  four ← needed t (all_there slots.duty_cost)
  Ok (record { block_number = one; block_cost = two; duty_number = three; duty_cost = four })

-- the prices that rows give: each row gives another price, and none is missing
abbrev pub prices_in : Priced → Shape → PriceColumns → List (List Field) → Result FourLists Place
prices_in kind s columns rows = do
  none ← no_wrong (table_for kind) (wrong_price (entry_of kind s columns) [] 0 rows)
  four_of (table_for kind) (found_slots (count_for kind s) (filter_map (entry_of kind s columns) rows))

-- the prices that the table of items or classes gives, which stands once and has its columns
abbrev pub prices_of : Priced → Shape → List Table → Result FourLists Place
prices_of kind s tables = do
  table ← table_of (table_for kind) tables
  columns ← needed (table_for kind) (price_columns table.columns (number_column kind))
  prices_in kind s columns table.rows
