-- Promise: where the columns of the tables of a certificate stand; of two columns of one name the first counts.
use Rattle.std.specs.Prelude.{ℕ, List, Option, Some, codes}
use Rattle.vdv451_text.specs.declared.table.Head.{Head}
use Rattle.vdv452_rows.specs.Rows.{place_of}
use Rattle.plan_cert.specs.declared.columns.PriceColumns.{PriceColumns}
use Rattle.plan_cert.specs.declared.columns.PlaceColumns.{PlaceColumns}
use Rattle.plan_cert.specs.declared.columns.DrivingColumns.{DrivingColumns}
use Rattle.plan_cert.specs.declared.columns.DutyColumns.{DutyColumns}
use Rattle.plan_cert.specs.declared.columns.BlockColumns.{BlockColumns}
use Rattle.plan_cert.specs.Numbers.{◌>>=◌}

-- ART, a column that numbers what has the price, PREIS
abbrev pub price_columns : List Head → List ℕ → Option PriceColumns
price_columns heads name = do
  pass ← place_of (codes "ART") heads
  number ← place_of name heads
  price ← place_of (codes "PREIS") heads
  Some (record { pass = pass; number = number; price = price })

-- ART, and the columns of a class and an item
abbrev pub place_columns : List Head → List ℕ → List ℕ → Option PlaceColumns
place_columns heads class_name item_name = do
  pass ← place_of (codes "ART") heads
  class ← place_of class_name heads
  item ← place_of item_name heads
  Some (record { pass = pass; class = class; item = item })

-- LENK, VIERTEL, GESAMT, DREI
abbrev pub driving_columns : List Head → Option DrivingColumns
driving_columns heads = do
  driving ← place_of (codes "LENK") heads
  quarter ← place_of (codes "VIERTEL") heads
  total ← place_of (codes "GESAMT") heads
  three ← place_of (codes "DREI") heads
  Some (record { driving = driving; quarter = quarter; total = total; three = three })

-- X_MARKE: ART, GRUPPE_NR, STUECK, BEGINN, LENK, VIERTEL, GESAMT, DREI, WERT
abbrev pub duty_columns : List Head → Option DutyColumns
duty_columns heads = do
  place ← place_columns heads (codes "GRUPPE_NR") (codes "STUECK")
  start ← place_of (codes "BEGINN") heads
  driven ← driving_columns heads
  value ← place_of (codes "WERT") heads
  Some (record { place = place; start = start; driven = driven; value = value })

-- X_UMARKE: ART, HOF_NR, LFD_NR, LENK, WERT
abbrev pub block_columns : List Head → Option BlockColumns
block_columns heads = do
  place ← place_columns heads (codes "HOF_NR") (codes "LFD_NR")
  driving ← place_of (codes "LENK") heads
  value ← place_of (codes "WERT") heads
  Some (record { place = place; driving = driving; value = value })
