-- Promise: the certificate that tables say, or the first place where they say none.
use Rattle.std.specs.Prelude.{ℤ, List, [], ◌∷◌, map, Result, Ok}
use Rattle.plan_core.specs.declared.types.Price.{Price}
use Rattle.vdv451_text.specs.declared.table.Table.{Table}
use Rattle.cover_core.specs.declared.Prices.{Prices}
use Rattle.cover_core.specs.declared.marks.Mark.{Mark}
use Rattle.cover_core.specs.declared.marks.BlockMark.{BlockMark}
use Rattle.plan_cert.specs.declared.cert.Cert.{Cert}
use Rattle.plan_cert.specs.declared.cert.CertPart.{CertPart}
use Rattle.plan_cert.specs.declared.fault.Place.{Place}
use Rattle.plan_cert.specs.declared.prices.FourLists.{FourLists}
use Rattle.plan_cert.specs.declared.prices.Priced.TheVariants.{Items, Classes}
use Rattle.plan_cert.specs.declared.shape.Shape.{Shape}
use Rattle.plan_cert.specs.Marks.{BlockMarks, block_marks_of, DutyMarks, duty_marks_of}
use Rattle.plan_cert.specs.Places.{◌>>=◌}
use Rattle.plan_cert.specs.PriceTables.{prices_of}

abbrev pub price : ℤ → Price
price z = record { 0 = z }

abbrev pub item_prices : List ℤ → Prices
item_prices numbers = record { items = map price numbers }

-- the part of a pass over blocks, whose cover of duties is empty
abbrev pub block_part : List ℤ → List ℤ → List BlockMark → CertPart
block_part numbers class_prices ms =
    record { prices = item_prices numbers; class_prices = class_prices; cover = record { marks = [] }; blocks = record { marks = ms } }

-- the part of a pass over duties, whose cover of blocks is empty
abbrev pub duty_part : List ℤ → List ℤ → List Mark → CertPart
duty_part numbers class_prices ms =
    record { prices = item_prices numbers; class_prices = class_prices; cover = record { marks = ms }; blocks = record { marks = [] } }

-- the four parts, in the order of the passes
abbrev pub cert_from : FourLists → FourLists → DutyMarks → BlockMarks → Cert
cert_from prices class_prices duties blocks = record {
  parts =
      block_part prices.block_number class_prices.block_number blocks.of_number ∷
      block_part prices.block_cost class_prices.block_cost blocks.of_cost ∷
      duty_part prices.duty_number class_prices.duty_number duties.of_number ∷
      duty_part prices.duty_cost class_prices.duty_cost duties.of_cost ∷ [];
}

-- Table by table: X_PREIS, X_KLASSENPREIS, X_MARKE, X_UMARKE.
abbrev pub read_of : Shape → List Table → Result Cert Place
read_of s tables = do
  prices ← prices_of Items s tables
  class_prices ← prices_of Classes s tables
  duties ← duty_marks_of s tables
  blocks ← block_marks_of s tables
  Ok (cert_from prices class_prices duties blocks)
