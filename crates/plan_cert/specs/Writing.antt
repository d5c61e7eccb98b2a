-- Promise: the tables of a certificate.
use Rattle.std.specs.Prelude.{◌≡◌, ℕ, ℤ, pos, ◌+◌, ◌<◌, Bool, true, false, List, [], ◌∷◌, ◌++◌, length, map, All, Option, Some, slice_index}
use Rattle.plan_core.specs.declared.types.Price.{Price}
use Rattle.vdv451_text.specs.declared.table.Table.{Table}
use Rattle.number_tables.specs.Signed.{signed_table}
use Rattle.cover_core.specs.declared.marks.Mark.{Mark}
use Rattle.cover_core.specs.declared.marks.BlockMark.{BlockMark}
use Rattle.plan_cert.specs.declared.cert.Cert.{Cert}
use Rattle.plan_cert.specs.declared.cert.CertPart.{CertPart}
use Rattle.plan_cert.specs.declared.cert.Pass.{Pass}
use Rattle.plan_cert.specs.declared.cert.Pass.TheVariants.{BlockNumber, BlockCost, DutyNumber, DutyCost}
use Rattle.plan_cert.specs.declared.fault.CertTable.{CertTable}
use Rattle.plan_cert.specs.declared.fault.CertTable.TheVariants as which
use Rattle.plan_cert.specs.declared.shape.ClassNumbers.{ClassNumbers}
use Rattle.plan_cert.specs.Names.{columns_of, name_of}
use Rattle.plan_cert.specs.Numbers.{pass_number}
use Rattle.plan_cert.specs.Shapes.{numbers_in}

abbrev pub Row : Type 0
Row = List (Option ℤ)

abbrev pub whole : ℕ → Option ℤ
whole n = Some (pos n)

abbrev pub pass_field : Pass → Option ℤ
pass_field pass = whole (pass_number pass)

abbrev pub bit : Bool → Option ℤ
bit true = whole 1
bit false = whole 0

-- the pass, the item from 1, its price
abbrev pub price_row : Pass → ℕ → Price → Row
price_row pass place p = pass_field pass ∷ whole (place + 1) ∷ Some p.0 ∷ []

-- of prices whose items are counted on from this one
abbrev pub price_rows : Pass → ℕ → List Price → List Row
price_rows pass place [] = []
price_rows pass place (p ∷ ps) = price_row pass place p ∷ price_rows pass (place + 1) ps

-- the pass, HOF_NR or GRUPPE_NR, the price of the class
abbrev pub class_row : Pass → ℕ → ℤ → Row
class_row pass number price = pass_field pass ∷ whole number ∷ Some price ∷ []

-- of prices whose classes are counted on from this one, with the numbers of all classes
abbrev pub class_rows : Pass → List ℕ → ℕ → List ℤ → List Row
class_rows pass numbers class [] = []
class_rows pass numbers class (price ∷ prices) =
    class_row pass (slice_index numbers class) price ∷ class_rows pass numbers (class + 1) prices

-- the pass, GRUPPE_NR, the piece from 1, sign-on, driving, quarter, total, three, value
abbrev pub duty_row : Pass → ℕ → Mark → Row
duty_row pass number m =
    pass_field pass ∷ whole number ∷ whole (m.piece + 1) ∷ Some m.start.0 ∷ whole m.driving ∷ bit m.quarter ∷ whole m.total
    ∷ bit m.three ∷ Some m.value ∷ []

abbrev pub duty_rows : Pass → List ℕ → List Mark → List Row
duty_rows pass numbers marks = map (λ (m : Mark). duty_row pass (slice_index numbers m.class) m) marks

-- the pass, HOF_NR, the trip from 1, driving, value
abbrev pub block_row : Pass → ℕ → BlockMark → Row
block_row pass number m = pass_field pass ∷ whole number ∷ whole (m.trip + 1) ∷ whole m.driving ∷ Some m.value ∷ []

abbrev pub block_rows : Pass → List ℕ → List BlockMark → List Row
block_rows pass numbers marks = map (λ (m : BlockMark). block_row pass (slice_index numbers m.class) m) marks

-- the marks of a part, of blocks or of duties as its pass is
abbrev pub mark_rows : ClassNumbers → Pass → CertPart → List Row
mark_rows c BlockNumber part = block_rows BlockNumber c.pools part.blocks.marks
mark_rows c BlockCost part = block_rows BlockCost c.pools part.blocks.marks
mark_rows c DutyNumber part = duty_rows DutyNumber c.groups part.cover.marks
mark_rows c DutyCost part = duty_rows DutyCost c.groups part.cover.marks

abbrev pub cert_table : CertTable → List Row → Table
cert_table t rows = signed_table (name_of t) (columns_of t) rows

abbrev pub all_price_rows : CertPart → CertPart → CertPart → CertPart → List Row
all_price_rows one two three four =
    price_rows BlockNumber 0 one.prices.items ++ price_rows BlockCost 0 two.prices.items ++ price_rows DutyNumber 0 three.prices.items
    ++ price_rows DutyCost 0 four.prices.items

abbrev pub all_class_rows : ClassNumbers → CertPart → CertPart → CertPart → CertPart → List Row
all_class_rows c one two three four =
    class_rows BlockNumber c.pools 0 one.class_prices ++ class_rows BlockCost c.pools 0 two.class_prices
    ++ class_rows DutyNumber c.groups 0 three.class_prices ++ class_rows DutyCost c.groups 0 four.class_prices

abbrev pub all_duty_rows : ClassNumbers → CertPart → CertPart → List Row
all_duty_rows c three four = duty_rows DutyNumber c.groups three.cover.marks ++ duty_rows DutyCost c.groups four.cover.marks

abbrev pub all_block_rows : ClassNumbers → CertPart → CertPart → List Row
all_block_rows c one two = block_rows BlockNumber c.pools one.blocks.marks ++ block_rows BlockCost c.pools two.blocks.marks

-- The four tables of a certificate, pass by pass; marks stand in their order. What has not four parts has no tables.
abbrev pub four_tables : ClassNumbers → CertPart → CertPart → CertPart → CertPart → List Table
four_tables c one two three four =
    cert_table which.Prices (all_price_rows one two three four) ∷ cert_table which.ClassPrices (all_class_rows c one two three four) ∷
    cert_table which.DutyMarks (all_duty_rows c three four) ∷ cert_table which.BlockMarks (all_block_rows c one two) ∷ []

abbrev pub tables_in : ClassNumbers → List CertPart → List Table
tables_in c (one ∷ two ∷ three ∷ four ∷ []) = four_tables c one two three four
tables_in c _ = []

abbrev pub tables_of : ClassNumbers → Cert → List Table
tables_of c cert = tables_in c cert.parts

-- A part has a price for each class of its pass, and the classes of its marks are there.
pub record HasClasses (c : ClassNumbers) (pass : Pass) (part : CertPart) : Type 0 where
  pub prices : length part.class_prices ≡ length (numbers_in c pass)
  pub duties : All (λ (m : Mark). m.class < length c.groups) part.cover.marks
  pub blocks : All (λ (m : BlockMark). m.class < length c.pools) part.blocks.marks

-- four parts, one for each pass, with their classes
abbrev pub HaveClasses : ClassNumbers → List CertPart → Type 0
HaveClasses c (one ∷ two ∷ three ∷ four ∷ []) =
    HasClasses c BlockNumber one × HasClasses c BlockCost two × HasClasses c DutyNumber three × HasClasses c DutyCost four
HaveClasses c _ = ⊥
