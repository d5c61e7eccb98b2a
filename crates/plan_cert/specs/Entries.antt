-- Promise: what the rows of marks say.
use Rattle.std.specs.Prelude.{ℕ, ℤ, ◌+◌, ◌==◌, List, Option, Some, None, if◌then◌else◌}
use Rattle.vdv451_text.specs.declared.table.Field.{Field}
use Rattle.number_tables.specs.Outlines.{number_at, word}
use Rattle.cover_core.specs.declared.marks.Mark.{Mark}
use Rattle.cover_core.specs.declared.marks.BlockMark.{BlockMark}
use Rattle.plan_cert.specs.declared.cert.Pass.{Pass}
use Rattle.plan_cert.specs.declared.cert.Pass.TheVariants.{BlockNumber, BlockCost, DutyNumber, DutyCost}
use Rattle.plan_cert.specs.declared.columns.PlaceColumns.{PlaceColumns}
use Rattle.plan_cert.specs.declared.columns.DrivingColumns.{DrivingColumns}
use Rattle.plan_cert.specs.declared.columns.DutyColumns.{DutyColumns}
use Rattle.plan_cert.specs.declared.columns.BlockColumns.{BlockColumns}
use Rattle.plan_cert.specs.declared.duties.Driven.{Driven}
use Rattle.plan_cert.specs.declared.entries.MarkPlace.{MarkPlace}
use Rattle.plan_cert.specs.declared.marks.PassMark.{PassMark}
use Rattle.plan_cert.specs.declared.shape.Shape.{Shape}
use Rattle.plan_cert.specs.Numbers.{◌>>=◌, class_among, counted, truth}
use Rattle.plan_cert.specs.Shapes.{items_of, numbers_in}

-- one of two passes by its number: that of the first, or the next
abbrev pub pass_from : ℕ → Pass → Pass → Option ℤ → Option Pass
pass_from first one two number = do
  n ← word number
  if n == first then Some one else if n == first + 1 then Some two else None

-- the class and the item, counted from 1
abbrev pub place_at : Shape → PlaceColumns → Pass → List Field → Option MarkPlace
place_at s columns pass row = do
  class ← class_among (numbers_in s.classes pass) (number_at row columns.class)
  item ← counted (items_of s pass) (number_at row columns.item)
  Some (record { pass = pass; class = class; item = item })

-- a mark of blocks is of pass 1 or 2
abbrev pub block_place : Shape → PlaceColumns → List Field → Option MarkPlace
block_place s columns row = do
  pass ← pass_from 1 BlockNumber BlockCost (number_at row columns.pass)
  place_at s columns pass row

-- a mark of duties is of pass 3 or 4
abbrev pub duty_place : Shape → PlaceColumns → List Field → Option MarkPlace
duty_place s columns row = do
  pass ← pass_from 3 DutyNumber DutyCost (number_at row columns.pass)
  place_at s columns pass row

-- LENK, VIERTEL, GESAMT, DREI
abbrev pub driven_at : DrivingColumns → List Field → Option Driven
driven_at columns row = do
  driving ← word (number_at row columns.driving)
  quarter ← truth (number_at row columns.quarter)
  total ← word (number_at row columns.total)
  three ← truth (number_at row columns.three)
  Some (record { driving = driving; quarter = quarter; total = total; three = three })

abbrev pub mark_of : MarkPlace → ℤ → Driven → ℤ → Mark
mark_of place begin d worth = record {
  class = place.class;
  piece = place.item;
  start = record { 0 = begin };
  driving = d.driving;
  quarter = d.quarter;
  total = d.total;
  three = d.three;
  value = worth;
}

abbrev pub DutyEntry : Type 0
DutyEntry = PassMark Mark

abbrev pub BlockEntry : Type 0
BlockEntry = PassMark BlockMark

-- X_MARKE
abbrev pub duty_entry : Shape → DutyColumns → List Field → Option DutyEntry
duty_entry s columns row = do
  place ← duty_place s columns.place row
  begin ← number_at row columns.start
  driven ← driven_at columns.driven row
  worth ← number_at row columns.value
  Some (record { pass = place.pass; mark = mark_of place begin driven worth })

-- X_UMARKE
abbrev pub block_entry : Shape → BlockColumns → List Field → Option BlockEntry
block_entry s columns row = do
  place ← block_place s columns.place row
  driving ← word (number_at row columns.driving)
  worth ← number_at row columns.value
  Some (record { pass = place.pass; mark = record { class = place.class; trip = place.item; driving = driving; value = worth } })
