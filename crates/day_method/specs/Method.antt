-- Promise: how a day is planned, as it is defined: its blocks, and then duties over the pieces of the blocks. Four passes are made, and
-- the first that gives no plan ends the planning. No worker occurs here.
use Rattle.std.specs.Prelude.{◌≡◌, ℕ, Bool, true, false, List, Option}
use Rattle.cover_core.specs.declared.Column.{Column}
use Rattle.cover_core.specs.Cover.{Problem}
use Rattle.dual_bound.specs.declared.kept.Kept.{Kept}
use Rattle.cover_plan.specs.declared.known.KnownPlan.{KnownPlan}
use Rattle.cover_plan.specs.Endings.{Numbers, Ending, EndsAs, EndsBy}
use Rattle.cover_plan.specs.Endings.{planned, no_plan, not_placed}
use Rattle.day_method.specs.declared.side.Side.{Side}
use Rattle.day_method.specs.declared.side.Side.TheVariants.{Vehicles, Drivers}

-- The problems of a day, each counted (true) or with costs (false), and how their plans are written: with the items that stand for
-- several written out, and then in printed order. The duties are those over the pieces of blocks in printed order. A plan of blocks may
-- be known: then only the first pass is made for them, and no pass with costs.
pub record DayProblems : Type 0 where
  pub blocks : Bool → Problem
  pub known_blocks : Option KnownPlan
  pub written_blocks : List Column → List Column
  pub printed_blocks : List Column → List Column
  pub duties : List Column → Bool → Problem
  pub written_duties : List Column → List Column → List Column
  pub printed_duties : List Column → List Column → List Column

-- one side of an answer: its plan in printed order, and the offers that were kept in its two passes
pub record SidePlan : Type 0 where
  pub columns : List Column
  pub count : Kept
  pub cost : Kept

-- blocks and duties; or the side that has no plan, with its bound and its places; or the side, the item that rounding leaves and the
-- columns beside which it is left
pub data DayEnding : Type 0 where
  answered : SidePlan → SidePlan → DayEnding
  refused : Side → ℕ → ℕ → DayEnding
  left_out : Side → ℕ → List Column → DayEnding

-- the blocks as they are printed and cut
abbrev pub blocks_after : DayProblems → Kept → Kept → List Column → SidePlan
blocks_after day count cost columns = record { columns = day.printed_blocks (day.written_blocks columns); count = count; cost = cost }

abbrev pub duties_after : DayProblems → List Column → Kept → Kept → List Column → SidePlan
duties_after day blocks count cost columns =
    record { columns = day.printed_duties blocks (day.written_duties blocks columns); count = count; cost = cost }

-- how the day ends after planning of its duties ended so
abbrev pub with_duties : DayProblems → SidePlan → Ending → DayEnding
with_duties day blocks (planned count cost columns) = answered blocks (duties_after day blocks.columns count cost columns)
with_duties day blocks (no_plan bound places) = refused Drivers bound places
with_duties day blocks (not_placed item partial) = left_out Drivers item (day.written_duties blocks.columns partial)

-- the duties of these blocks are planned, and the day ends so
pub record DutiesEndAs (day : DayProblems) (numbers : Numbers) (blocks : SidePlan) (ending : DayEnding) : Type 0 where
  pub duties : Ending
  pub ends : EndsAs (day.duties blocks.columns true) (day.duties blocks.columns false) numbers duties
  pub is : ending ≡ with_duties day blocks duties

-- planning of the blocks ended so, and the day ends so
abbrev pub GoesOn : DayProblems → Numbers → Ending → DayEnding → Type 0
GoesOn day numbers (planned count cost columns) ending = DutiesEndAs day numbers (blocks_after day count cost columns) ending
GoesOn day numbers (no_plan bound places) ending = ending ≡ refused Vehicles bound places
GoesOn day numbers (not_placed item partial) ending = ending ≡ left_out Vehicles item (day.written_blocks partial)

-- the day ends so: its blocks are planned, and where they are, its duties
pub record DayEndsAs (day : DayProblems) (numbers : Numbers) (ending : DayEnding) : Type 0 where
  pub blocks : Ending
  pub ends : EndsBy (day.blocks true) (day.blocks false) numbers day.known_blocks blocks
  pub goes_on : GoesOn day numbers blocks ending

-- a day that is planned by fixed rounds ends in one way alone
abbrev pub DayEndsOnce : DayProblems → Type 0
DayEndsOnce day = (numbers : Numbers) → numbers.climb ≡ false → (one other : DayEnding) → DayEndsAs day numbers one →
    DayEndsAs day numbers other → one ≡ other
