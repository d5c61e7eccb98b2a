-- Inner: what holds between the steps of replanning a day.
use Rattle.std.specs.Prelude.{◌≡◌, ◌⊎◌, ℕ, ◌<◌, true, false, All, List, Option, Some, length}
use Rattle.vdv451_text.specs.declared.table.Table.{Table}
use Rattle.cover_core.specs.declared.Column.{Column}
use Rattle.cover_core.specs.Cover.{Problem}
use Rattle.cover_core.specs.Plans.{AreColumns, IsPlan}
use Rattle.cover_plan.specs.declared.fault.PlanFault.{PlanFault as CoverFault}
use Rattle.cover_plan.specs.declared.fault.PlanFault.TheVariants as covers
use Rattle.price_rounds.specs.Rounds.{IsBoundOf}
use Rattle.cover_plan.specs.Endings.{Numbers, EndsAs}
use Rattle.cover_plan.specs.Endings.{planned}
use Rattle.cover_plan.specs.Ends.{IsCause, IsCountBoundOf}
use Rattle.day_method.specs.declared.side.Side.{Side}
use Rattle.day_method.specs.Method.{SidePlan}
use Rattle.day_model.specs.Facts.{DayFacts}
use Rattle.block_cut.specs.Legs.{HasWorth}
use Rattle.umlauf_write.specs.declared.text.PlanText.{PlanText}
use Rattle.umlauf_write.specs.Printed.{printed}
use Rattle.cert_check.specs.declared.old.OldPlan.TheVariants.{Good}
use Rattle.cert_check.specs.Old.{AreOfDay, IsOldAnswer}
use Rattle.cover_rest.specs.Rest.{bodies, written_plan}
use Rattle.block_rest.specs.Rest.{RestFacts as BlockRestFacts}
use Rattle.block_rest.specs.Rest.{begun_of as begun_blocks_of}
use Rattle.duty_rest.specs.Rest.{RestFacts as DutyRestFacts}
use Rattle.duty_rest.specs.Rest.{begun_of as begun_duties_of}
use Rattle.plan_command.specs.declared.fault.ItemName.{ItemName}
use Rattle.plan_command.specs.declared.fault.PlanFault.{PlanFault}
use Rattle.plan_command.specs.declared.fault.PlanFault.TheVariants as faults
use Rattle.replan_command.specs.Replanning.{AreWrittenBlocks, IsKeptSide, IsWrittenSide, KeepsBlocks, KeepsDuties, Replan, duties_left, duty_items}

-- what is said of an earlier plan of a day is said by tables that are a plan of it
pub record IsEarlierPlan (day : DayFacts) (earlier : PlanText) : Type 0 where
  pub old : List Table
  pub good : IsOldAnswer day old (Good earlier)
  pub lists : AreOfDay day earlier.blocks.columns
  pub worths : All (HasWorth day) earlier.blocks.columns

-- what the items of a rest stand for
abbrev pub items_of_blocks : BlockRestFacts → List (List ℕ)
items_of_blocks rest = bodies (begun_blocks_of rest.heads) (length rest.day.trips)

abbrev pub items_of_duties : DutyRestFacts → List (List ℕ)
items_of_duties rest = bodies (begun_duties_of rest.heads) (length rest.net.pieces)

-- the new blocks: as the method makes them, and a plan that keeps what has begun, within the bounds
pub record AreNewBlocks (r : Replan) (numbers : Numbers) (blocks : SidePlan) : Type 0 where
  pub written : AreWrittenBlocks r numbers blocks
  pub kept : IsKeptSide (KeepsBlocks r) blocks

-- the new duties over new blocks
pub record AreNewDuties (r : Replan) (numbers : Numbers) (blocks : List Column) (duties : SidePlan) : Type 0 where
  pub written : IsWrittenSide (duties_left r blocks true) (duties_left r blocks false) (duty_items r blocks) numbers duties
  pub kept : IsKeptSide (KeepsDuties r blocks) duties

-- One side as it is made over a rest, from the rest counted and the rest with costs: a plan of the rest, within the bounds of both
-- passes, is written out and put in printed order.
pub record IsMadeSide (counted costed : Problem) (items : List (List ℕ)) (numbers : Numbers) (side : SidePlan) : Type 0 where
  pub columns : List Column
  pub made : EndsAs counted costed numbers (planned side.count side.cost columns)
  pub order : side.columns ≡ printed (written_plan items columns)
  pub plan : IsPlan costed columns
  pub count_bound : IsCountBoundOf costed side.count.bound
  pub cost_bound : IsBoundOf costed side.cost.bound

-- an item that is left is one of a problem, and the columns beside it are columns of the problem
abbrev pub IsFaultIn : Problem → CoverFault → Type 0
IsFaultIn p (covers.NoPlan bound places) = Unit {0}
IsFaultIn p (covers.NotPlaced item partial) = (item < p.items) × AreColumns p partial.columns
IsFaultIn p covers.Memory = Unit {0}

-- the same refusal, of a rest: the item that is left has its name, and the columns are written out; or running out of memory
abbrev pub IsWrittenFault : Side → (ℕ → Option ItemName) → List (List ℕ) → CoverFault → PlanFault → Type 0
IsWrittenFault side name items (covers.NoPlan bound places) fault = fault ≡ faults.NoPlan side bound places
IsWrittenFault side name items (covers.NotPlaced item partial) fault =
    (fault ≡ faults.Memory) ⊎
    ((n : ItemName) × (name item ≡ Some n)
    × (fault ≡ faults.NotPlaced side item n (record { columns = written_plan items partial.columns })))
IsWrittenFault side name items covers.Memory fault = fault ≡ faults.Memory

-- why there is no side over a rest
pub record IsWrittenCause (side : Side) (counted costed : Problem) (name : ℕ → Option ItemName) (items : List (List ℕ)) (numbers : Numbers)
    (fault : PlanFault) : Type 0 where
  pub cover : CoverFault
  pub cause : IsCause counted costed numbers cover
  pub told : IsWrittenFault side name items cover fault
