-- From sides that are made over rests to the new blocks and duties of a day, and from their faults to its causes.
use Rattle.std.proofs.Common.{inl, inr, ℕ, ◌*◌, ◌^◌, ◌<◌, ◌≤◌, Bool, true, false, List, [], ◌∷◌, length, refl, sym, ap, subst, arith}
use Rattle.std.proofs.lemmas.List.Elements.{All-cons, All-nil}
use Rattle.cover_core.specs.declared.Column.{Column}
use Rattle.cover_core.specs.FirstLeast.{AreCheap}
use Rattle.cover_core.specs.Plans.{cost}
use Rattle.cover_plan.specs.declared.fault.PlanFault.{PlanFault as CoverFault}
use Rattle.cover_plan.specs.declared.fault.PlanFault.TheVariants as covers
use Rattle.cover_plan.specs.Endings.{Numbers}
use Rattle.cover_plan.specs.Endings.{planned, no_plan, not_placed}
use Rattle.cover_plan.specs.Ends.{HasNone, IsCause}
use Rattle.day_method.specs.declared.side.Side.TheVariants.{Vehicles, Drivers}
use Rattle.day_method.specs.Method.{SidePlan, DayEnding, DayEndsAs, DutiesEndAs}
use Rattle.day_method.specs.Method.{answered, refused, left_out}
use Rattle.depot_network.specs.Network.{blocks_of}
use Rattle.depot_network.specs.Listed.{blocks_listed}
use Rattle.block_cut.specs.Cuts.{pieces_of_plan}
use Rattle.duty_network.specs.Listed.{duties_listed}
use Rattle.cover_rest.specs.Keeping.{AreHeads}
use Rattle.cover_rest.specs.Rest.{written_plan}
use Rattle.block_rest.specs.Rest.{may_begin}
use Rattle.block_rest.proofs.Apart.{heads-are}
use Rattle.duty_rest.specs.Rest.{may_begin as may_begin_duty}
use Rattle.plan_command.specs.declared.fault.PlanFault.{PlanFault}
use Rattle.plan_command.specs.Planning.{duties_over}
use Rattle.plan_command.specs.PlanText.{IsPrintable}
use Rattle.plan_command.proofs.Printing.{few_blocks, few_duties}
use Rattle.replan_command.specs.Begun.{HaveDuties, duty_facts}
use Rattle.replan_command.specs.Replanning.{AreWrittenBlocks, IsReplanned, IsRestCause, KeepsBlocks, KeepsDuties, Replan, begun_blocks, begun_duties, block_items, blocks_left, duties_left, duty_items, piece_name, rest_problems, trip_name}
use Rattle.replan_command.specs.Steps.{AreNewBlocks, AreNewDuties, IsEarlierPlan, IsMadeSide, IsWrittenCause, IsWrittenFault}
use Rattle.replan_command.proofs.Kept.{KeepsOf, kept-none, kept-side, kept-where}
use Rattle.replan_command.proofs.DutyHeads.{duty_heads_are, kept_weaker, none_begun_kept}
use Rattle.replan_command.proofs.Problems.{of-day}

-- the heads of an earlier plan's blocks
pub block-heads-are : (r : Replan) → IsEarlierPlan r.day r.earlier → (counts : Bool) → AreHeads (blocks_of r.day counts) (begun_blocks r)
block-heads-are r earlier counts =
    heads-are r.day counts r.moment r.earlier.blocks.columns (of-day r.day r.earlier.blocks.columns earlier.lists) earlier.good.1.trips

-- the new blocks
abbrev KeepsBlocksOf : Replan → List Column → Type 0
KeepsBlocksOf r columns = KeepsOf (blocks_of r.day false) (begun_blocks r) (may_begin r.day r.moment) columns

blocks-onto : (r : Replan) (columns : List Column) → KeepsBlocksOf r columns → KeepsBlocks r columns
blocks-onto r columns of = record { plan = of.plan; keeps = of.keeps }

blocks-back : (r : Replan) (columns : List Column) → KeepsBlocks r columns → KeepsBlocksOf r columns
blocks-back r columns of = record { plan = of.plan; keeps = of.keeps }

-- What the method made over the rest of the blocks is turned into what is promised of the day's: the columns as they are written, and
-- a side that keeps what has begun with bounds that hold of all plans that do (`kept-side`). Duties go the same way below, once each
-- begun piece has its duty, and so does a refusal: where the rest has no plan, none keeps what has begun (`kept-none`).
pub new-blocks : (r : Replan) (numbers : Numbers) (side : SidePlan) → IsEarlierPlan r.day r.earlier →
    IsMadeSide (blocks_left r true) (blocks_left r false) (block_items r) numbers side → AreNewBlocks r numbers side
new-blocks r numbers side earlier made = record {
  written = record { columns = made.columns; made = made.made; order = made.order };
  kept =
      kept-where (KeepsBlocksOf r) (KeepsBlocks r) (blocks-onto r) (blocks-back r) side
      (kept-side (blocks_of r.day false) (begun_blocks r) (may_begin r.day r.moment)
      (blocks_listed (record { day = r.day; counts = false })) (block-heads-are r earlier false)
      side made.columns made.plan made.order made.count_bound made.cost_bound);
}

pub blocks-cause : (r : Replan) (numbers : Numbers) (fault : PlanFault) → IsEarlierPlan r.day r.earlier →
    IsWrittenCause Vehicles (blocks_left r true) (blocks_left r false) (trip_name r.day.trips (block_items r)) (block_items r) numbers
    fault → IsRestCause r numbers fault
blocks-cause r numbers fault earlier is = by is.cover is.cause is.told
  where
    P : PlanFault → Type 0
    P f = IsRestCause r numbers f

    by : (cover : CoverFault) → IsCause (blocks_left r true) (blocks_left r false) numbers cover →
        IsWrittenFault Vehicles (trip_name r.day.trips (block_items r)) (block_items r) cover fault → IsRestCause r numbers fault
    by (covers.NoPlan bound places) cause told =
        subst P (sym told) (
          record { blocks = no_plan bound places; ends = cause.0; goes_on = refl },
          (λ columns of.
              kept-none (blocks_of r.day false) (begun_blocks r) (may_begin r.day r.moment)
              (blocks_listed (record { day = r.day; counts = false })) (block-heads-are r earlier false)
              cause.1 columns (blocks-back r columns of)),
        )
    by (covers.NotPlaced item partial) cause (inl told) = subst P (sym told) tt
    by (covers.NotPlaced item partial) cause (inr (name, named, told)) =
        subst P (sym told) (
          record { blocks = not_placed item partial.columns; ends = cause.0; goes_on = refl },
          (record { columns = partial.columns; left = record { stuck = cause.1; no_room = cause.2 }; written = refl }, named),
        )
    by covers.Memory cause told = subst P (sym told) tt

-- the new duties
abbrev KeepsDutiesOf : Replan → List Column → List Column → Type 0
KeepsDutiesOf r blocks columns = KeepsOf (duties_over r.day blocks false) (begun_duties r blocks) may_begin_duty columns

module _ (r : Replan) (blocks : List Column) (have : HaveDuties r.day r.earlier r.moment blocks) where
  duties-onto : (columns : List Column) → KeepsDutiesOf r blocks columns → KeepsDuties r blocks columns
  duties-onto columns of = none_begun_kept r blocks columns have of.plan of.keeps

  duties-back : (columns : List Column) → KeepsDuties r blocks columns → KeepsDutiesOf r blocks columns
  duties-back columns of = record { plan = of.plan; keeps = kept_weaker r blocks columns of }

  pub new-duties : (numbers : Numbers) (side : SidePlan) →
      IsMadeSide (duties_left r blocks true) (duties_left r blocks false) (duty_items r blocks) numbers side →
      AreNewDuties r numbers blocks side
  new-duties numbers side made = record {
    written = record { columns = made.columns; made = made.made; order = made.order };
    kept =
        kept-where (KeepsDutiesOf r blocks) (KeepsDuties r blocks) duties-onto duties-back side
        (kept-side (duties_over r.day blocks false) (begun_duties r blocks) may_begin_duty (duties_listed (duty_facts r.day blocks false))
        (duty_heads_are r blocks have false)
        side made.columns made.plan made.order made.count_bound made.cost_bound);
  }

  none-kept : HasNone (duties_left r blocks false) → (columns : List Column) → KeepsDuties r blocks columns → ⊥
  none-kept none columns of =
      kept-none (duties_over r.day blocks false) (begun_duties r blocks) may_begin_duty (duties_listed (duty_facts r.day blocks false))
      (duty_heads_are r blocks have false)
      none columns (duties-back columns of)

-- a side with these columns
abbrev with_columns : SidePlan → List Column → SidePlan
with_columns side columns = record { columns = columns; count = side.count; cost = side.cost }

module _ (r : Replan) (numbers : Numbers) where
  -- the blocks are made, and then the duties
  blocks-first : (blocks : SidePlan) (ending : DayEnding) (are : AreWrittenBlocks r numbers blocks) →
      DutiesEndAs (rest_problems r) numbers blocks ending → DayEndsAs (rest_problems r) numbers ending
  blocks-first blocks ending are ends =
      let P : List Column → Type 0 = λ columns. DutiesEndAs (rest_problems r) numbers (with_columns blocks columns) ending in
      record { blocks = planned blocks.count blocks.cost are.columns; ends = are.made; goes_on = subst P are.order ends }

  pub replanned : (blocks duties : SidePlan) → AreNewBlocks r numbers blocks → AreNewDuties r numbers blocks.columns duties →
      IsReplanned r numbers blocks duties
  replanned blocks duties blocks_are duties_are = record {
    ends = blocks-first blocks (answered blocks duties) blocks_are.written (record {
      duties = planned duties.count duties.cost duties_are.written.columns;
      ends = duties_are.written.made;
      is = ap (λ (columns : List Column). answered blocks (with_columns duties columns)) duties_are.written.order;
    });
    blocks_are = blocks_are.kept;
    duties_are = duties_are.kept;
  }

  pub duties-cause : (blocks : SidePlan) → AreNewBlocks r numbers blocks → HaveDuties r.day r.earlier r.moment blocks.columns →
      (fault : PlanFault) →
      IsWrittenCause Drivers (duties_left r blocks.columns true) (duties_left r blocks.columns false)
      (piece_name (pieces_of_plan r.day blocks.columns) (duty_items r blocks.columns)) (duty_items r blocks.columns) numbers fault →
      IsRestCause r numbers fault
  duties-cause blocks are have fault is = by is.cover is.cause is.told
    where
      P : PlanFault → Type 0
      P f = IsRestCause r numbers f

      by : (cover : CoverFault) → IsCause (duties_left r blocks.columns true) (duties_left r blocks.columns false) numbers cover →
          IsWrittenFault Drivers (piece_name (pieces_of_plan r.day blocks.columns) (duty_items r blocks.columns))
          (duty_items r blocks.columns) cover fault → IsRestCause r numbers fault
      by (covers.NoPlan bound places) cause told =
          subst P (sym told) (
            blocks-first blocks (refused Drivers bound places) are.written
                (record { duties = no_plan bound places; ends = cause.0; is = refl }),
            (blocks, are.written, none-kept r blocks.columns have cause.1),
          )
      by (covers.NotPlaced item partial) cause (inl told) = subst P (sym told) tt
      by (covers.NotPlaced item partial) cause (inr (name, named, told)) =
          subst P (sym told) (
            blocks-first blocks (left_out Drivers item (written_plan (duty_items r blocks.columns) partial.columns)) are.written
                (record { duties = not_placed item partial.columns; ends = cause.0; is = refl }),
            record {
              blocks = blocks;
              blocks_are = are.written;
              is_left = record { columns = partial.columns; left = record { stuck = cause.1; no_room = cause.2 }; written = refl };
              named = named;
            },
          )
      by covers.Memory cause told = subst P (sym told) tt

-- a new plan can be printed: its numbers are in their ranges
cheap-cost : (columns : List Column) → AreCheap columns → cost columns ≤ 4000000000 * length columns
cheap-cost [] cheap = omega arith
cheap-cost (c ∷ cs) cheap = let first = cheap.0 in omega (arith, first, cheap-cost cs cheap.1)

-- Each bound holds of the plan itself, which keeps what has begun; so no bound is above the plan's own number or cost, and these are
-- small.
pub printable : (r : Replan) (numbers : Numbers) (blocks duties : SidePlan) → IsReplanned r numbers blocks duties →
    length r.day.trips ≤ 3000 → length (pieces_of_plan r.day blocks.columns) ≤ 3000 →
    AreCheap blocks.columns → AreCheap duties.columns → IsPrintable r.day blocks duties
printable r numbers blocks duties plan few few_pieces cheap_blocks cheap_duties =
    let blocks_plan = plan.blocks_are.keeps.plan in
    let duties_plan = plan.duties_are.keeps.plan in
    let some_blocks = few_blocks r.day blocks.columns few blocks_plan in
    let some_duties = few_duties r.day blocks.columns duties.columns few_pieces duties_plan in
    let vehicles = plan.blocks_are.number blocks.columns plan.blocks_are.keeps in
    let block_cost = plan.blocks_are.cost blocks.columns plan.blocks_are.keeps in
    let drivers = plan.duties_are.number duties.columns plan.duties_are.keeps in
    let duty_cost = plan.duties_are.cost duties.columns plan.duties_are.keeps in
    let small : ℕ → Type 0 = λ bound. bound < 2 ^ 63 in
    record {
      blocks_are = blocks_plan;
      duties_are = duties_plan;
      few_blocks = some_blocks;
      few_pieces = few_pieces;
      cheap_blocks = cheap_blocks;
      cheap_duties = cheap_duties;
      bounds =
          All-cons small blocks.count.bound (blocks.cost.bound ∷ duties.count.bound ∷ duties.cost.bound ∷ [])
          (omega (arith, some_blocks, vehicles))
          (All-cons small blocks.cost.bound (duties.count.bound ∷ duties.cost.bound ∷ [])
          (omega (arith, some_blocks, block_cost, cheap-cost blocks.columns cheap_blocks))
          (All-cons small duties.count.bound (duties.cost.bound ∷ []) (omega (arith, some_duties, drivers))
          (All-cons small duties.cost.bound [] (omega (arith, some_duties, duty_cost, cheap-cost duties.columns cheap_duties))
          (All-nil small))));
    }
