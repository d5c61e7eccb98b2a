-- From the sides of a day to its plan, and to its causes.
use Rattle.std.proofs.Common.{◌≡◌, ℕ, Bool, true, false, List, Option, Some, None, IsSomeAnd, slice_get, refl, sym, ap, ◌∙◌, subst}
use Rattle.plan_core.specs.declared.types.Piece.{Piece as WorkPiece}
use Rattle.cover_core.specs.declared.Column.{Column}
use Rattle.cover_core.specs.Cover.{Problem}
use Rattle.cover_core.specs.Laws.{IsCountOf}
use Rattle.cover_plan.specs.declared.fault.PlanFault.{PlanFault as CoverFault}
use Rattle.cover_plan.specs.declared.fault.PlanFault.TheVariants as covers
use Rattle.cover_plan.specs.Endings.{Numbers, Ending, EndsAs, EndsBy}
use Rattle.cover_plan.specs.Endings.{planned, no_plan, not_placed}
use Rattle.cover_plan.specs.declared.known.KnownPlan.{KnownPlan}
use Rattle.cover_plan.specs.Ends.{IsCause}
use Rattle.day_method.specs.declared.side.Side.TheVariants.{Vehicles, Drivers}
use Rattle.day_method.specs.Method.{SidePlan, DayEnding, DutiesEndAs}
use Rattle.day_method.specs.Method.{answered, refused, left_out}
use Rattle.trip_times.specs.declared.trip.Trip.{Trip as DayTrip}
use Rattle.day_model.specs.Facts.{DayFacts}
use Rattle.depot_network.specs.Network.{NetFacts, blocks as net_blocks, blocks_of}
use Rattle.block_cut.specs.Cuts.{pieces_of_plan}
use Rattle.plan_params.specs.declared.rows.ParamRows.{ParamRows}
use Rattle.duty_network.specs.Duties.{duties}
use Rattle.plan_command.specs.declared.fault.ItemName.TheVariants.{Trip, Piece}
use Rattle.plan_command.specs.declared.fault.PlanFault.{PlanFault}
use Rattle.plan_command.specs.declared.fault.PlanFault.TheVariants as faults
use Rattle.plan_command.specs.Flow.{AreKnownBlocks, IsExact}
use Rattle.plan_command.specs.Planning.{Asked, duties_over, day_problems, ArePlannedBlocks, ArePlannedDuties, IsDayPlan, IsPlannedSide, IsLeft, IsPlanCauseOver, IsThis, PlanEndsAs}
use Rattle.plan_command.specs.Steps.{IsBlocksFault, IsDutiesFault, IsItemBelow, IsSideCause}

-- an item that rounding leaves is one of the problem
pub item_below : (counted costed : Problem) (numbers : Numbers) (fault : CoverFault) → IsCause counted costed numbers fault →
    IsItemBelow costed.items fault
item_below counted costed numbers (covers.NoPlan bound places) cause = tt
item_below counted costed numbers (covers.NotPlaced item partial) cause = cause.1.there
item_below counted costed numbers covers.Memory cause = tt

-- the same where a plan may be known
pub side_item_below : (counted costed : Problem) (numbers : Numbers) (known : Option KnownPlan) (fault : CoverFault) →
    IsSideCause counted costed numbers known fault → IsItemBelow costed.items fault
side_item_below counted costed numbers None fault cause = item_below counted costed numbers fault cause
side_item_below counted costed numbers (Some known) (covers.NoPlan bound places) cause = tt
side_item_below counted costed numbers (Some known) (covers.NotPlaced item partial) cause = absurd cause
side_item_below counted costed numbers (Some known) covers.Memory cause = tt

-- duties over pieces that are those of blocks, by the settings of the day
module _ (facts : DayFacts) (asked : Asked) (blocks : List Column) (pieces : List WorkPiece) (params : ParamRows)
    (same_pieces : pieces ≡ pieces_of_plan facts blocks) (same_params : params ≡ facts.params) where
  pub duties_there : (side : SidePlan) →
      IsPlannedSide (duties (record { pieces = pieces; params = params; counts = true }))
      (duties (record { pieces = pieces; params = params; counts = false })) asked.numbers (IsThis None) side →
      ArePlannedDuties facts asked blocks side
  duties_there side are =
      let P : List WorkPiece → Type 0 =
      λ ps. IsPlannedSide (duties (record { pieces = ps; params = params; counts = true }))
      (duties (record { pieces = ps; params = params; counts = false })) asked.numbers (IsThis None) side in
      let Q : ParamRows → Type 0 =
      λ rows. IsPlannedSide (duties (record { pieces = pieces_of_plan facts blocks; params = rows; counts = true }))
      (duties (record { pieces = pieces_of_plan facts blocks; params = rows; counts = false })) asked.numbers (IsThis None) side in
      subst Q same_params (subst P same_pieces are)

  pub cause_there : (cover : CoverFault) →
      IsCause (duties (record { pieces = pieces; params = params; counts = true }))
      (duties (record { pieces = pieces; params = params; counts = false })) asked.numbers cover →
      IsCause (duties_over facts blocks true) (duties_over facts blocks false) asked.numbers cover
  cause_there cover cause =
      let P : List WorkPiece → Type 0 =
      λ ps. IsCause (duties (record { pieces = ps; params = params; counts = true }))
      (duties (record { pieces = ps; params = params; counts = false })) asked.numbers cover in
      let Q : ParamRows → Type 0 =
      λ rows. IsCause (duties (record { pieces = pieces_of_plan facts blocks; params = rows; counts = true }))
      (duties (record { pieces = pieces_of_plan facts blocks; params = rows; counts = false })) asked.numbers cover in
      subst Q same_params (subst P same_pieces cause)

-- a side of which no plan is known ends as planning does
unknown_ends : (counted costed : Problem) (numbers : Numbers) (known : Option KnownPlan) (ending : Ending) → known ≡ None →
    EndsBy counted costed numbers known ending → EndsAs counted costed numbers ending
unknown_ends counted costed numbers known ending none ends =
    let P : Option KnownPlan → Type 0 = λ k. EndsBy counted costed numbers k ending in subst P none ends

-- a side with these columns
abbrev with_columns : SidePlan → List Column → SidePlan
with_columns side columns = record { columns = columns; count = side.count; cost = side.cost }

module _ (facts : DayFacts) (asked : Asked) where
  -- the blocks are planned, and then the duties
  -- Blocks that are planned and put in order, and any ending of the duties over them, are together an ending of the day: the duties'
  -- problem is that of the columns as they are written, so the ending is carried along `order`. Answers and refusals of duties both
  -- rest on it.
  blocks_first : (blocks : SidePlan) (ending : DayEnding) (are : ArePlannedBlocks facts asked blocks) →
      DutiesEndAs (day_problems facts are.known) asked.numbers blocks ending → PlanEndsAs facts asked ending
  blocks_first blocks ending are ends =
      let P : List Column → Type 0 =
      λ columns. DutiesEndAs (day_problems facts are.known) asked.numbers (with_columns blocks columns) ending in
      record {
        known = are.known;
        known_is = are.known_is;
        ends = record { blocks = planned blocks.count blocks.cost are.columns; ends = are.planned; goes_on = subst P are.order ends };
      }

  pub day_plan : (blocks duties : SidePlan) (blocks_are : ArePlannedBlocks facts asked blocks) →
      ArePlannedDuties facts asked blocks.columns duties → IsExact facts asked.flow blocks → IsDayPlan facts asked blocks duties
  day_plan blocks duties blocks_are duties_are exact = record {
    ends = blocks_first blocks (answered blocks duties) blocks_are (record {
      duties = planned duties.count duties.cost duties_are.columns;
      ends = unknown_ends (duties_over facts blocks.columns true) (duties_over facts blocks.columns false) asked.numbers duties_are.known
          (planned duties.count duties.cost duties_are.columns) duties_are.known_is duties_are.planned;
      is = ap (λ (columns : List Column). answered blocks (with_columns duties columns)) duties_are.order;
    });
    blocks_are = blocks_are;
    duties_are = duties_are;
    exact = exact;
  }

  -- a refusal of blocks
  left_trip : (item : ℕ) (partial : List Column) (fault : PlanFault) (o : Option DayTrip)
      (stuck : IsLeft (blocks_of facts false) item partial) →
      PlanEndsAs facts asked (left_out Vehicles item partial) → slice_get facts.trips item ≡ o →
      IsSomeAnd o (λ (trip : DayTrip). fault ≡ faults.NotPlaced Vehicles item (Trip trip.fid) (record { columns = partial })) →
      IsPlanCauseOver facts asked fault
  left_trip item partial fault None stuck ends is named = absurd named
  left_trip item partial fault (Some trip) stuck ends is named =
      let P : PlanFault → Type 0 = λ f. IsPlanCauseOver facts asked f in
      let Q : Option DayTrip → Type 0 = λ o. IsSomeAnd o (λ (t : DayTrip). Trip trip.fid ≡ Trip t.fid) in
      subst P (sym named) (ends, (stuck, subst Q (sym is) refl))

  -- A refusal of the blocks ends the day before duties. Which plan is known decides which causes there can be: a known plan leaves no
  -- item, so that case is void, and in each other the ending with its reason is what `IsPlanCauseOver` asks.
  pub blocks_cause : (known : Option KnownPlan) (cover : CoverFault) (fault : PlanFault) → AreKnownBlocks facts asked.flow known →
      IsSideCause (blocks_of facts true) (blocks_of facts false) asked.numbers known cover →
      IsBlocksFault facts.trips cover fault → IsPlanCauseOver facts asked fault
  blocks_cause None (covers.NoPlan bound places) fault known_is cause same =
      let P : PlanFault → Type 0 = λ f. IsPlanCauseOver facts asked f in
      subst P (sym same) (
        record {
          known = None;
          known_is = known_is;
          ends =
              record { blocks = no_plan bound places; ends = cause.0; goes_on = refl };
        },
        cause.1,
      )
  blocks_cause None (covers.NotPlaced item partial) fault known_is cause named =
      left_trip item partial.columns fault (slice_get facts.trips item) (record { stuck = cause.1; no_room = cause.2 })
      (record {
        known = None;
        known_is = known_is;
        ends =
            record { blocks = not_placed item partial.columns; ends = cause.0; goes_on = refl };
      }) refl named
  blocks_cause None covers.Memory fault known_is cause same =
      let P : PlanFault → Type 0 = λ f. IsPlanCauseOver facts asked f in subst P (sym same) tt
  blocks_cause (Some known) (covers.NoPlan bound places) fault known_is cause same =
      let P : PlanFault → Type 0 = λ f. IsPlanCauseOver facts asked f in
      subst P (sym same) (
        record {
          known = Some known;
          known_is = known_is;
          ends =
              record { blocks = no_plan bound places; ends = cause.0; goes_on = refl };
        },
        cause.1,
      )
  blocks_cause (Some known) (covers.NotPlaced item partial) fault known_is cause named = absurd cause
  blocks_cause (Some known) covers.Memory fault known_is cause same =
      let P : PlanFault → Type 0 = λ f. IsPlanCauseOver facts asked f in subst P (sym same) tt

  -- a refusal of duties
  module _ (blocks : SidePlan) (are : ArePlannedBlocks facts asked blocks) where
    left_piece : (item : ℕ) (partial : List Column) (fault : PlanFault) (o : Option WorkPiece)
        (stuck : IsLeft (duties_over facts blocks.columns false) item partial) →
        PlanEndsAs facts asked (left_out Drivers item partial) → slice_get (pieces_of_plan facts blocks.columns) item ≡ o →
        IsSomeAnd o (λ (piece : WorkPiece). fault ≡ faults.NotPlaced Drivers item (Piece piece.block piece.index)
        (record { columns = partial })) → IsPlanCauseOver facts asked fault
    left_piece item partial fault None stuck ends is named = absurd named
    left_piece item partial fault (Some piece) stuck ends is named =
        let P : PlanFault → Type 0 = λ f. IsPlanCauseOver facts asked f in
        let Q : Option WorkPiece → Type 0 = λ o. IsSomeAnd o (λ (p : WorkPiece). Piece piece.block piece.index ≡ Piece p.block p.index) in
        subst P (sym named) (ends, record { blocks = blocks; blocks_are = are; is_left = stuck; named = subst Q (sym is) refl })

    pub cause_over : (cover : CoverFault) (fault : PlanFault) →
        IsCause (duties_over facts blocks.columns true) (duties_over facts blocks.columns false) asked.numbers cover →
        IsDutiesFault (pieces_of_plan facts blocks.columns) cover fault → IsPlanCauseOver facts asked fault
    cause_over (covers.NoPlan bound places) fault cause same =
        let P : PlanFault → Type 0 = λ f. IsPlanCauseOver facts asked f in
        subst P (sym same) (
          blocks_first blocks (refused Drivers bound places) are
              (record { duties = no_plan bound places; ends = cause.0; is = refl }),
          (blocks, are, cause.1),
        )
    cause_over (covers.NotPlaced item partial) fault cause named =
        left_piece item partial.columns fault (slice_get (pieces_of_plan facts blocks.columns) item)
        (record { stuck = cause.1; no_room = cause.2 })
        (blocks_first blocks (left_out Drivers item partial.columns) are
        (record { duties = not_placed item partial.columns; ends = cause.0; is = refl })) refl named
    cause_over covers.Memory fault cause same = let P : PlanFault → Type 0 = λ f. IsPlanCauseOver facts asked f in subst P (sym same) tt

-- the problem of a network of a day
pub same_net : (view net : NetFacts) (facts : DayFacts) (counts : Bool) → view ≡ net → net.day ≡ facts → net.counts ≡ counts →
    net_blocks view ≡ blocks_of facts counts
same_net view net facts counts same days count =
    ap (λ (n : NetFacts). net_blocks n) same
    ∙ (ap (λ (day : DayFacts). blocks_of day net.counts) days ∙ ap (λ (b : Bool). blocks_of facts b) count)

-- what holds of a side holds of problems that are the same
module _ (one other p q : Problem) (counted : one ≡ p) (costed : other ≡ q) where
  pub count_at : IsCountOf q p → IsCountOf other one
  count_at is =
      let P : Problem → Type 0 = λ x. IsCountOf x one in
      let Q : Problem → Type 0 = λ x. IsCountOf q x in
      subst P (sym costed) (subst Q (sym counted) is)

  pub side_at : (numbers : Numbers) (AreKnown : Option KnownPlan → Type 0) (side : SidePlan) →
      IsPlannedSide one other numbers AreKnown side → IsPlannedSide p q numbers AreKnown side
  side_at numbers AreKnown side is =
      let P : Problem → Type 0 = λ x. IsPlannedSide x other numbers AreKnown side in
      let Q : Problem → Type 0 = λ x. IsPlannedSide p x numbers AreKnown side in
      subst Q costed (subst P counted is)

  pub cause_at : (numbers : Numbers) (known : Option KnownPlan) (cover : CoverFault) → IsSideCause one other numbers known cover →
      IsSideCause p q numbers known cover
  cause_at numbers known cover is =
      let P : Problem → Type 0 = λ x. IsSideCause x other numbers known cover in
      let Q : Problem → Type 0 = λ x. IsSideCause p x numbers known cover in
      subst Q costed (subst P counted is)

-- a side of which another thing is known of the plan that is known
pub side_where : (counted costed : Problem) (numbers : Numbers) (A B : Option KnownPlan → Type 0) (side : SidePlan) →
    ((known : Option KnownPlan) → A known → B known) →
    IsPlannedSide counted costed numbers A side → IsPlannedSide counted costed numbers B side
side_where counted costed numbers A B side onto is = record {
  known = is.known;
  known_is = onto is.known is.known_is;
  columns = is.columns;
  planned = is.planned;
  order = is.order;
  plan = is.plan;
  count_bound = is.count_bound;
  cost_bound = is.cost_bound;
  count_paid = is.count_paid;
  cost_paid = is.cost_paid;
}

-- a side of which this plan is known, or none is, where that is so
pub side_known : (counted costed : Problem) (numbers : Numbers) (A : Option KnownPlan → Type 0) (this : Option KnownPlan)
    (side : SidePlan) → A this →
    IsPlannedSide counted costed numbers (IsThis this) side → IsPlannedSide counted costed numbers A side
side_known counted costed numbers A this side is made =
    side_where counted costed numbers (IsThis this) A side (λ known same. subst A (sym same) is) made
