-- A day that is planned by fixed rounds has one text, or one cause for a refusal.
use Rattle.std.proofs.Common.{◌≡◌, ◌⊎◌, inl, inr, ℕ, Bool, true, false, List, Option, Some, None, IsSomeAnd, slice_get, refl, sym, ap, ◌∙◌, subst, arith}
use Rattle.plan_core.specs.declared.types.Piece.{Piece as WorkPiece}
use Rattle.vdv451_text.specs.Plain.{text}
use Rattle.cover_core.specs.declared.Column.{Column}
use Rattle.cover_core.specs.declared.Plan.{Plan}
use Rattle.dual_bound.specs.declared.kept.Kept.{Kept}
use Rattle.cover_plan.specs.declared.known.KnownPlan.{KnownPlan}
use Rattle.cover_plan.specs.Endings.{Ending, EndsBy, EndsOnce}
use Rattle.cover_plan.specs.Endings.{planned, no_plan, not_placed}
use Rattle.day_method.specs.declared.side.Side.{Side}
use Rattle.day_method.specs.declared.side.Side.TheVariants.{Vehicles, Drivers}
use Rattle.day_method.specs.Method.{SidePlan, DayEnding, DayEndsAs, DayEndsOnce}
use Rattle.day_method.specs.Method.{answered, refused, left_out}
use Rattle.trip_times.specs.declared.trip.Trip.{Trip as DayTrip}
use Rattle.day_model.specs.Facts.{DayFacts}
use Rattle.depot_network.specs.Network.{blocks_of}
use Rattle.block_cut.specs.Cuts.{pieces_of_plan}
use Rattle.umlauf_write.specs.Answers.{answer_tables}
use Rattle.umlauf_write.specs.Printed.{printed}
use Rattle.plan_command.specs.declared.fault.ItemName.{ItemName}
use Rattle.plan_command.specs.declared.fault.ItemName.TheVariants.{Trip, Piece}
use Rattle.plan_command.specs.declared.fault.PlanFault.{PlanFault}
use Rattle.plan_command.specs.declared.fault.PlanFault.TheVariants as faults
use Rattle.plan_command.specs.Flow.{AreKnownBlocks}
use Rattle.plan_command.specs.Planning.{Asked, day_problems, ArePlannedBlocks, IsLeftItem, IsPlanCauseOver, PlanEndsAs}
use Rattle.plan_command.specs.PlanText.{answer_of}
use Rattle.plan_command.specs.ShortText.{short_tables}
use Rattle.plan_command.specs.Once.{HasOneText, HasOneCause, HasOneShortText, HasShortTextOrCause, HasTextOrCause, PlanEndsOnce}

-- the parts of an ending
blocks_in : SidePlan → DayEnding → SidePlan
blocks_in d (answered blocks duties) = blocks
blocks_in d (refused side bound places) = d
blocks_in d (left_out side item columns) = d

duties_in : SidePlan → DayEnding → SidePlan
duties_in d (answered blocks duties) = duties
duties_in d (refused side bound places) = d
duties_in d (left_out side item columns) = d

side_in : Side → DayEnding → Side
side_in d (answered blocks duties) = d
side_in d (refused side bound places) = side
side_in d (left_out side item columns) = side

number_in : DayEnding → ℕ
number_in (answered blocks duties) = 0
number_in (refused side bound places) = bound
number_in (left_out side item columns) = item

places_in : DayEnding → ℕ
places_in (answered blocks duties) = 0
places_in (refused side bound places) = places
places_in (left_out side item columns) = 0

columns_in : List Column → DayEnding → List Column
columns_in d (answered blocks duties) = d
columns_in d (refused side bound places) = d
columns_in d (left_out side item columns) = columns

-- 0 for an answer, 1 for a side without a plan, 2 for an item that is left
kind_in : DayEnding → ℕ
kind_in (answered blocks duties) = 0
kind_in (refused side bound places) = 1
kind_in (left_out side item columns) = 2

pub same_blocks : (a b c d : SidePlan) → answered a b ≡ answered c d → a ≡ c
unfolding blocks_in
same_blocks a b c d h = ap (blocks_in a) h

pub same_duties : (a b c d : SidePlan) → answered a b ≡ answered c d → b ≡ d
unfolding duties_in
same_duties a b c d h = ap (duties_in b) h

pub same_refusal : (side other : Side) (bound places bound' places' : ℕ) → refused side bound places ≡ refused other bound' places' →
    faults.NoPlan side bound places ≡ faults.NoPlan other bound' places'
unfolding side_in number_in places_in
same_refusal side other bound places bound' places' h =
    ap (λ (s : Side). faults.NoPlan s bound places) (ap (side_in side) h)
    ∙ (ap (λ (n : ℕ). faults.NoPlan other n places) (ap number_in h) ∙ ap (λ (n : ℕ). faults.NoPlan other bound' n) (ap places_in h))

pub same_side : (side other : Side) (i j : ℕ) (a b : List Column) → left_out side i a ≡ left_out other j b → side ≡ other
unfolding side_in
same_side side other i j a b h = ap (side_in side) h

pub same_item : (side other : Side) (i j : ℕ) (a b : List Column) → left_out side i a ≡ left_out other j b → i ≡ j
unfolding number_in
same_item side other i j a b h = ap number_in h

pub same_columns : (side other : Side) (i j : ℕ) (a b : List Column) → left_out side i a ≡ left_out other j b → a ≡ b
unfolding columns_in
same_columns side other i j a b h = ap (columns_in a) h

pub not_refused : (a b : SidePlan) (side : Side) (bound places : ℕ) → answered a b ≡ refused side bound places → ⊥
unfolding kind_in
not_refused a b side bound places h = omega (arith, ap kind_in h)

pub not_left : (a b : SidePlan) (side : Side) (item : ℕ) (columns : List Column) → answered a b ≡ left_out side item columns → ⊥
unfolding kind_in
not_left a b side item columns h = omega (arith, ap kind_in h)

pub not_both : (side other : Side) (bound places item : ℕ) (columns : List Column) →
    refused side bound places ≡ left_out other item columns → ⊥
unfolding kind_in
not_both side other bound places item columns h = omega (arith, ap kind_in h)

columns_of : List Column → Ending → List Column
columns_of d (planned count cost columns) = columns
columns_of d (no_plan bound places) = d
columns_of d (not_placed item columns) = d

pub same_planned : (c k d l : Kept) (a b : List Column) → planned c k a ≡ planned d l b → a ≡ b
unfolding columns_of
same_planned c k d l a b h = ap (columns_of a) h

-- names
trip_name : (o : Option DayTrip) (name other : ItemName) → IsSomeAnd o (λ (trip : DayTrip). name ≡ Trip trip.fid) →
    IsSomeAnd o (λ (trip : DayTrip). other ≡ Trip trip.fid) → name ≡ other
trip_name None name other h k = absurd h
trip_name (Some trip) name other h k = h ∙ sym k

piece_name : (o : Option WorkPiece) (name other : ItemName) →
    IsSomeAnd o (λ (piece : WorkPiece). name ≡ Piece piece.block piece.index) →
    IsSomeAnd o (λ (piece : WorkPiece). other ≡ Piece piece.block piece.index) → name ≡ other
piece_name None name other h k = absurd h
piece_name (Some piece) name other h k = h ∙ sym k

-- a day has no two plans of blocks that are known, nor one and none
abbrev pub HasOneKnown : DayFacts → Type 0
HasOneKnown facts = (flow : Bool) (one other : Option KnownPlan) → AreKnownBlocks facts flow one →
    AreKnownBlocks facts flow other → one ≡ other

-- Two endings of a day are endings of the method with what is known of its blocks, and this is one (`HasOneKnown`), so they are
-- endings of one problem, which has one (`DayEndsOnce`).
pub plan_ends_once : (facts : DayFacts) → HasOneKnown facts → ((known : Option KnownPlan) → DayEndsOnce (day_problems facts known)) →
    PlanEndsOnce facts
plan_ends_once facts known once asked fixed one other h k =
    let P : Option KnownPlan → Type 0 = λ p. DayEndsAs (day_problems facts p) asked.numbers one in
    once k.known asked.numbers fixed one other (subst P (known asked.flow h.known k.known h.known_is k.known_is) h.ends) k.ends

module _ (facts : DayFacts) (known : HasOneKnown facts) (asked : Asked) (fixed : asked.numbers.climb ≡ false)
    (ends : EndsOnce (blocks_of facts true) (blocks_of facts false)) where
  one_blocks : (a b : SidePlan) → ArePlannedBlocks facts asked a → ArePlannedBlocks facts asked b → a.columns ≡ b.columns
  one_blocks a b h k =
      let P : Option KnownPlan → Type 0 =
      λ p. EndsBy (blocks_of facts true) (blocks_of facts false) asked.numbers p (planned a.count a.cost h.columns) in
      let same : planned a.count a.cost h.columns ≡ planned b.count b.cost k.columns =
      ends asked.numbers fixed k.known (planned a.count a.cost h.columns) (planned b.count b.cost k.columns)
      (subst P (known asked.flow h.known k.known h.known_is k.known_is) h.planned) k.planned in
      h.order ∙ (ap printed (same_planned a.count a.cost b.count b.cost h.columns k.columns same) ∙ sym k.order)

  -- An item that is left is named by its trip's FRT_FID, or by block and index of its piece. Pieces hang on the blocks that were
  -- planned before, and these are the same columns in both endings (`one_blocks`), so the item's number decides its name.
  one_name : (side : Side) (item : ℕ) (name other : ItemName) (columns : List Column) → IsLeftItem facts asked side item name columns →
      IsLeftItem facts asked side item other columns → name ≡ other
  one_name Vehicles item name other columns h k = trip_name (slice_get facts.trips item) name other h.1 k.1
  one_name Drivers item name other columns h k =
      let P : List Column → Type 0 =
      λ blocks. IsSomeAnd (slice_get (pieces_of_plan facts blocks) item) (λ (piece : WorkPiece). name ≡ Piece piece.block piece.index) in
      piece_name (slice_get (pieces_of_plan facts k.blocks.columns) item) name other
      (subst P (one_blocks h.blocks k.blocks h.blocks_are k.blocks_are) h.named) k.named

  one_left : (side other : Side) (i j : ℕ) (name other_name : ItemName) (a b : Plan) →
      left_out side i a.columns ≡ left_out other j b.columns →
      IsLeftItem facts asked side i name a.columns → IsLeftItem facts asked other j other_name b.columns →
      faults.NotPlaced side i name a ≡ faults.NotPlaced other j other_name b
  one_left side other i j name other_name a b same h k =
      let sides : side ≡ other = same_side side other i j a.columns b.columns same in
      let items : i ≡ j = same_item side other i j a.columns b.columns same in
      let columns : a.columns ≡ b.columns = same_columns side other i j a.columns b.columns same in
      let P : Side → Type 0 = λ s. IsLeftItem facts asked s i name a.columns in
      let Q : ℕ → Type 0 = λ n. IsLeftItem facts asked other n name a.columns in
      let R : List Column → Type 0 = λ cs. IsLeftItem facts asked other j name cs in
      let names : name ≡ other_name = one_name other j name other_name b.columns (subst R columns (subst Q items (subst P sides h))) k in
      ap (λ (s : Side). faults.NotPlaced s i name a) sides
      ∙ (ap (λ (n : ℕ). faults.NotPlaced other n name a) items
      ∙ (ap (λ (n : ItemName). faults.NotPlaced other j n a) names
      ∙ ap (λ (cs : List Column). faults.NotPlaced other j other_name (record { columns = cs })) columns))

module _ (facts : DayFacts) (once : PlanEndsOnce facts) where
  -- A text is written of an ending with blocks and duties, and the day has one ending; two endings that are equal have equal parts
  -- (`same_blocks`, `same_duties`). The table of trips is given, so the bytes are one function of these parts.
  pub one_text : HasOneText facts
  one_text = λ asked fixed table one other h k.
      let same : answered h.blocks h.duties ≡ answered k.blocks k.duties =
      once asked fixed (answered h.blocks h.duties) (answered k.blocks k.duties) h.plan.ends k.plan.ends in
      h.written
      ∙ (ap (λ (s : SidePlan). text (answer_tables facts table (answer_of facts s h.duties)))
      (same_blocks h.blocks h.duties k.blocks k.duties same)
      ∙ (ap (λ (s : SidePlan). text (answer_tables facts table (answer_of facts k.blocks s)))
      (same_duties h.blocks h.duties k.blocks k.duties same) ∙ sym k.written))

  pub one_short_text : HasOneShortText facts
  one_short_text = λ asked fixed one other h k.
      let same : answered h.blocks h.duties ≡ answered k.blocks k.duties =
      once asked fixed (answered h.blocks h.duties) (answered k.blocks k.duties) h.plan.ends k.plan.ends in
      h.written
      ∙ (ap (λ (s : SidePlan). text (short_tables facts s h.duties)) (same_blocks h.blocks h.duties k.blocks k.duties same)
      ∙ (ap (λ (s : SidePlan). text (short_tables facts k.blocks s)) (same_duties h.blocks h.duties k.blocks k.duties same)
      ∙ sym k.written))

  -- a day that is planned has no cause for a refusal
  -- A cause says that the day ends with a side without plan or with an item that is left, and a plan says that it ends with an answer.
  -- The day has one ending, and the three are told apart by `kind_in`. Running out of memory is no ending and stays possible.
  plan_or_cause : (asked : Asked) → asked.numbers.climb ≡ false → (blocks duties : SidePlan) (fault : PlanFault) →
      PlanEndsAs facts asked (answered blocks duties) → IsPlanCauseOver facts asked fault → fault ≡ faults.Memory
  plan_or_cause asked fixed blocks duties (faults.NoPlan side bound places) ends cause =
      absurd (not_refused blocks duties side bound places
      (once asked fixed (answered blocks duties) (refused side bound places) ends cause.0))
  plan_or_cause asked fixed blocks duties (faults.NotPlaced side item name partial) ends cause =
      absurd (not_left blocks duties side item partial.columns
      (once asked fixed (answered blocks duties) (left_out side item partial.columns) ends cause.0))
  plan_or_cause asked fixed blocks duties faults.Memory ends cause = refl

  pub text_or_cause : HasTextOrCause facts
  text_or_cause = λ asked fixed table bytes fault h. plan_or_cause asked fixed h.blocks h.duties fault h.plan.ends

  pub short_text_or_cause : HasShortTextOrCause facts
  short_text_or_cause = λ asked fixed bytes fault h. plan_or_cause asked fixed h.blocks h.duties fault h.plan.ends

  module _ (known : HasOneKnown facts) (ends : EndsOnce (blocks_of facts true) (blocks_of facts false)) where
    -- By pairs of causes: both say how the day ends, so they are of one kind with the same numbers and columns, and the name of an
    -- item follows from its number (`one_left`). With `text_or_cause` a day that is planned by fixed rounds has one answer.
    pub one_cause : HasOneCause facts
    one_cause = λ asked fixed one other h k. go asked fixed one other h k
      where
        go : (asked : Asked) → asked.numbers.climb ≡ false → (one other : PlanFault) → IsPlanCauseOver facts asked one →
            IsPlanCauseOver facts asked other → (one ≡ other) ⊎ ((one ≡ faults.Memory) ⊎ (other ≡ faults.Memory))
        go asked fixed faults.Memory other h k = inr (inl refl)
        go asked fixed (faults.NoPlan side bound places) faults.Memory h k = inr (inr refl)
        go asked fixed (faults.NotPlaced side item name partial) faults.Memory h k = inr (inr refl)
        go asked fixed (faults.NoPlan side bound places) (faults.NoPlan side' bound' places') h k =
            inl (same_refusal side side' bound places bound' places'
            (once asked fixed (refused side bound places) (refused side' bound' places') h.0 k.0))
        go asked fixed (faults.NoPlan side bound places) (faults.NotPlaced side' item name partial) h k =
            absurd (not_both side side' bound places item partial.columns
            (once asked fixed (refused side bound places) (left_out side' item partial.columns) h.0 k.0))
        go asked fixed (faults.NotPlaced side' item name partial) (faults.NoPlan side bound places) h k =
            absurd (not_both side side' bound places item partial.columns
            (once asked fixed (refused side bound places) (left_out side' item partial.columns) k.0 h.0))
        go asked fixed (faults.NotPlaced side i name a) (faults.NotPlaced other j other_name b) h k =
            inl (one_left facts known asked fixed ends side other i j name other_name a b
            (once asked fixed (left_out side i a.columns) (left_out other j b.columns) h.0 k.0) h.1 k.1)
