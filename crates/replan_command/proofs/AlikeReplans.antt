-- Two days that are alike have the same texts and the same causes for a refusal, when they are planned anew.
use Rattle.std.proofs.Common.{◌≡◌, inl, inr, ℕ, Bool, true, false, List, Some, sym, ap, ◌∙◌, subst}
use Rattle.vdv451_text.specs.declared.table.Table.{Table}
use Rattle.vdv451_text.specs.Plain.{text}
use Rattle.cover_core.specs.declared.Column.{Column}
use Rattle.cover_core.specs.Cover.{Problem}
use Rattle.cover_core.specs.Plans.{IsPlan}
use Rattle.cover_plan.specs.Endings.{Numbers}
use Rattle.day_method.specs.declared.side.Side.{Side}
use Rattle.day_method.specs.declared.side.Side.TheVariants.{Vehicles, Drivers}
use Rattle.day_method.specs.Method.{DayProblems, SidePlan, DayEnding, DayEndsAs}
use Rattle.day_method.specs.Method.{answered, refused, left_out}
use Rattle.trip_times.specs.declared.trip.Trip.{Trip}
use Rattle.day_model.specs.Facts.{DayFacts}
use Rattle.duty_network.specs.Duties.{DutyFacts, duties}
use Rattle.umlauf_write.specs.declared.text.PlanText.{PlanText}
use Rattle.umlauf_write.specs.Answers.{answer_tables}
use Rattle.cover_rest.specs.Keeping.{KeepsBegun}
use Rattle.block_rest.specs.declared.head.Head.{Head}
use Rattle.block_rest.specs.Rest.{may_begin}
use Rattle.block_rest.specs.Rest.{begun_of as begun_blocks_of}
use Rattle.duty_rest.specs.Rest.{begun_of as begun_duties_of}
use Rattle.cert_check.specs.declared.old.OldPlan.TheVariants.{Good, Bad}
use Rattle.plan_command.specs.declared.fault.ItemName.{ItemName}
use Rattle.plan_command.specs.declared.fault.PlanFault.{PlanFault}
use Rattle.plan_command.specs.declared.fault.PlanFault.TheVariants as plans
use Rattle.plan_command.specs.Alike.{AreAlike}
use Rattle.plan_command.specs.PlanText.{answer_of}
use Rattle.plan_command.proofs.AlikeDays.{answers_alike, same_blocks, tables_alike}
use Rattle.replan_command.specs.declared.fault.ReplanFault.{ReplanFault}
use Rattle.replan_command.specs.declared.fault.ReplanFault.TheVariants as faults
use Rattle.replan_command.specs.Alike.{HaveSameCauses, HaveSameTexts}
use Rattle.replan_command.specs.Begun.{none_begun}
use Rattle.replan_command.specs.Replanning.{AreWrittenBlocks, HasNoneOf, IsKeptSide, IsLeftItem, IsLeftOf, IsReplanned, IsRestCause, IsWrittenSide, KeepsBlocks, KeepsDuties, Replan, block_heads, block_items, blocks_left, piece_name, replan_of, rest_problems, trip_name}
use Rattle.replan_command.specs.ReplanText.{IsReplanCauseOver, IsTextOf, IsUnplannedRest}
use Rattle.replan_command.proofs.AlikeOld.{old_alike}
use Rattle.replan_command.proofs.AlikeRests.{facts_alike, heads_by, items_by, left_by, may_alike, same_heads, same_items, same_left, same_problems}

-- two sides are kept alike where the same columns keep what has begun
kept_side : (Keeps Keeps' : List Column → Type 0) → ((columns : List Column) → Keeps columns → Keeps' columns) →
    ((columns : List Column) → Keeps' columns → Keeps columns) →
    (side : SidePlan) → IsKeptSide Keeps side → IsKeptSide Keeps' side
kept_side Keeps Keeps' to back side h = record {
  keeps = to side.columns h.keeps;
  number = λ columns k. h.number columns (back columns k);
  cost = λ columns k. h.cost columns (back columns k);
}

turned : (one other : DayFacts) → AreAlike one other → AreAlike other one
turned one other alike = record {
  versions = sym alike.versions;
  kinds = sym alike.kinds;
  trips = sym alike.trips;
  params = sym alike.params;
  deads = λ from to. sym (alike.deads from to);
}

-- plans that keep what has begun on the one day keep it on the other
module _ (one other : DayFacts) (alike : AreAlike one other) (earlier : PlanText) (moment : ℕ) where
  blocks_kept : (blocks : List Column) → KeepsBlocks (replan_of one earlier moment) blocks →
      KeepsBlocks (replan_of other earlier moment) blocks
  blocks_kept blocks h =
      let P : (Bool → Problem) → Type 0 = λ problem. IsPlan (problem false) blocks in
      let Q : List Head → Type 0 = λ heads. KeepsBegun (begun_blocks_of heads) (may_begin one moment) blocks in
      let R : (ℕ → List ℕ → Bool) → Type 0 =
      λ may. KeepsBegun (begun_blocks_of (block_heads (replan_of other earlier moment))) may blocks in
      record {
        plan = subst P (same_blocks one other alike) h.plan;
        keeps = subst R (may_alike one other alike moment) (subst Q (same_heads one other alike earlier moment) h.keeps);
      }

  duties_kept : (blocks columns : List Column) → KeepsDuties (replan_of one earlier moment) blocks columns →
      KeepsDuties (replan_of other earlier moment) blocks columns
  duties_kept blocks columns h =
      let P : (List Column → Bool → DutyFacts) → Type 0 = λ facts. IsPlan (duties (facts blocks false)) columns in
      let Q : (List Column → Bool → DutyFacts) → Type 0 = λ facts.
      KeepsBegun (begun_duties_of (heads_by earlier moment facts blocks))
      (λ class list. none_begun moment (facts blocks false).pieces list) columns in
      record { plan = subst P (facts_alike one other alike) h.plan; keeps = subst Q (facts_alike one other alike) h.keeps }

module _ (one other : DayFacts) (alike : AreAlike one other) (earlier : PlanText) (moment : ℕ) (numbers : Numbers) where
  -- what is replanned on both days
  abbrev a : Replan
  a = replan_of one earlier moment

  abbrev b : Replan
  b = replan_of other earlier moment

  blocks_back : (blocks : List Column) → KeepsBlocks b blocks → KeepsBlocks a blocks
  blocks_back = blocks_kept other one (turned one other alike) earlier moment

  duties_back : (blocks columns : List Column) → KeepsDuties b blocks columns → KeepsDuties a blocks columns
  duties_back = duties_kept other one (turned one other alike) earlier moment

  ends_alike : (ending : DayEnding) → DayEndsAs (rest_problems a) numbers ending → DayEndsAs (rest_problems b) numbers ending
  ends_alike ending h = let P : DayProblems → Type 0 = λ problems. DayEndsAs problems numbers ending in
      subst P (same_problems one other alike earlier moment) h

  -- The method ends alike, since what is left is the same problem. That bounds hold of all plans that keep what has begun needs both
  -- directions: such a plan of the second day must be one of the first, so the likeness is turned round (`turned`).
  replanned_alike : (blocks duties : SidePlan) → IsReplanned a numbers blocks duties → IsReplanned b numbers blocks duties
  replanned_alike blocks duties h = record {
    ends = ends_alike (answered blocks duties) h.ends;
    blocks_are = kept_side (KeepsBlocks a) (KeepsBlocks b) (blocks_kept one other alike earlier moment) blocks_back blocks h.blocks_are;
    duties_are = kept_side (KeepsDuties a blocks.columns) (KeepsDuties b blocks.columns)
        (duties_kept one other alike earlier moment blocks.columns) (duties_back blocks.columns) duties h.duties_are;
  }

  written_alike : (blocks : SidePlan) → AreWrittenBlocks a numbers blocks → AreWrittenBlocks b numbers blocks
  written_alike blocks h =
      let P : (Bool → Problem) → Type 0 = λ problem. IsWrittenSide (problem true) (problem false) (block_items a) numbers blocks in
      let Q : List (List ℕ) → Type 0 = λ items. IsWrittenSide (blocks_left b true) (blocks_left b false) items numbers blocks in
      subst Q (same_items one other alike earlier moment) (subst P (same_left one other alike earlier moment) h)

  none_alike : (side : Side) → HasNoneOf a numbers side → HasNoneOf b numbers side
  none_alike Vehicles none = λ columns keeps. none columns (blocks_back columns keeps)
  none_alike Drivers (blocks, are, none) =
      (blocks, written_alike blocks are, λ columns keeps. none columns (duties_back blocks.columns columns keeps))

  trip_names : (item : ℕ) → trip_name one.trips (block_items a) item ≡ trip_name other.trips (block_items b) item
  trip_names item =
      ap (λ (trips : List Trip). trip_name trips (block_items a) item) alike.trips
      ∙ ap (λ (items : List (List ℕ)). trip_name other.trips items item) (same_items one other alike earlier moment)

  left_alike : (side : Side) (item : ℕ) (name : ItemName) (partial : List Column) → IsLeftItem a numbers side item name partial →
      IsLeftItem b numbers side item name partial
  left_alike Vehicles item name partial (left, named) =
      let P : (Bool → Problem) → Type 0 = λ problem. IsLeftOf (problem false) (block_items a) item partial in
      let Q : List (List ℕ) → Type 0 = λ items. IsLeftOf (blocks_left b false) items item partial in (
        subst Q (same_items one other alike earlier moment) (subst P (same_left one other alike earlier moment) left),
        sym (trip_names item) ∙ named,
      )
  left_alike Drivers item name partial h =
      let blocks = h.blocks.columns in
      let P : (List Column → Bool → DutyFacts) → Type 0 = λ facts.
      IsLeftOf (left_by earlier moment facts blocks false) (items_by earlier moment facts blocks) item partial in
      let Q : (List Column → Bool → DutyFacts) → Type 0 =
      λ facts. piece_name (facts blocks false).pieces (items_by earlier moment facts blocks) item ≡ Some name in
      record {
        blocks = h.blocks;
        blocks_are = written_alike h.blocks h.blocks_are;
        is_left = subst P (facts_alike one other alike) h.is_left;
        named = subst Q (facts_alike one other alike) h.named;
      }

  rest_cause_alike : (fault : PlanFault) → IsRestCause a numbers fault → IsRestCause b numbers fault
  rest_cause_alike (plans.NoPlan side bound places) h = (ends_alike (refused side bound places) h.0, none_alike side h.1)
  rest_cause_alike (plans.NotPlaced side item name partial) h =
      (ends_alike (left_out side item partial.columns) h.0, left_alike side item name partial.columns h.1)
  rest_cause_alike plans.Memory h = h

module _ (one other : DayFacts) (alike : AreAlike one other) where
  text_alike : (earlier : PlanText) (moment : ℕ) (numbers : Numbers) (table : Table) (bytes : List ℕ) →
      IsTextOf (replan_of one earlier moment) numbers table bytes → IsTextOf (replan_of other earlier moment) numbers table bytes
  text_alike earlier moment numbers table bytes h = record {
    blocks = h.blocks;
    duties = h.duties;
    plan = replanned_alike one other alike earlier moment numbers h.blocks h.duties h.plan;
    written = h.written ∙ (ap text (tables_alike one other alike table (answer_of one h.blocks h.duties))
        ∙ ap (λ answer. text (answer_tables other table answer)) (answers_alike one other alike h.blocks h.duties));
  }

  pub same_texts : HaveSameTexts one other
  same_texts = λ old moment numbers table bytes h. record {
    earlier = h.earlier;
    good = old_alike one other alike old (Good h.earlier) h.good;
    text_is = text_alike h.earlier moment numbers table bytes h.text_is;
  }

  unplanned_alike : (old : List Table) (moment : ℕ) (numbers : Numbers) (fault : PlanFault) → IsUnplannedRest one old moment numbers fault →
      IsUnplannedRest other old moment numbers fault
  unplanned_alike old moment numbers fault h = record {
    earlier = h.earlier;
    good = old_alike one other alike old (Good h.earlier) h.good;
    cause = rest_cause_alike one other alike h.earlier moment numbers fault h.cause;
  }

  cause_alike : (old : List Table) (moment : ℕ) (numbers : Numbers) (fault : ReplanFault) → IsReplanCauseOver one old moment numbers fault →
      IsReplanCauseOver other old moment numbers fault
  cause_alike old moment numbers (faults.OldPlan reason) h = old_alike one other alike old (Bad reason) h
  cause_alike old moment numbers (faults.Plan fault) (inl none) = inl none
  cause_alike old moment numbers (faults.Plan fault) (inr rest) = inr (unplanned_alike old moment numbers fault rest)

  pub same_causes : HaveSameCauses one other
  same_causes = λ old moment numbers fault h. cause_alike old moment numbers fault h
