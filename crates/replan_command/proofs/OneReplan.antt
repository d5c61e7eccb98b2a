-- What is left of a day and is planned by fixed rounds has one text, or one cause for a refusal.
use Rattle.std.proofs.Common.{◌≡◌, ◌⊎◌, inl, inr, ℕ, true, false, List, Some, refl, sym, ap, ◌∙◌, subst}
use Rattle.vdv451_text.specs.declared.table.Table.{Table}
use Rattle.vdv451_text.specs.Plain.{text}
use Rattle.cover_core.specs.declared.Column.{Column}
use Rattle.cover_core.specs.declared.Plan.{Plan}
use Rattle.cover_plan.specs.Endings.{Numbers}
use Rattle.cover_plan.specs.Endings.{planned}
use Rattle.cover_plan.proofs.Once.{one_ending}
use Rattle.day_method.specs.declared.side.Side.{Side}
use Rattle.day_method.specs.declared.side.Side.TheVariants.{Vehicles, Drivers}
use Rattle.day_method.specs.Method.{SidePlan, DayEnding, DayEndsAs}
use Rattle.day_method.specs.Method.{answered, refused, left_out}
use Rattle.day_method.proofs.Days.{one_day}
use Rattle.day_model.specs.Facts.{DayFacts}
use Rattle.block_cut.specs.Cuts.{pieces_of_plan}
use Rattle.umlauf_write.specs.declared.text.PlanText.{PlanText}
use Rattle.umlauf_write.specs.Answers.{answer_tables}
use Rattle.umlauf_write.specs.Printed.{printed}
use Rattle.cover_rest.specs.Rest.{written_plan}
use Rattle.cert_check.specs.declared.old.OldPlan.TheVariants.{Good, Bad}
use Rattle.cert_check.specs.declared.reason.Reason.{Reason}
use Rattle.cert_check.specs.Old.{IsOldAnswer}
use Rattle.one_answer.proofs.Firsts.{some-same}
use Rattle.one_answer.proofs.OldOnce.{one-old-answer}
use Rattle.plan_command.specs.declared.fault.ItemName.{ItemName}
use Rattle.plan_command.specs.declared.fault.PlanFault.{PlanFault}
use Rattle.plan_command.specs.declared.fault.PlanFault.TheVariants as plans
use Rattle.plan_command.specs.PlanText.{answer_of}
use Rattle.plan_command.proofs.OneAnswer.{not_both, not_left, not_refused, same_blocks, same_columns, same_duties, same_item, same_planned, same_refusal, same_side}
use Rattle.replan_command.specs.declared.fault.ReplanFault.{ReplanFault}
use Rattle.replan_command.specs.declared.fault.ReplanFault.TheVariants as faults
use Rattle.replan_command.specs.Once.{HasOneCause, HasOneText, HasTextOrCause, RefusedAlone}
use Rattle.replan_command.specs.Replanning.{AreWrittenBlocks, IsLeftItem, IsRestCause, Replan, block_items, blocks_left, duty_items, piece_name, replan_of, rest_problems, trip_name}
use Rattle.replan_command.specs.ReplanText.{IsReplanCauseOver, IsReplanTextOver, IsTextOf, IsUnplannedRest}

-- what is left ends in one way
module _ (r : Replan) (numbers : Numbers) (fixed : numbers.climb ≡ false) where
  -- What is left is planned by fixed rounds, and these end in one way; two texts, or two causes, each tell an ending. So all below is
  -- to compare endings: two of a kind have the same contents, and two of different kinds cannot both be.
  rest_once : (one other : DayEnding) → DayEndsAs (rest_problems r) numbers one → DayEndsAs (rest_problems r) numbers other → one ≡ other
  rest_once = one_day (rest_problems r) numbers fixed

  one_blocks : (a b : SidePlan) → AreWrittenBlocks r numbers a → AreWrittenBlocks r numbers b → a.columns ≡ b.columns
  one_blocks a b h k =
      let same : planned a.count a.cost h.columns ≡ planned b.count b.cost k.columns =
      one_ending (blocks_left r true) (blocks_left r false) numbers fixed (planned a.count a.cost h.columns)
      (planned b.count b.cost k.columns) h.made k.made in
      h.order ∙ (ap (λ (columns : List Column). printed (written_plan (block_items r) columns))
      (same_planned a.count a.cost b.count b.cost h.columns k.columns same) ∙ sym k.order)

  one_name : (side : Side) (item : ℕ) (name other : ItemName) (columns : List Column) → IsLeftItem r numbers side item name columns →
      IsLeftItem r numbers side item other columns → name ≡ other
  one_name Vehicles item name other columns h k = some-same (trip_name r.day.trips (block_items r) item) name other h.1 k.1
  one_name Drivers item name other columns h k =
      let P : List Column → Type 0 = λ blocks. piece_name (pieces_of_plan r.day blocks) (duty_items r blocks) item ≡ Some name in
      some-same (piece_name (pieces_of_plan r.day k.blocks.columns) (duty_items r k.blocks.columns) item) name other
      (subst P (one_blocks h.blocks k.blocks h.blocks_are k.blocks_are) h.named) k.named

  one_left : (side other : Side) (i j : ℕ) (name other_name : ItemName) (a b : Plan) →
      left_out side i a.columns ≡ left_out other j b.columns →
      IsLeftItem r numbers side i name a.columns → IsLeftItem r numbers other j other_name b.columns →
      plans.NotPlaced side i name a ≡ plans.NotPlaced other j other_name b
  one_left side other i j name other_name a b same h k =
      let sides : side ≡ other = same_side side other i j a.columns b.columns same in
      let items : i ≡ j = same_item side other i j a.columns b.columns same in
      let columns : a.columns ≡ b.columns = same_columns side other i j a.columns b.columns same in
      let P : Side → Type 0 = λ s. IsLeftItem r numbers s i name a.columns in
      let Q : ℕ → Type 0 = λ n. IsLeftItem r numbers other n name a.columns in
      let R : List Column → Type 0 = λ cs. IsLeftItem r numbers other j name cs in
      let names : name ≡ other_name = one_name other j name other_name b.columns (subst R columns (subst Q items (subst P sides h))) k in
      ap (λ (s : Side). plans.NotPlaced s i name a) sides
      ∙ (ap (λ (n : ℕ). plans.NotPlaced other n name a) items
      ∙ (ap (λ (n : ItemName). plans.NotPlaced other j n a) names
      ∙ ap (λ (cs : List Column). plans.NotPlaced other j other_name (record { columns = cs })) columns))

  -- Two causes in what is left are the same, but for running out of memory. Each tells an ending of what is left, and there is one.
  -- The name of an item that is left is told by the item and, for pieces, by the new blocks, which are one too (`one_blocks`).
  cause_once : (one other : PlanFault) → IsRestCause r numbers one → IsRestCause r numbers other →
      (one ≡ other) ⊎ ((one ≡ plans.Memory) ⊎ (other ≡ plans.Memory))
  cause_once plans.Memory other h k = inr (inl refl)
  cause_once (plans.NoPlan side bound places) plans.Memory h k = inr (inr refl)
  cause_once (plans.NotPlaced side item name partial) plans.Memory h k = inr (inr refl)
  cause_once (plans.NoPlan side bound places) (plans.NoPlan side' bound' places') h k =
      inl (same_refusal side side' bound places bound' places'
      (rest_once (refused side bound places) (refused side' bound' places') h.0 k.0))
  cause_once (plans.NoPlan side bound places) (plans.NotPlaced side' item name partial) h k =
      absurd (not_both side side' bound places item partial.columns
      (rest_once (refused side bound places) (left_out side' item partial.columns) h.0 k.0))
  cause_once (plans.NotPlaced side' item name partial) (plans.NoPlan side bound places) h k =
      absurd (not_both side side' bound places item partial.columns
      (rest_once (refused side bound places) (left_out side' item partial.columns) k.0 h.0))
  cause_once (plans.NotPlaced side i name a) (plans.NotPlaced other j other_name b) h k =
      inl (one_left side other i j name other_name a b (rest_once (left_out side i a.columns) (left_out other j b.columns) h.0 k.0) h.1 k.1)

  text_once : (table : Table) (one other : List ℕ) → IsTextOf r numbers table one → IsTextOf r numbers table other → one ≡ other
  text_once table one other h k =
      let same : answered h.blocks h.duties ≡ answered k.blocks k.duties =
      rest_once (answered h.blocks h.duties) (answered k.blocks k.duties) h.plan.ends k.plan.ends in
      h.written
      ∙ (ap (λ (s : SidePlan). text (answer_tables r.day table (answer_of r.day s h.duties)))
      (same_blocks h.blocks h.duties k.blocks k.duties same)
      ∙ (ap (λ (s : SidePlan). text (answer_tables r.day table (answer_of r.day k.blocks s)))
      (same_duties h.blocks h.duties k.blocks k.duties same) ∙ sym k.written))

  -- what is left and has a text has no cause
  plan_or_cause : (table : Table) (bytes : List ℕ) (fault : PlanFault) → IsTextOf r numbers table bytes →
      IsRestCause r numbers fault → fault ≡ plans.Memory
  plan_or_cause table bytes (plans.NoPlan side bound places) h cause =
      absurd (not_refused h.blocks h.duties side bound places
      (rest_once (answered h.blocks h.duties) (refused side bound places) h.plan.ends cause.0))
  plan_or_cause table bytes (plans.NotPlaced side item name partial) h cause =
      absurd (not_left h.blocks h.duties side item partial.columns
      (rest_once (answered h.blocks h.duties) (left_out side item partial.columns) h.plan.ends cause.0))
  plan_or_cause table bytes plans.Memory h cause = refl

-- The tables of an earlier plan say one plan, or one reason is against them, and not both.
module _ (day : DayFacts) (old : List Table) where
  one_earlier : (a b : PlanText) → IsOldAnswer day old (Good a) → IsOldAnswer day old (Good b) → a ≡ b
  one_earlier a b h k = let same : Good a ≡ Good b = one-old-answer day old (Good a) (Good b) h k in cc

  one_reason : (a b : Reason) → IsOldAnswer day old (Bad a) → IsOldAnswer day old (Bad b) → a ≡ b
  one_reason a b h k = let same : Bad a ≡ Bad b = one-old-answer day old (Bad a) (Bad b) h k in cc

  good_or_bad : (a : PlanText) (b : Reason) → IsOldAnswer day old (Good a) → IsOldAnswer day old (Bad b) → ⊥
  good_or_bad a b h k = let same : Good a ≡ Bad b = one-old-answer day old (Good a) (Bad b) h k in cc

-- texts and causes of what is left, whose earlier plan is one
module _ (day : DayFacts) (old : List Table) (moment : ℕ) (numbers : Numbers) (fixed : numbers.climb ≡ false) where
  same_text : (table : Table) (one other : List ℕ) → IsReplanTextOver day old moment numbers table one →
      IsReplanTextOver day old moment numbers table other → one ≡ other
  same_text table one other h k =
      let P : PlanText → Type 0 = λ earlier. IsTextOf (replan_of day earlier moment) numbers table one in
      text_once (replan_of day k.earlier moment) numbers fixed table one other
      (subst P (one_earlier day old h.earlier k.earlier h.good k.good) h.text_is) k.text_is

  same_cause : (one other : PlanFault) → IsUnplannedRest day old moment numbers one → IsUnplannedRest day old moment numbers other →
      (one ≡ other) ⊎ ((one ≡ plans.Memory) ⊎ (other ≡ plans.Memory))
  same_cause one other h k =
      let P : PlanText → Type 0 = λ earlier. IsRestCause (replan_of day earlier moment) numbers one in
      cause_once (replan_of day k.earlier moment) numbers fixed one other
      (subst P (one_earlier day old h.earlier k.earlier h.good k.good) h.cause) k.cause

  text_or_memory : (table : Table) (bytes : List ℕ) (fault : PlanFault) → IsReplanTextOver day old moment numbers table bytes →
      IsUnplannedRest day old moment numbers fault → fault ≡ plans.Memory
  text_or_memory table bytes fault h k =
      let P : PlanText → Type 0 = λ earlier. IsTextOf (replan_of day earlier moment) numbers table bytes in
      plan_or_cause (replan_of day k.earlier moment) numbers fixed table bytes fault
      (subst P (one_earlier day old h.earlier k.earlier h.good k.good) h.text_is) k.cause

-- a cause as a fault of replanning
abbrev as_fault : PlanFault → ReplanFault
as_fault fault = faults.Plan fault

-- running out of memory as one
lacks : (fault : PlanFault) → fault ≡ plans.Memory → faults.Plan fault ≡ faults.Plan plans.Memory
lacks fault none = ap as_fault none

same_faults : (one other : PlanFault) → (one ≡ other) ⊎ ((one ≡ plans.Memory) ⊎ (other ≡ plans.Memory)) →
    (faults.Plan one ≡ faults.Plan other) ⊎ ((faults.Plan one ≡ faults.Plan plans.Memory) ⊎ (faults.Plan other ≡ faults.Plan plans.Memory))
same_faults one other (inl same) = inl (ap as_fault same)
same_faults one other (inr (inl none)) = inr (inl (lacks one none))
same_faults one other (inr (inr none)) = inr (inr (lacks other none))

module _ (day : DayFacts) where
  -- The tables of an earlier plan say one plan (`one_earlier`), the rest of it ends in one way, and the text is written of that
  -- ending. So any number of workers prints the same bytes.
  pub one_text : HasOneText day
  one_text = λ old moment numbers fixed table one other h k. same_text day old moment numbers fixed table one other h k

  cause_of : (old : List Table) (moment : ℕ) (numbers : Numbers) → numbers.climb ≡ false → (one other : ReplanFault) →
      IsReplanCauseOver day old moment numbers one → IsReplanCauseOver day old moment numbers other →
      (one ≡ other) ⊎ ((one ≡ faults.Plan plans.Memory) ⊎ (other ≡ faults.Plan plans.Memory))
  cause_of old moment numbers fixed (faults.OldPlan a) (faults.OldPlan b) h k =
      inl (ap (λ (reason : Reason). faults.OldPlan reason) (one_reason day old a b h k))
  cause_of old moment numbers fixed (faults.OldPlan a) (faults.Plan b) h (inl none) = inr (inr (lacks b none))
  cause_of old moment numbers fixed (faults.OldPlan a) (faults.Plan b) h (inr rest) =
      absurd (good_or_bad day old rest.earlier a rest.good h)
  cause_of old moment numbers fixed (faults.Plan a) (faults.OldPlan b) (inl none) k = inr (inl (lacks a none))
  cause_of old moment numbers fixed (faults.Plan a) (faults.OldPlan b) (inr rest) k =
      absurd (good_or_bad day old rest.earlier b rest.good k)
  cause_of old moment numbers fixed (faults.Plan a) (faults.Plan b) (inl none) k = inr (inl (lacks a none))
  cause_of old moment numbers fixed (faults.Plan a) (faults.Plan b) (inr rest) (inl none) = inr (inr (lacks b none))
  cause_of old moment numbers fixed (faults.Plan a) (faults.Plan b) (inr rest) (inr again) =
      same_faults a b (same_cause day old moment numbers fixed a b rest again)

  pub one_cause : HasOneCause day
  one_cause = λ old moment numbers fixed one other h k. cause_of old moment numbers fixed one other h k

  memory_of : (old : List Table) (moment : ℕ) (numbers : Numbers) → numbers.climb ≡ false →
      (table : Table) (bytes : List ℕ) (fault : ReplanFault) →
      IsReplanTextOver day old moment numbers table bytes → IsReplanCauseOver day old moment numbers fault →
      fault ≡ faults.Plan plans.Memory
  memory_of old moment numbers fixed table bytes (faults.OldPlan reason) h k = absurd (good_or_bad day old h.earlier reason h.good k)
  memory_of old moment numbers fixed table bytes (faults.Plan fault) h (inl none) = lacks fault none
  memory_of old moment numbers fixed table bytes (faults.Plan fault) h (inr rest) =
      lacks fault (text_or_memory day old moment numbers fixed table bytes fault h rest)

  pub text_or_cause : HasTextOrCause day
  text_or_cause = λ old moment numbers fixed table bytes fault h k. memory_of old moment numbers fixed table bytes fault h k

  -- by whichever method
  reason_of : (old : List Table) (moment : ℕ) (numbers : Numbers) (reason : Reason) → IsOldAnswer day old (Bad reason) →
      (fault : ReplanFault) →
      IsReplanCauseOver day old moment numbers fault → (fault ≡ faults.OldPlan reason) ⊎ (fault ≡ faults.Plan plans.Memory)
  reason_of old moment numbers reason bad (faults.OldPlan other) h =
      inl (ap (λ (r : Reason). faults.OldPlan r) (one_reason day old other reason h bad))
  reason_of old moment numbers reason bad (faults.Plan fault) (inl none) = inr (lacks fault none)
  reason_of old moment numbers reason bad (faults.Plan fault) (inr rest) = absurd (good_or_bad day old rest.earlier reason rest.good bad)

  -- An earlier plan is judged before anything is planned, so no method enters: a text and every other cause presuppose that it is
  -- good.
  pub refused_alone : RefusedAlone day
  refused_alone = λ old moment numbers reason bad. record {
    no_text = λ table bytes h. good_or_bad day old h.earlier reason h.good bad;
    no_other = λ fault h. reason_of old moment numbers reason bad fault h;
  }
