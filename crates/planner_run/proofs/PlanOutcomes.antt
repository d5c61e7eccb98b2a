-- A day has one plan, or one cause why it has none, unless it is planned by climbing.
use Rattle.std.proofs.Common.{◌≡◌, ℕ, ◌⊎◌, inl, inr, false, ◌&&◌, List, refl, sym, ◌∙◌, ap, subst}
use Rattle.vdv451_text.specs.declared.table.Table.{Table}
use Rattle.day_model.specs.Facts.{DayFacts}
use Rattle.plan_command.specs.declared.fault.PlanFault.{PlanFault}
use Rattle.plan_command.specs.declared.fault.PlanFault.TheVariants as faults
use Rattle.plan_command.specs.Once.{HasOneCause, HasOneShortText, HasOneText, HasShortTextOrCause, HasTextOrCause}
use Rattle.plan_command.specs.Planning.{Asked}
use Rattle.plan_command.proofs.AlikeDays.{same_causes, same_short_texts, same_texts}
use Rattle.plan_command.proofs.Ends.{blocks_end_once, known_once, planning_ends_once}
use Rattle.plan_command.proofs.OneAnswer.{one_cause as one_cause_of, one_short_text as one_short_text_of, one_text as one_text_of, short_text_or_cause as short_or_cause_of, text_or_cause as text_or_cause_of}
use Rattle.planner_run.specs.declared.status.Status.{Status}
use Rattle.planner_run.specs.MadeText.{IsShortText}
use Rattle.planner_run.specs.PlanText.{IsPlanCause, IsPlanText, IsUnplanned, plan_status_of}
use Rattle.planner_run.specs.Run.{is_of_planning}
use Rattle.planner_run.proofs.ModelOutcomes.{days_alike, model_no_cause, one_model_cause}

-- a day has one text, one cause, and not both
pub days_text : (facts : DayFacts) → HasOneText facts
days_text facts = one_text_of facts (planning_ends_once facts)

pub days_short : (facts : DayFacts) → HasOneShortText facts
days_short facts = one_short_text_of facts (planning_ends_once facts)

days_cause : (facts : DayFacts) → HasOneCause facts
days_cause facts =
    one_cause_of facts (planning_ends_once facts) (known_once facts) (blocks_end_once facts)

days_either : (facts : DayFacts) → HasTextOrCause facts
days_either facts = text_or_cause_of facts (planning_ends_once facts)

short_either : (facts : DayFacts) → HasShortTextOrCause facts
short_either facts = short_or_cause_of facts (planning_ends_once facts)

-- two causes, neither of which is running out of memory, are one
same_fault : (one other : PlanFault) → (one ≡ faults.Memory → ⊥) → (other ≡ faults.Memory → ⊥) →
    (one ≡ other) ⊎ ((one ≡ faults.Memory) ⊎ (other ≡ faults.Memory)) → one ≡ other
same_fault one other p q (inl same) = same
same_fault one other p q (inr (inl memory)) = absurd (p memory)
same_fault one other p q (inr (inr memory)) = absurd (q memory)

-- The two refusals of planning are open exactly where it climbs, so one that is not open was given by fixed rounds, and running out of
-- memory is no refusal. By this `one_plan_cause` may use that fixed rounds end in one way, and promises nothing of climbing.
pub in_rounds : (asked : Asked) (fault : PlanFault) (s : Status) → (fault ≡ faults.Memory → ⊥) → s ≡ plan_status_of fault →
    (is_of_planning s && asked.numbers.climb) ≡ false → asked.numbers.climb ≡ false
in_rounds asked (faults.NoPlan side bound places) s told is settled =
    let P : Status → Type 0 = λ s. (is_of_planning s && asked.numbers.climb) ≡ false in subst P is settled
in_rounds asked (faults.NotPlaced side item name partial) s told is settled =
    let P : Status → Type 0 = λ s. (is_of_planning s && asked.numbers.climb) ≡ false in subst P is settled
in_rounds asked faults.Memory s told is settled = absurd (told refl)

one_unplanned : (asked : Asked) → asked.numbers.climb ≡ false → (tables : List Table) (day : ℕ) (s t : Status) →
    IsUnplanned asked tables day s → IsUnplanned asked tables day t → s ≡ t
one_unplanned asked fixed tables day s t p q =
    let cause = same_causes p.facts q.facts (days_alike tables day p.facts q.facts p.model q.model) asked p.fault p.cause in
    p.is ∙ ap plan_status_of (same_fault p.fault q.fault p.told q.told (days_cause q.facts asked fixed p.fault q.fault cause q.cause))
    ∙ sym q.is

-- A cause lies in the tables or in planning, and not both: planning has a day, and tables with a day have no cause. Two of planning
-- may be of two models of the day; these are alike (`days_alike`), so one cause is carried to the other's day, where fixed rounds have
-- one.
pub one_plan_cause : (asked : Asked) (tables : List Table) (day : ℕ) (s t : Status) → (is_of_planning t && asked.numbers.climb) ≡ false →
    IsPlanCause asked tables day s → IsPlanCause asked tables day t → s ≡ t
one_plan_cause asked tables day s t settled (inl p) (inl q) = one_model_cause tables day s t p q
one_plan_cause asked tables day s t settled (inl p) (inr q) = model_no_cause tables day q.facts s q.model p
one_plan_cause asked tables day s t settled (inr p) (inl q) = model_no_cause tables day p.facts t p.model q
one_plan_cause asked tables day s t settled (inr p) (inr q) =
    one_unplanned asked (in_rounds asked q.fault t q.told q.is settled) tables day s t p q

-- a day with a plan is not refused
pub plan_text_no_cause : (asked : Asked) (tables : List Table) (day : ℕ) (bytes : List ℕ) (s : Status) →
    (is_of_planning s && asked.numbers.climb) ≡ false → IsPlanText asked tables day bytes → IsPlanCause asked tables day s → ⊥
plan_text_no_cause asked tables day bytes s settled p (inl q) = model_no_cause tables day p.facts s p.model q
plan_text_no_cause asked tables day bytes s settled p (inr q) =
    let written = same_texts p.facts q.facts (days_alike tables day p.facts q.facts p.model q.model) asked p.table bytes p.plan in
    q.told (days_either q.facts asked (in_rounds asked q.fault s q.told q.is settled) p.table bytes q.fault written q.cause)

pub short_text_no_cause : (asked : Asked) (tables : List Table) (day : ℕ) (bytes : List ℕ) (s : Status) →
    (is_of_planning s && asked.numbers.climb) ≡ false → IsShortText asked tables day bytes → IsPlanCause asked tables day s → ⊥
short_text_no_cause asked tables day bytes s settled p (inl q) = model_no_cause tables day p.facts s p.model q
short_text_no_cause asked tables day bytes s settled p (inr q) =
    let written = same_short_texts p.facts q.facts (days_alike tables day p.facts q.facts p.model q.model) asked bytes p.plan in
    q.told (short_either q.facts asked (in_rounds asked q.fault s q.told q.is settled) bytes q.fault written q.cause)
