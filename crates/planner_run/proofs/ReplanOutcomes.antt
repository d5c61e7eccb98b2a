-- A day has one new plan, or one cause why it has none, unless what is left of it is planned by climbing; and an earlier plan that is
-- refused is refused alone.
use Rattle.std.proofs.Common.{◌≡◌, ℕ, ◌⊎◌, inl, inr, false, ◌&&◌, List, sym, ◌∙◌, ap, subst}
use Rattle.vdv451_text.specs.declared.table.Table.{Table}
use Rattle.vdv452_rows.specs.Rows.{table_of}
use Rattle.vdv452_rows.specs.Schema as schema
use Rattle.cover_plan.specs.Endings.{Numbers}
use Rattle.day_model.specs.Facts.{DayFacts}
use Rattle.plan_command.specs.declared.fault.PlanFault.TheVariants as plans
use Rattle.replan_command.specs.declared.fault.ReplanFault.{ReplanFault}
use Rattle.replan_command.specs.declared.fault.ReplanFault.TheVariants as faults
use Rattle.replan_command.specs.ReplanText.{IsReplanCauseOver, IsReplanTextOver}
use Rattle.replan_command.proofs.AlikeReplans.{same_causes, same_texts}
use Rattle.replan_command.proofs.OneReplan.{one_cause, one_text, refused_alone, text_or_cause}
use Rattle.planner_run.specs.declared.status.Status.{Status}
use Rattle.planner_run.specs.ReplanText.{IsNotReplanned, IsReplanCause, IsReplanText, replan_status_of}
use Rattle.planner_run.specs.Run.{is_of_planning}
use Rattle.planner_run.proofs.ModelOutcomes.{days_alike, model_no_cause, one_model_cause}
use Rattle.planner_run.proofs.Outcomes.{some_same}
use Rattle.planner_run.proofs.PlanOutcomes.{in_rounds}

-- not running out of memory
abbrev IsTold : ReplanFault → Type 0
IsTold fault = fault ≡ faults.Plan plans.Memory → ⊥

-- two causes, neither of which is running out of memory, are one
same_fault : (one other : ReplanFault) → IsTold one → IsTold other →
    (one ≡ other) ⊎ ((one ≡ faults.Plan plans.Memory) ⊎ (other ≡ faults.Plan plans.Memory)) → one ≡ other
same_fault one other p q (inl same) = same
same_fault one other p q (inr (inl memory)) = absurd (p memory)
same_fault one other p q (inr (inr memory)) = absurd (q memory)

only_fault : (one other : ReplanFault) → IsTold one → (one ≡ other) ⊎ (one ≡ faults.Plan plans.Memory) → one ≡ other
only_fault one other p (inl same) = same
only_fault one other p (inr memory) = absurd (p memory)

-- A refusal that is not left open is the only one: an earlier plan is refused by its tables alone, and what is left is planned by fixed
-- rounds.
-- So also where planning climbs, an earlier plan that is refused is refused in every run; only what comes after it is open.
one_fault : (numbers : Numbers) (moment : ℕ) (old : List Table) (facts : DayFacts) (one other : ReplanFault) (t : Status) →
    (is_of_planning t && numbers.climb) ≡ false → t ≡ replan_status_of other
    → IsTold one → IsTold other → IsReplanCauseOver facts old moment numbers one →
    IsReplanCauseOver facts old moment numbers other → one ≡ other
one_fault numbers moment old facts one (faults.OldPlan reason) t settled is p q cause refusal =
    only_fault one (faults.OldPlan reason) p ((refused_alone facts old moment numbers reason refusal).no_other one cause)
one_fault numbers moment old facts one (faults.Plan fault) t settled is p q cause refusal =
    let fixed : numbers.climb ≡ false =
    in_rounds (record { numbers = numbers; flow = false }) fault t (λ e. q (ap (λ f. faults.Plan f) e)) is settled in
    same_fault one (faults.Plan fault) p q (one_cause facts old moment numbers fixed one (faults.Plan fault) cause refusal)

one_not_replanned : (numbers : Numbers) (moment : ℕ) (tables old : List Table) (day : ℕ) (s t : Status) →
    (is_of_planning t && numbers.climb) ≡ false
    → IsNotReplanned numbers moment tables old day s → IsNotReplanned numbers moment tables old day t → s ≡ t
one_not_replanned numbers moment tables old day s t settled p q =
    let cause = same_causes p.facts q.facts (days_alike tables day p.facts q.facts p.model q.model) old moment numbers p.fault p.cause in
    p.is ∙ ap replan_status_of (one_fault numbers moment old q.facts p.fault q.fault t settled q.is p.told q.told cause q.cause) ∙ sym q.is

-- As for a plan: a cause lies in the planning tables or behind them, and not both, since tables with a day have no cause; two behind
-- them are carried to one model of the day (`days_alike`) and are one there (`one_fault`).
pub one_replan_cause : (numbers : Numbers) (moment : ℕ) (tables old : List Table) (day : ℕ) (s t : Status) →
    (is_of_planning t && numbers.climb) ≡ false
    → IsReplanCause numbers moment tables old day s → IsReplanCause numbers moment tables old day t → s ≡ t
one_replan_cause numbers moment tables old day s t settled (inl p) (inl q) = one_model_cause tables day s t p q
one_replan_cause numbers moment tables old day s t settled (inl p) (inr q) = model_no_cause tables day q.facts s q.model p
one_replan_cause numbers moment tables old day s t settled (inr p) (inl q) = model_no_cause tables day p.facts t p.model q
one_replan_cause numbers moment tables old day s t settled (inr p) (inr q) = one_not_replanned numbers moment tables old day s t settled p q

-- a day with a new plan is not refused
text_no_fault : (numbers : Numbers) (moment : ℕ) (old : List Table) (facts : DayFacts) (table : Table) (bytes : List ℕ)
    (fault : ReplanFault) (s : Status) → (is_of_planning s && numbers.climb) ≡ false
    → s ≡ replan_status_of fault → IsTold fault → IsReplanTextOver facts old moment numbers table bytes →
    IsReplanCauseOver facts old moment numbers fault → ⊥
text_no_fault numbers moment old facts table bytes (faults.OldPlan reason) s settled is told written cause =
    (refused_alone facts old moment numbers reason cause).no_text table bytes written
text_no_fault numbers moment old facts table bytes (faults.Plan fault) s settled is told written cause =
    let fixed : numbers.climb ≡ false =
    in_rounds (record { numbers = numbers; flow = false }) fault s (λ e. told (ap (λ f. faults.Plan f) e)) is settled in
    told (text_or_cause facts old moment numbers fixed table bytes (faults.Plan fault) written cause)

pub replan_text_no_cause : (numbers : Numbers) (moment : ℕ) (tables old : List Table) (day : ℕ) (bytes : List ℕ) (s : Status) →
    (is_of_planning s && numbers.climb) ≡ false
    → IsReplanText numbers moment tables old day bytes → IsReplanCause numbers moment tables old day s → ⊥
replan_text_no_cause numbers moment tables old day bytes s settled p (inl q) = model_no_cause tables day p.facts s p.model q
replan_text_no_cause numbers moment tables old day bytes s settled p (inr q) =
    let written = same_texts p.facts q.facts (days_alike tables day p.facts q.facts p.model q.model) old moment
    numbers p.table bytes p.plan in
    text_no_fault numbers moment old q.facts p.table bytes q.fault s settled q.is q.told written q.cause

-- one text of a new plan
pub one_replan_text : (numbers : Numbers) → numbers.climb ≡ false → (moment : ℕ) (tables old : List Table) (day : ℕ) (xs ys : List ℕ) →
    IsReplanText numbers moment tables old day xs
    → IsReplanText numbers moment tables old day ys → xs ≡ ys
one_replan_text numbers fixed moment tables old day xs ys p q =
    let table : p.table ≡ q.table = some_same (table_of schema.trips tables) p.table q.table p.found q.found in
    let P : Table → Type 0 = λ t. IsReplanTextOver p.facts old moment numbers t xs in
    let written = same_texts p.facts q.facts (days_alike tables day p.facts q.facts p.model q.model) old moment numbers
    q.table xs (subst P table p.plan) in
    one_text q.facts old moment numbers fixed q.table xs ys written q.plan
