-- Promise: the text of the new plan of a day from a moment on, and why there is none.
use Rattle.std.specs.Prelude.{◌≡◌, ◌⊎◌, ℕ, List}
use Rattle.vdv451_text.specs.declared.table.Table.{Table}
use Rattle.vdv451_text.specs.Plain.{text}
use Rattle.cover_plan.specs.Endings.{Numbers}
use Rattle.day_method.specs.Method.{SidePlan}
use Rattle.day_model.specs.Facts.{DayFacts}
use Rattle.umlauf_write.specs.declared.text.PlanText.{PlanText}
use Rattle.umlauf_write.specs.Answers.{answer_tables}
use Rattle.cert_check.specs.declared.old.OldPlan.TheVariants.{Good, Bad}
use Rattle.cert_check.specs.Old.{IsOldAnswer}
use Rattle.plan_command.specs.declared.fault.PlanFault.{PlanFault}
use Rattle.plan_command.specs.declared.fault.PlanFault.TheVariants as plans
use Rattle.plan_command.specs.PlanText.{answer_of}
use Rattle.replan_command.specs.declared.fault.ReplanFault.{ReplanFault}
use Rattle.replan_command.specs.declared.fault.ReplanFault.TheVariants as faults
use Rattle.replan_command.specs.Replanning.{IsReplanned, IsRestCause, Replan, replan_of}

-- The text of the new plan, from the table that the trips were read from: the seven tables of the blocks and duties that the method ends
-- with.
pub record IsTextOf (r : Replan) (numbers : Numbers) (table : Table) (bytes : List ℕ) : Type 0 where
  pub blocks : SidePlan
  pub duties : SidePlan
  pub plan : IsReplanned r numbers blocks duties
  pub written : bytes ≡ text (answer_tables r.day table (answer_of r.day blocks duties))

-- The text of the new plan of a day from a moment on, by the tables of an earlier plan, which are a plan of the day, whatever places
-- there are. No worker occurs in it.
pub record IsReplanTextOver (day : DayFacts) (old : List Table) (moment : ℕ) (numbers : Numbers) (table : Table) (bytes : List ℕ) : Type 0
  where
    pub earlier : PlanText
    pub good : IsOldAnswer day old (Good earlier)
    pub text_is : IsTextOf (replan_of day earlier moment) numbers table bytes

-- the tables of an earlier plan are one, and what is left from the moment on has no plan, for this cause
pub record IsUnplannedRest (day : DayFacts) (old : List Table) (moment : ℕ) (numbers : Numbers) (fault : PlanFault) : Type 0 where
  pub earlier : PlanText
  pub good : IsOldAnswer day old (Good earlier)
  pub cause : IsRestCause (replan_of day earlier moment) numbers fault

-- why there is no text: the first reason against the tables of the earlier plan, or a cause in what is left; running out of memory needs
-- none
abbrev pub IsReplanCauseOver : DayFacts → List Table → ℕ → Numbers → ReplanFault → Type 0
IsReplanCauseOver day old moment numbers (faults.OldPlan reason) = IsOldAnswer day old (Bad reason)
IsReplanCauseOver day old moment numbers (faults.Plan fault) = (fault ≡ plans.Memory) ⊎ IsUnplannedRest day old moment numbers fault
