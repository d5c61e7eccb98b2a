-- Promise: the tables of the two texts of a day are accepted.
use Rattle.std.specs.Prelude.{◌≡◌, ℕ, false, List}
use Rattle.plan_command.specs.Planning.{Asked}
use Rattle.vdv451_text.specs.declared.table.Table.{Table}
use Rattle.day_model.specs.Facts.{DayFacts}
use Rattle.plan_command.specs.PlanText.{IsPlanTextOver}
use Rattle.plan_certify.specs.Certificate.{IsCertTextOver}
use Rattle.cert_check.specs.declared.reason.Answered.{Answered}
use Rattle.cert_check.specs.Judging.{Case}
use Rattle.cert_check.specs.Reasons.{IsAnswer}
use Rattle.check_answers.specs.Accepted.{IsYes, yes_for}
use Rattle.check_answers.specs.Checkable.{IsCheckableDay, case_of}

-- an answer is there, and it is a yes
pub record IsAnsweredYes (c : Case) (yes : Answered) : Type 0 where
  pub answers : IsAnswer c yes
  pub only : (answer : Answered) → IsAnswer c answer → IsYes answer

-- Of a day that is planned by fixed rounds: the tables of the text of its plan, with those of the text of its certificate, get a yes with
-- the number and the cost of the plan's blocks and duties, and no other kind of answer.
abbrev pub TextsAreAccepted : Type 0
TextsAreAccepted =
    (facts : DayFacts) (table : Table) (asked : Asked) → IsCheckableDay facts table → asked.numbers.climb ≡ false →
    (one other : List ℕ) (plan : IsPlanTextOver facts asked table one) (cert : IsCertTextOver facts asked other) →
    IsAnsweredYes (case_of facts table plan.blocks plan.duties cert.cert) (yes_for plan.blocks plan.duties)
