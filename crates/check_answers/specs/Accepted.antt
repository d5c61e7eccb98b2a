-- Promise: the checker accepts what the planner writes.
use Rattle.std.specs.Prelude.{length}
use Rattle.vdv451_text.specs.declared.table.Table.{Table}
use Rattle.cover_core.specs.declared.Plan.{Plan}
use Rattle.cover_core.specs.Plans.{cost}
use Rattle.umlauf_write.specs.declared.text.PlanText.{PlanText}
use Rattle.day_method.specs.Method.{SidePlan}
use Rattle.day_model.specs.Facts.{DayFacts}
use Rattle.plan_read.specs.ReadsBack.{text_of}
use Rattle.plan_cert.specs.declared.cert.Cert.{Cert}
use Rattle.plan_command.specs.PlanText.{answer_of}
use Rattle.plan_certify.specs.Certificate.{IsCertOf}
use Rattle.cert_check.specs.declared.reason.Answered.{Answered}
use Rattle.cert_check.specs.declared.reason.Answered.TheVariants.{Yes, No}
use Rattle.cert_check.specs.Reasons.{IsAccepted, IsAnswer}
use Rattle.check_answers.specs.Checkable.{IsCheckable, case_of}

-- what the tables of blocks and duties say
abbrev pub written_text : DayFacts → SidePlan → SidePlan → PlanText
written_text facts blocks duties = text_of facts (answer_of facts blocks duties)

-- the columns of one side as a plan
abbrev pub plan_of : SidePlan → Plan
plan_of side = record { columns = side.columns }

-- a yes with the numbers and costs of blocks and duties
abbrev pub yes_for : SidePlan → SidePlan → Answered
yes_for blocks duties = Yes (length blocks.columns) (cost blocks.columns) (length duties.columns) (cost duties.columns)

-- Blocks and duties that can be checked, written as tables with their certificate, are accepted: what is read back are these blocks, these
-- duties and this certificate, and nothing is against them.
abbrev pub WrittenAreAccepted : Type 0
WrittenAreAccepted =
    (facts : DayFacts) (table : Table) (blocks duties : SidePlan) (cert : Cert) → IsCheckable facts table blocks duties →
    IsCertOf facts blocks duties cert →
    IsAccepted (case_of facts table blocks duties cert) (written_text facts blocks duties) (plan_of blocks) (plan_of duties) cert

-- So a yes with their numbers is an answer.
abbrev pub YesIsAnAnswer : Type 0
YesIsAnAnswer =
    (facts : DayFacts) (table : Table) (blocks duties : SidePlan) (cert : Cert) → IsCheckable facts table blocks duties →
    IsCertOf facts blocks duties cert → IsAnswer (case_of facts table blocks duties cert) (yes_for blocks duties)

abbrev pub IsYes : Answered → Type 0
IsYes (Yes vehicles block_cost duty_count duty_cost) = Unit {0}
IsYes (No reason) = ⊥

-- And no answer is a no.
abbrev pub EachAnswerIsYes : Type 0
EachAnswerIsYes =
    (facts : DayFacts) (table : Table) (blocks duties : SidePlan) (cert : Cert) → IsCheckable facts table blocks duties →
    IsCertOf facts blocks duties cert → (answer : Answered) → IsAnswer (case_of facts table blocks duties cert) answer → IsYes answer
