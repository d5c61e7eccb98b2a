-- Promise: there is one answer.
use Rattle.std.specs.Prelude.{◌≡◌, List}
use Rattle.vdv451_text.specs.declared.table.Table.{Table}
use Rattle.day_model.specs.Facts.{DayFacts}
use Rattle.cert_check.specs.declared.old.OldPlan.{OldPlan}
use Rattle.cert_check.specs.declared.reason.Answered.{Answered}
use Rattle.cert_check.specs.Judging.{Case}
use Rattle.cert_check.specs.Old.{IsOldAnswer}
use Rattle.cert_check.specs.Reasons.{IsAnswer}

-- two answers to one case are the same
abbrev pub HasOneAnswer : Case → Type 0
HasOneAnswer c = (a b : Answered) → IsAnswer c a → IsAnswer c b → a ≡ b

-- two answers on the tables of an earlier plan are the same
abbrev pub HasOneOldAnswer : DayFacts → List Table → Type 0
HasOneOldAnswer day plan = (a b : OldPlan) → IsOldAnswer day plan a → IsOldAnswer day plan b → a ≡ b
