use Rattle.std.proofs.Common.{◌≡◌, subst}
use Rattle.std.specs.Prelude.{Err, Ok}
use Rattle.umlauf_write.specs.declared.text.PlanFault.TheVariants as faults
use Rattle.cert_check.specs.Judging.{Case, text_in}
use Rattle.cert_check.proofs.blocks.plan_text.Goals as goal

pub returns-in-Ok-clause-said : goal.returns-in-Ok-clause-said
returns-in-Ok-clause-said c = subst (λ (k : Case). text_in k ≡ Ok c.in-Ok.text) c.case.view_is c.in-Ok.ensures.read

pub returns-in-Err-Form-clause-stop : goal.returns-in-Err-Form-clause-stop
returns-in-Err-Form-clause-stop c =
    subst (λ (k : Case). text_in k ≡ Err (faults.Form c.in-Err-Form.table c.in-Err-Form.row)) c.case.view_is
    (rw c.in-Err-Form.field-0-is at c.in-Err-Form.ensures.read)
