-- The certificate whose text is written of a day is that of the plan whose text is written of it, so the two are accepted together.
use Rattle.std.proofs.Common.{sym, subst}
use Rattle.day_method.specs.Method.{SidePlan}
use Rattle.day_model.specs.Facts.{DayFacts}
use Rattle.plan_read.specs.Laws.{IsPrintedOnce}
use Rattle.plan_read.specs.ReadsBack.{PlanReadsBack}
use Rattle.plan_cert.specs.declared.shape.Shape.{Shape}
use Rattle.plan_cert.specs.Laws.{ReadsBack}
use Rattle.plan_certify.specs.Certificate.{IsCertOf}
use Rattle.plan_certify.specs.Once.{CertifiesThePlan}
use Rattle.cert_check.specs.Certified.{AcceptedHasNoReason}
use Rattle.cert_check.specs.Judging.{Case}
use Rattle.check_answers.specs.Checkable.{IsCheckable}
use Rattle.check_answers.specs.Texts.{TextsAreAccepted}
use Rattle.check_answers.proofs.Accepted.{each-yes, yes-answer}
use Rattle.check_answers.proofs.Checkable.{plans-checkable}

-- Each of the two commands plans the day for itself; fixed rounds make them end alike (`CertifiesThePlan`), so the certificate is one
-- of the written plan's blocks and duties, and what was shown of a plan and its own certificate applies (`yes-answer`, `each-yes`).
pub texts-accepted : IsPrintedOnce → PlanReadsBack → ((shape : Shape) → ReadsBack shape) → ((c : Case) → AcceptedHasNoReason c) →
    ((facts : DayFacts) → CertifiesThePlan facts) → TextsAreAccepted
texts-accepted once back cert_back none same facts table numbers day fixed one other plan cert =
    let (blocks, duties) = same facts numbers fixed table one other plan cert in
    let P : SidePlan → Type 0 = λ s. IsCertOf facts s cert.duties cert.cert in
    let Q : SidePlan → Type 0 = λ s. IsCertOf facts plan.blocks s cert.cert in
    let certifies : IsCertOf facts plan.blocks plan.duties cert.cert = subst Q (sym duties) (subst P (sym blocks) cert.parts) in
    let checkable : IsCheckable facts table plan.blocks plan.duties = plans-checkable once facts table numbers plan.blocks plan.duties day
    plan.plan in
    record {
      answers = yes-answer back cert_back facts table plan.blocks plan.duties cert.cert checkable certifies;
      only = each-yes back cert_back none facts table plan.blocks plan.duties cert.cert checkable certifies;
    }
