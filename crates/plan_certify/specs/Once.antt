-- Promise: a planned day has one certificate, and a day that is planned by fixed rounds has one text of it, or one cause.
use Rattle.std.specs.Prelude.{◌≡◌, ℕ, false, List}
use Rattle.vdv451_text.specs.declared.table.Table.{Table}
use Rattle.day_method.specs.Method.{SidePlan}
use Rattle.day_model.specs.Facts.{DayFacts}
use Rattle.plan_cert.specs.declared.cert.Cert.{Cert}
use Rattle.plan_command.specs.declared.fault.PlanFault.{PlanFault}
use Rattle.plan_command.specs.declared.fault.PlanFault.TheVariants as faults
use Rattle.plan_command.specs.Planning.{Asked, IsPlanCauseOver}
use Rattle.plan_command.specs.PlanText.{IsPlanTextOver}
use Rattle.plan_certify.specs.Certificate.{IsCertOf, IsCertTextOver}

-- two certificates of the same blocks and duties are the same, however these were planned
abbrev pub HasOneCert : DayFacts → Type 0
HasOneCert facts = (blocks duties : SidePlan) (one other : Cert) → IsCertOf facts blocks duties one → IsCertOf facts blocks duties other →
    one ≡ other

-- two texts of certificates of a day are the same
abbrev pub HasOneCertText : DayFacts → Type 0
HasOneCertText facts = (asked : Asked) → asked.numbers.climb ≡ false → (one other : List ℕ) → IsCertTextOver facts asked one →
    IsCertTextOver facts asked other → one ≡ other

-- the text of a certificate is of the blocks and duties that the text of the plan has
abbrev pub CertifiesThePlan : DayFacts → Type 0
CertifiesThePlan facts =
    (asked : Asked) → asked.numbers.climb ≡ false →
    (table : Table) (one other : List ℕ) (plan : IsPlanTextOver facts asked table one) (cert : IsCertTextOver facts asked other) →
    (plan.blocks ≡ cert.blocks) × (plan.duties ≡ cert.duties)

-- a day whose certificate has a text has no cause for a refusal, but for running out of memory
abbrev pub HasCertOrCause : DayFacts → Type 0
HasCertOrCause facts =
    (asked : Asked) → asked.numbers.climb ≡ false → (bytes : List ℕ) (fault : PlanFault) → IsCertTextOver facts asked bytes →
    IsPlanCauseOver facts asked fault → fault ≡ faults.Memory
