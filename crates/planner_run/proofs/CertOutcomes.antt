-- A day has one certificate, or one cause why it has none, unless it is planned by climbing.
use Rattle.std.proofs.Common.{◌≡◌, ℕ, inl, inr, false, ◌&&◌, List}
use Rattle.vdv451_text.specs.declared.table.Table.{Table}
use Rattle.day_model.specs.Facts.{DayFacts}
use Rattle.plan_command.specs.Planning.{Asked}
use Rattle.plan_command.proofs.Ends.{planning_ends_once}
use Rattle.plan_certify.specs.Once.{HasCertOrCause, HasOneCertText}
use Rattle.plan_certify.proofs.OneCert.{cert-or-cause, one-cert-text}
use Rattle.plan_certify.proofs.AlikeCertificates.{same_certificates}
use Rattle.planner_run.specs.declared.status.Status.{Status}
use Rattle.planner_run.specs.CertText.{IsCertText}
use Rattle.planner_run.specs.PlanText.{IsPlanCause}
use Rattle.planner_run.specs.Run.{is_of_planning}
use Rattle.planner_run.proofs.ModelOutcomes.{days_alike, model_no_cause}
use Rattle.planner_run.proofs.PlanOutcomes.{in_rounds}

pub days_certificate : (facts : DayFacts) → HasOneCertText facts
days_certificate facts = one-cert-text facts (planning_ends_once facts)

either : (facts : DayFacts) → HasCertOrCause facts
either facts = cert-or-cause facts (planning_ends_once facts)

-- a day with a certificate is not refused
pub cert_text_no_cause : (asked : Asked) (tables : List Table) (day : ℕ) (bytes : List ℕ) (s : Status) →
    (is_of_planning s && asked.numbers.climb) ≡ false → IsCertText asked tables day bytes
    → IsPlanCause asked tables day s → ⊥
cert_text_no_cause asked tables day bytes s settled p (inl q) = model_no_cause tables day p.facts s p.model q
cert_text_no_cause asked tables day bytes s settled p (inr q) =
    let written = same_certificates p.facts q.facts (days_alike tables day p.facts q.facts p.model q.model) asked bytes p.cert in
    q.told (either q.facts asked (in_rounds asked q.fault s q.told q.is settled) bytes q.fault written q.cause)

-- one certificate of the tables
pub one_certificate : (asked : Asked) → asked.numbers.climb ≡ false → (tables : List Table) (day : ℕ) (xs ys : List ℕ) →
    IsCertText asked tables day xs → IsCertText asked tables day ys → xs ≡ ys
one_certificate asked fixed tables day xs ys p q =
    days_certificate q.facts asked fixed xs ys
    (same_certificates p.facts q.facts (days_alike tables day p.facts q.facts p.model q.model) asked xs p.cert) q.cert
