use Rattle.plan_certify.proofs.AlikeCertificates.{same_certificates}
use Rattle.plan_certify.proofs.laws.days_alike_are_certified_alike.Goals as goal

pub returns : goal.returns
returns c = λ one other alike. same_certificates one other alike
