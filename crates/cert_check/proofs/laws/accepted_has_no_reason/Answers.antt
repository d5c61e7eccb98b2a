use Rattle.cert_check.proofs.Exact.{accepted-exact}
use Rattle.cert_check.proofs.laws.accepted_has_no_reason.Goals as goal

pub returns : goal.returns
returns c = λ k. accepted-exact k
