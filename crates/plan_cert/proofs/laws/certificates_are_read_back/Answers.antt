use Rattle.plan_cert.proofs.ReadBack.{reads-back}
use Rattle.plan_cert.proofs.laws.certificates_are_read_back.Goals as goal

pub returns : goal.returns
returns c = reads-back
