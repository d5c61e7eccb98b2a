use Rattle.cert_check.proofs.OldLaws.{says-old}
use Rattle.cert_check.proofs.laws.answers_say_old.Goals as goal

pub returns : goal.returns
returns c = λ k. says-old k
