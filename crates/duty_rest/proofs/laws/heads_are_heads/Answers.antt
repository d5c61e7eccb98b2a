use Rattle.duty_rest.proofs.Apart.{heads-are}
use Rattle.duty_rest.proofs.laws.heads_are_heads.Goals as goal

pub returns : goal.returns
returns c = heads-are
