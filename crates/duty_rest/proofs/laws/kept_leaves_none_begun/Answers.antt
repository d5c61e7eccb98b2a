use Rattle.duty_rest.proofs.Belongs.{none-begun}
use Rattle.duty_rest.proofs.laws.kept_leaves_none_begun.Goals as goal

pub returns : goal.returns
returns c = none-begun
