use Rattle.day_method.proofs.Days.{one_day}
use Rattle.day_method.proofs.laws.day_ends_once.Goals as goal

pub returns : goal.returns
returns c = λ day numbers fixed one other h k. one_day day numbers fixed one other h k
