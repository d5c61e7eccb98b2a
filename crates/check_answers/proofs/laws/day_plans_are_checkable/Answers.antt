use Rattle.check_answers.proofs.Checkable.{plans-checkable}
use Rattle.check_answers.proofs.laws.day_plans_are_checkable.Goals as goal

pub returns : goal.returns
returns c = plans-checkable c.printed_once.ensures
