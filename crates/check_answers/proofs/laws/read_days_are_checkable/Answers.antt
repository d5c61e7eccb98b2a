use Rattle.check_answers.proofs.DayRead.{day-checkable}
use Rattle.check_answers.proofs.laws.read_days_are_checkable.Goals as goal

pub returns : goal.returns
returns c = day-checkable
