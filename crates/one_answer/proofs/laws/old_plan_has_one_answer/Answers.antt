use Rattle.one_answer.proofs.OldOnce.{one-old-answer}
use Rattle.one_answer.proofs.laws.old_plan_has_one_answer.Goals as goal

pub returns : goal.returns
returns c = λ day plan. one-old-answer day plan
