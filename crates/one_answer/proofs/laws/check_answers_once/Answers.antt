use Rattle.one_answer.proofs.Once.{one-answer}
use Rattle.one_answer.proofs.laws.check_answers_once.Goals as goal

pub returns : goal.returns
returns c = λ k. one-answer k
