use Rattle.week_check.proofs.OneAnswer as answers
use Rattle.week_check.proofs.roster.one_answer.Goals as goal

pub returns : goal.returns
returns c = answers.one_answer
