use Rattle.plan_command.proofs.AlikeDays.{same_causes, same_short_texts, same_texts}
use Rattle.plan_command.proofs.laws.days_alike_answer_alike.Goals as goal

pub returns-clause-texts : goal.returns-clause-texts
returns-clause-texts c = same_texts

pub returns-clause-causes : goal.returns-clause-causes
returns-clause-causes c = same_causes

pub returns-clause-shorts : goal.returns-clause-shorts
returns-clause-shorts c = same_short_texts
