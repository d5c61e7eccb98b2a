use Rattle.replan_command.proofs.AlikeReplans.{same_causes, same_texts}
use Rattle.replan_command.proofs.laws.days_alike_are_replanned_alike.Goals as goal

pub returns-clause-texts : goal.returns-clause-texts
returns-clause-texts c = same_texts

pub returns-clause-causes : goal.returns-clause-causes
returns-clause-causes c = same_causes
