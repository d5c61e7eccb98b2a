use Rattle.replan_command.proofs.OneReplan.{one_cause, one_text, refused_alone, text_or_cause}
use Rattle.replan_command.proofs.laws.replan_answers_once.Goals as goal

pub returns-clause-text : goal.returns-clause-text
returns-clause-text c = one_text

pub returns-clause-cause : goal.returns-clause-cause
returns-clause-cause c = one_cause

pub returns-clause-either : goal.returns-clause-either
returns-clause-either c = text_or_cause

pub returns-clause-refused : goal.returns-clause-refused
returns-clause-refused c = refused_alone
