use Rattle.plan_command.proofs.Ends.{blocks_end_once, known_once, planning_ends_once}
use Rattle.plan_command.proofs.OneAnswer.{one_text, one_cause, one_short_text, short_text_or_cause, text_or_cause}
use Rattle.plan_command.proofs.laws.day_answers_once.Goals as goal

pub returns-clause-ends : goal.returns-clause-ends
returns-clause-ends c = planning_ends_once

pub returns-clause-text : goal.returns-clause-text
returns-clause-text c = λ facts. one_text facts (planning_ends_once facts)

pub returns-clause-cause : goal.returns-clause-cause
returns-clause-cause c = λ facts. one_cause facts (planning_ends_once facts) (known_once facts) (blocks_end_once facts)

pub returns-clause-either : goal.returns-clause-either
returns-clause-either c = λ facts. text_or_cause facts (planning_ends_once facts)

pub returns-clause-short : goal.returns-clause-short
returns-clause-short c = λ facts. one_short_text facts (planning_ends_once facts)

pub returns-clause-short_either : goal.returns-clause-short_either
returns-clause-short_either c = λ facts. short_text_or_cause facts (planning_ends_once facts)
