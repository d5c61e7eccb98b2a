use Rattle.check_answers.proofs.Accepted.{each-yes, written-accepted, yes-answer}
use Rattle.check_answers.proofs.laws.written_are_accepted.Goals as goal

pub returns-clause-accepted : goal.returns-clause-accepted
returns-clause-accepted c = written-accepted c.plans_are_read_back.ensures c.certificates_are_read_back.ensures

pub returns-clause-yes : goal.returns-clause-yes
returns-clause-yes c = yes-answer c.plans_are_read_back.ensures c.certificates_are_read_back.ensures

pub returns-clause-only : goal.returns-clause-only
returns-clause-only c = each-yes c.plans_are_read_back.ensures c.certificates_are_read_back.ensures c.accepted_has_no_reason.ensures
