use Rattle.check_answers.proofs.Texts.{texts-accepted}
use Rattle.check_answers.proofs.laws.texts_are_accepted.Goals as goal

pub returns : goal.returns
returns c =
    texts-accepted c.printed_once.ensures c.plans_are_read_back.ensures c.certificates_are_read_back.ensures
    c.accepted_has_no_reason.ensures c.day_is_certified_once.ensures.plan
