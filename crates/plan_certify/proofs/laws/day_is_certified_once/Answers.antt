use Rattle.plan_certify.proofs.OneCert.{cert-or-cause, certifies-plan, one-cert, one-cert-text}
use Rattle.plan_certify.proofs.laws.day_is_certified_once.Goals as goal

pub returns-clause-cert : goal.returns-clause-cert
returns-clause-cert c = one-cert

pub returns-clause-text : goal.returns-clause-text
returns-clause-text c = λ facts. one-cert-text facts (c.day_answers_once.ensures.ends facts)

pub returns-clause-plan : goal.returns-clause-plan
returns-clause-plan c = λ facts. certifies-plan facts (c.day_answers_once.ensures.ends facts)

pub returns-clause-either : goal.returns-clause-either
returns-clause-either c = λ facts. cert-or-cause facts (c.day_answers_once.ensures.ends facts)

pub returns-clause-planned : goal.returns-clause-planned
returns-clause-planned c = c.day_answers_once.ensures.either
