use Rattle.plan_command.specs.Planning.{asked_of, side_of}
use Rattle.plan_certify.proofs.Texts.{plan-paid, text-over}
use Rattle.plan_certify.proofs.whole.certificate_text.Goals as goal

pub text_of-requires-clause-paid : goal.text_of-requires-clause-paid
text_of-requires-clause-paid g c = plan-paid c.args.model.now (asked_of c.args.method.now) (side_of c.in-Ok.plan.blocks)
    (side_of c.in-Ok.plan.duties) c.in-Ok.ensures.plan

pub returns-in-Ok-text_of-clause-written : goal.returns-in-Ok-text_of-clause-written
returns-in-Ok-text_of-clause-written g c =
    text-over c.args.model.now (asked_of c.args.method.now) (side_of c.in-Ok.plan.blocks) (side_of c.in-Ok.plan.duties)
    c.in-Ok-text_of.bytes c.in-Ok.ensures.plan c.in-Ok-text_of.ensures
