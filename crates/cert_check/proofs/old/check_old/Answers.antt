use Rattle.std.proofs.Common.{◌^◌, arith}
use Rattle.cert_check.proofs.FewRows.{read-short}
use Rattle.cert_check.proofs.OldPlans.{answered}
use Rattle.cert_check.proofs.old.check_old.Goals as goal

pub text_answer-requires-clause-blocks : goal.text_answer-requires-clause-blocks
text_answer-requires-clause-blocks c =
    (read-short (2 ^ 32) c.args.day.now c.args.plan.now c.in-Ok.text (omega arith) c.requires c.in-Ok.ensures.read).blocks

pub text_answer-requires-clause-items : goal.text_answer-requires-clause-items
text_answer-requires-clause-items c =
    (read-short (2 ^ 32) c.args.day.now c.args.plan.now c.in-Ok.text (omega arith) c.requires c.in-Ok.ensures.read).trips

pub text_answer-requires-clause-parts : goal.text_answer-requires-clause-parts
text_answer-requires-clause-parts c =
    (read-short (2 ^ 32) c.args.day.now c.args.plan.now c.in-Ok.text (omega arith) c.requires c.in-Ok.ensures.read).parts
    c.args.day.now.params.groups _

pub returns-in-Ok-clause-answer : goal.returns-in-Ok-clause-answer
returns-in-Ok-clause-answer c =
    answered c.args.day.now c.args.plan.now c.in-Ok.text c.text_answer.result c.in-Ok.ensures.read c.text_answer.ensures.answer
