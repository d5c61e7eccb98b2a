use Rattle.std.proofs.Common.{true, false}
use Rattle.plan_command.specs.Planning.{side_of}
use Rattle.plan_certify.proofs.Classes.{ok-classes}
use Rattle.plan_certify.proofs.PartsMade.{duty-part-there, ok-cert}
use Rattle.plan_certify.proofs.Texts.{paid-there}
use Rattle.plan_certify.proofs.whole.certificate_of.Goals as goal

pub duty_part-requires-clause-paid : goal.duty_part-requires-clause-paid
duty_part-requires-clause-paid c =
    paid-there c.args.model.now c.args.plan.blocks.plan.columns c.args.plan.pieces true c.args.plan.duties.count c.requires.pieces
    c.requires.paid.duty_number

pub duty_part-requires-2-clause-paid : goal.duty_part-requires-2-clause-paid
duty_part-requires-2-clause-paid c =
    paid-there c.args.model.now c.args.plan.blocks.plan.columns c.args.plan.pieces false c.args.plan.duties.cost c.requires.pieces
    c.requires.paid.duty_cost

pub returns-clause-cert : goal.returns-clause-cert
returns-clause-cert c =
    let facts = c.args.model.now in
    let plan = c.args.plan in
    let columns = plan.blocks.plan.columns in
    ok-cert facts (side_of plan.blocks) (side_of plan.duties) c.cert_of.result c.in_ok-one.one c.in_ok-two.two c.in_ok-three.three
    c.in_ok-four.four c.cert_of.ensures
    c.in_ok-one.ensures c.in_ok-two.ensures
    (duty-part-there facts columns plan.pieces true plan.duties.count c.in_ok-three.three c.requires.pieces c.in_ok-three.ensures)
    (duty-part-there facts columns plan.pieces false plan.duties.cost c.in_ok-four.four c.requires.pieces c.in_ok-four.ensures)

pub returns-clause-classes : goal.returns-clause-classes
returns-clause-classes c = ok-classes c.args.model.now (side_of c.args.plan.blocks) (side_of c.args.plan.duties) c.cert_of.result
    c.requires.paid (returns-clause-cert c)
