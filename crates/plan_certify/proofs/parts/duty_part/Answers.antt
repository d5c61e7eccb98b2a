use Rattle.std.proofs.Common.{IfOk, sym, subst}
use Rattle.plan_command.specs.Planning.{IsDualFeasible}
use Rattle.duty_network.specs.Duties.{DutyFacts, duties as duties_of, is_count as is_counted}
use Rattle.plan_certify.proofs.PartsMade.{duty-shifts, same-over}
use Rattle.plan_certify.specs.Certificate.{IsDutyPartOf}
use Rattle.plan_certify.proofs.parts.duty_part.Goals as goal

pub new-requires-clause-shifts : goal.new-requires-clause-shifts
new-requires-clause-shifts c = duty-shifts c.in_ok-pieces.pieces c.as_slice.result.now c.args.pieces.now c.in_ok-pieces.ensures
    c.as_slice.ensures c.requires.shifts

pub net_part-requires : goal.net_part-requires
net_part-requires c =
    let P : DutyFacts → Type 0 = λ over. IsDualFeasible (duties_of over) c.args.kept in
    let same =
    same-over c.in_ok-net.net c.in_ok-pieces.pieces c.as_slice.result.now c.args.pieces.now c.params.result.now c.args.model.now.params
    (is_counted c.args.worth) c.in_ok-net.ensures
    c.in_ok-pieces.ensures c.as_slice.ensures c.params.ensures.settings in
    subst P (sym same) c.requires.paid

pub returns : goal.returns
returns c =
    let P : DutyFacts → Type 0 = λ over. IfOk c.net_part.result (IsDutyPartOf over c.args.kept) in
    let same =
    same-over c.in_ok-net.net c.in_ok-pieces.pieces c.as_slice.result.now c.args.pieces.now c.params.result.now c.args.model.now.params
    (is_counted c.args.worth) c.in_ok-net.ensures
    c.in_ok-pieces.ensures c.as_slice.ensures c.params.ensures.settings in
    subst P same c.net_part.ensures
