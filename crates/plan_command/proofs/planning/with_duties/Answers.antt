use Rattle.std.proofs.Common.{List, subst, ◌∙◌}
use Rattle.plan_core.specs.declared.types.Piece.{Piece}
use Rattle.plan_command.specs.Planning.{asked_of, side_of}
use Rattle.plan_command.specs.Steps.{IsDutiesFault}
use Rattle.plan_command.proofs.Known.{exact}
use Rattle.plan_command.proofs.Sides.{cause_over, cause_there, day_plan, duties_there}
use Rattle.plan_command.proofs.planning.with_duties.Goals as goal

pub returns-in-Ok-planned_duties-clause-plan : goal.returns-in-Ok-planned_duties-clause-plan
returns-in-Ok-planned_duties-clause-plan g c =
    let facts = c.args.model.now in
    let asked = asked_of c.args.method.now in
    day_plan facts asked (side_of c.args.blocks) (side_of c.in-Ok-planned_duties.duties) c.requires.blocks
    (duties_there facts asked c.args.blocks.plan.columns c.in-Ok.pieces c.params.result.now c.in-Ok.ensures.pieces c.params.ensures.settings
    (side_of c.in-Ok-planned_duties.duties) c.in-Ok-planned_duties.ensures.duties)
    (exact facts (c.flow_is_one.ensures.plan facts) (c.flow_is_one.ensures.prices facts) asked (side_of c.args.blocks) c.requires.blocks)

pub returns-in-Err-planned_duties-clause-cause : goal.returns-in-Err-planned_duties-clause-cause
returns-in-Err-planned_duties-clause-cause g c =
    let facts = c.args.model.now in
    let asked = asked_of c.args.method.now in
    let cover = c.in-Err-planned_duties.fault in
    let P : List Piece → Type 0 = λ pieces. IsDutiesFault pieces cover c.duties_fault.result in
    cause_over facts asked (side_of c.args.blocks) c.requires.blocks cover c.duties_fault.result
    (cause_there facts asked c.args.blocks.plan.columns c.in-Ok.pieces c.params.result.now c.in-Ok.ensures.pieces c.params.ensures.settings
    cover c.in-Err-planned_duties.ensures.cause)
    (subst P (c.as_slice.ensures ∙ c.in-Ok.ensures.pieces) c.duties_fault.ensures)
