use Rattle.cover_plan.specs.Endings.{numbers_of}
use Rattle.plan_command.specs.Planning.{side_of}
use Rattle.replan_command.specs.Replanning.{replan_of}
use Rattle.replan_command.proofs.NewSides.{replanned}
use Rattle.replan_command.proofs.replanning.with_duties.Goals as goal

pub returns-in-Ok-new_duties-clause-plan : goal.returns-in-Ok-new_duties-clause-plan
returns-in-Ok-new_duties-clause-plan g c =
    replanned (replan_of c.args.model.now c.args.earlier.now c.args.moment) (numbers_of c.args.effort.now) (side_of c.args.blocks)
    (side_of c.in-Ok-new_duties.duties)
    c.requires.blocks c.in-Ok-new_duties.ensures.duties
