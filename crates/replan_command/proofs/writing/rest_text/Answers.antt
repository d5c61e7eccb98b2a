use Rattle.std.proofs.Common.{rules}
use Rattle.cover_plan.specs.Endings.{numbers_of}
use Rattle.plan_command.specs.Planning.{side_of}
use Rattle.replan_command.specs.Replanning.{replan_of}
use Rattle.replan_command.proofs.NewSides.{printable}
use Rattle.replan_command.proofs.writing.rest_text.Goals as goal

pub text_of-requires-clause-printable : goal.text_of-requires-clause-printable
text_of-requires-clause-printable g c =
    let plan = c.in-Ok.plan in
    printable (replan_of c.args.model.now c.args.earlier.now c.args.moment) (numbers_of c.args.effort.now) (side_of plan.blocks)
    (side_of plan.duties) c.in-Ok.ensures.plan (search rules)
    (search rules) c.in-Ok.ensures.cheap_blocks c.in-Ok.ensures.cheap_duties
