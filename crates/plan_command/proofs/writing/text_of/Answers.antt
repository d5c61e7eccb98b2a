use Rattle.std.proofs.Common.{◌∙◌}
use Rattle.umlauf_write.specs.Answers.{answer_tables}
use Rattle.plan_command.specs.Planning.{side_of}
use Rattle.plan_command.specs.PlanText.{answer_of}
use Rattle.plan_command.proofs.Printing.{text_of_tables}
use Rattle.plan_command.proofs.writing.text_of.Goals as goal

pub returns : goal.returns
returns c =
    let facts = c.args.model.now in
    let table = c.args.rec_frt.now in
    let meant = answer_of facts (side_of c.args.plan.blocks) (side_of c.args.plan.duties) in
    text_of_tables c.write_tables.result c.as_slice.result.now (answer_tables facts table meant) c.write_tables.ensures.spelling
    (c.as_slice.ensures ∙ c.in_ok-tables.ensures.tables)
