use Rattle.std.proofs.Common.{arith, refl}
use Rattle.std.proofs.lemmas.Grind.{common_steps}
use Rattle.umlauf_write.specs.Answers.{bound_rows, bound_table, values_of}
use Rattle.umlauf_write.proofs.BoundRows.{bounds_full}
use Rattle.umlauf_write.proofs.Plain.{ok_plain}
use Rattle.umlauf_write.proofs.bounds.bound_table.Goals as goal

pub returns-clause-plain : goal.returns-clause-plain
returns-clause-plain c =
    let blocks = c.args.blocks.now.columns in
    let duties = c.args.duties.now.columns in
    let bounds = c.args.bounds.now in
    ok_plain c.number_table.result (bound_table blocks duties bounds) (grind (arith, common_steps))
    (c.number_table.ensures.plain (bound_rows 1 (values_of blocks duties) bounds) refl (bounds_full 1 (values_of blocks duties) bounds))
