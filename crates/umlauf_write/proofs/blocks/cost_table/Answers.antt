use Rattle.std.proofs.Common.{refl, rules}
use Rattle.umlauf_write.specs.Tables.{cost_row, cost_table, numbered}
use Rattle.umlauf_write.proofs.Plain.{cost_rows_full, ok_plain}
use Rattle.umlauf_write.proofs.blocks.cost_table.Goals as goal

pub returns-clause-plain : goal.returns-clause-plain
returns-clause-plain c =
    let day = c.args.day.now in
    let blocks = c.args.blocks.now in
    ok_plain c.number_table.result (cost_table day blocks) (search rules)
    (c.number_table.ensures.plain (numbered (cost_row day) 1 blocks) refl (cost_rows_full day blocks))
