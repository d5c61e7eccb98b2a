use Rattle.std.proofs.Common.{refl, rules}
use Rattle.umlauf_write.specs.Tables.{block_row, block_table, numbered}
use Rattle.umlauf_write.proofs.Plain.{block_rows_full, ok_plain}
use Rattle.umlauf_write.proofs.blocks.block_table.Goals as goal

pub returns-clause-plain : goal.returns-clause-plain
returns-clause-plain c =
    let day = c.args.day.now in
    let blocks = c.args.blocks.now in
    ok_plain c.number_table.result (block_table day blocks) (search rules)
    (c.number_table.ensures.plain (numbered (block_row day) 1 blocks) refl (block_rows_full day blocks))
