use Rattle.std.proofs.Common.{arith, refl, ◌∷◌, []}
use Rattle.std.proofs.lemmas.Grind.{common_steps}
use Rattle.plan_command.specs.ShortText.{count_row, count_table}
use Rattle.plan_command.proofs.CountTable.{counts_full, ok_plain}
use Rattle.plan_command.proofs.short.count_table.Goals as goal

pub returns-clause-plain : goal.returns-clause-plain
returns-clause-plain c =
    ok_plain c.number_table.result (count_table c.args.trips c.args.blocks c.args.pieces c.args.duties) (grind (arith, common_steps))
    (c.number_table.ensures.plain (count_row c.args.trips c.args.blocks c.args.pieces c.args.duties ∷ []) refl
    (counts_full c.args.trips c.args.blocks c.args.pieces c.args.duties))
