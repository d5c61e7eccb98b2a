use Rattle.std.proofs.Common.{arith}
use Rattle.std.proofs.lemmas.Grind.{common_steps}
use Rattle.std.proofs.lemmas.List.Sums.{length-filter}
use Rattle.umlauf_write.specs.Trips.{is_row_of}
use Rattle.plan_file_tests.proofs.written_plan.has_one_row.Goals as goal

pub returns : goal.returns
returns c =
    let table = c.args.table.now in
    let same = length-filter (is_row_of table.columns c.args.version c.args.fid) table.rows in
    grind (arith, common_steps)
