use Rattle.std.proofs.Common.{◌≡◌, arith}
use Rattle.std.proofs.lemmas.Grind.{common_steps}
use Rattle.day_tables.specs.DayTables.{day_tables_of}
use Rattle.day_tables.proofs.DayLemmas.{plain_day}
use Rattle.day_tables.proofs.writing.tables_of_day.Goals as goal

pub returns-clause-plain : goal.returns-clause-plain
returns-clause-plain c =
    let is : c.push-2.new.self ≡ day_tables_of c.args.net.now c.args.day.now = grind (arith, common_steps) in
    rw is (plain_day c.args.net.now c.args.day.now)
