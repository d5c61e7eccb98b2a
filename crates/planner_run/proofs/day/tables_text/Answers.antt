use Rattle.std.proofs.Common.{◌∙◌}
use Rattle.day_tables.specs.DayTables.{day_tables_of}
use Rattle.planner_run.proofs.PlanLemmas.{text_of_tables}
use Rattle.planner_run.proofs.day.tables_text.Goals as goal

pub returns : goal.returns
returns c = text_of_tables c.write_tables.result c.as_slice.result.now (day_tables_of c.args.net.now c.args.day.now)
    c.write_tables.ensures.spelling (c.as_slice.ensures ∙ c.in_ok-tables.ensures.tables)
