use Rattle.std.proofs.Common.{List, subst, sym}
use Rattle.week_check.specs.declared.denial.Denial.{Denial}
use Rattle.week_check.specs.Denials.{AreDenials}
use Rattle.planner_run.proofs.WeekOutcomes.{verdict_of}
use Rattle.planner_run.proofs.week.verdict_text.Goals as goal

pub returns : goal.returns
returns c =
    let P : List Denial → Type 0 = λ ds. AreDenials c.args.turns.now ds in
    verdict_of c.args.turns.now c.as_slice.result.now c.in_ok-table.table c.write_tables.result
    (subst P (sym c.as_slice.ensures) c.in_ok-found.ensures) c.in_ok-table.ensures.table
    c.write_tables.ensures.spelling
