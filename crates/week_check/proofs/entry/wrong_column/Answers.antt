use Rattle.std.proofs.Common.{ap, not, ◌∙◌, sym}
use Rattle.week_check.specs.Roster.{columns, is_right}
use Rattle.week_check.proofs.Adding.{at_place}
use Rattle.week_check.proofs.RosterFaults.{column_step}
use Rattle.week_check.proofs.entry.wrong_column.Goals as goal

pub loop-column-preserved : goal.loop-column-preserved
loop-column-preserved c =
    column_step (λ column. not (is_right c.args.entry.now column)) c.loop-column.column-index _ _ c.loop-column-test.true
    (at_place columns c.loop-column.column-index _ _ c.loop-column-test.true) (ap not (sym c.is_right.ensures ∙ c.if-not-is_right.false))
    c.loop-column.invariant
