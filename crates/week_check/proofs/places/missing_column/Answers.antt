use Rattle.std.proofs.Common.{◌∙◌, sym}
use Rattle.week_check.specs.Roster.{columns, is_missing}
use Rattle.week_check.proofs.Adding.{at_place}
use Rattle.week_check.proofs.RosterFaults.{column_step}
use Rattle.week_check.proofs.places.missing_column.Goals as goal

pub loop-column-preserved : goal.loop-column-preserved
loop-column-preserved c =
    column_step (is_missing c.args.heads.now) c.loop-column.column-index _ _ c.loop-column-test.true
    (at_place columns c.loop-column.column-index _ _ c.loop-column-test.true)
    (sym c.is_missing.ensures ∙ c.if-is_missing.false) c.loop-column.invariant
