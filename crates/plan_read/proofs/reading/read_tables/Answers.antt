use Rattle.std.proofs.Common.{subst, sym}
use Rattle.std.specs.Prelude.{Result}
use Rattle.number_tables.specs.Outlines.{Place as At}
use Rattle.umlauf_write.specs.declared.text.PlanText.{PlanText}
use Rattle.plan_read.specs.Places.{Gives}
use Rattle.plan_read.proofs.Outcomes.{whole-gives}
use Rattle.plan_read.proofs.Same.{rows-read}
use Rattle.plan_read.proofs.reading.read_tables.Goals as goal

pub returns-in-Ok-clause-said : goal.returns-in-Ok-clause-said
returns-in-Ok-clause-said c =
    let P : Result PlanText At → Type 0 = λ read. Gives c.rows_said.result read in
    subst P (sym (rows-read c.args.day.now c.args.tables.now c.in-Ok.rows c.in-Ok.ensures)) c.rows_said.ensures.said

pub returns-in-Err-clause-said : goal.returns-in-Err-clause-said
returns-in-Err-clause-said c = whole-gives c.args.day.now c.in-Err.fault c.args.tables.now c.in-Err.ensures
