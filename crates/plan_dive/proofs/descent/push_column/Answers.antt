use Rattle.std.proofs.Common.{List, sym, subst}
use Rattle.cover_core.specs.declared.Column.{Column}
use Rattle.price_rounds.specs.Steps.{AreReady}
use Rattle.plan_dive.proofs.Readies.{ready_push}
use Rattle.plan_dive.proofs.descent.push_column.Goals as goal

pub returns : goal.returns
returns g c =
    let p = g.C.Columns.problem c.args._problem.now in
    let P : List Column → Type 0 = λ l. AreReady p l in
    subst P (sym c.in_ok-push.ensures.ok) (ready_push p c.args.columns.now c.args.column c.requires.columns c.requires.column)
