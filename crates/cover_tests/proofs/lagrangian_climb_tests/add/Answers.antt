use Rattle.std.proofs.Common.{List, sym, subst}
use Rattle.cover_core.specs.declared.Column.{Column}
use Rattle.cover_core.specs.Fitting.{AreFit}
use Rattle.cover_core.proofs.Fits.{IsFit}
use Rattle.cover_tests.proofs.Fitting.{IsFit-made, AreFit-push}
use Rattle.cover_tests.proofs.lagrangian_climb_tests.add.Goals as goal

pub returns-clause-fit : goal.returns-clause-fit
returns-clause-fit c =
    let column = c.in_ok-column.column in
    let made = c.in_ok-column.ensures in
    let fit : IsFit 3 2 column =
    IsFit-made 3 2 column c.args.class c.args.worth c.args.list.now made.class made.worth made.items c.requires.class c.requires.cheap
    c.requires.rises c.requires.items in
    let P : List Column → Type 0 = λ l. AreFit 3 2 l in
    subst P (sym c.in_ok-push.ensures.ok) (AreFit-push 3 2 c.args.pool column c.requires.fit fit)
