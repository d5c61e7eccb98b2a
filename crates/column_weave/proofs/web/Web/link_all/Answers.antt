use Rattle.std.proofs.Common.{ℕ, List, length, sym, subst}
use Rattle.cover_core.specs.Cover.{AllBelow, Rises}
use Rattle.cover_core.proofs.Fits.{IsFit, fit-at}
use Rattle.column_weave.proofs.web.Web.link_all.Goals as goal

pub link-requires-clause-rises : goal.link-requires-clause-rises
link-requires-clause-rises g c =
    let p = g.C.Columns.problem c.args.problem.now in
    let fit : IsFit p.items (length p.caps) c.column-item.result =
    fit-at p.items (length p.caps) c.args.columns.now c.loop-column.column-index c.column-item.result c.loop-column-test.true
    c.column-item.is c.requires.fit in
    let P : List ℕ → Type 0 = λ l. Rises l in
    subst P (sym c.as_slice.ensures) fit.rises

pub link-requires-clause-items : goal.link-requires-clause-items
link-requires-clause-items g c =
    let p = g.C.Columns.problem c.args.problem.now in
    let fit : IsFit p.items (length p.caps) c.column-item.result =
    fit-at p.items (length p.caps) c.args.columns.now c.loop-column.column-index c.column-item.result c.loop-column-test.true
    c.column-item.is c.requires.fit in
    let P : List ℕ → Type 0 = λ l. AllBelow p.items l in
    subst P (sym c.as_slice.ensures) fit.items
