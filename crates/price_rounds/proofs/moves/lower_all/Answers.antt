use Rattle.std.proofs.Common.{ℕ, List, length, sym, ap, ◌∙◌, subst}
use Rattle.plan_core.specs.declared.Price.{Price}
use Rattle.cover_core.specs.declared.Column.{Column}
use Rattle.cover_core.specs.Cover.{AllBelow}
use Rattle.cover_core.specs.Plans.{IsColumn}
use Rattle.cover_core.proofs.Parts.{AreColumns-get}
use Rattle.price_rounds.proofs.Pools.{IsFit, fit_get}
use Rattle.price_rounds.proofs.Prices.{lowered-length, lowered_more}
use Rattle.price_rounds.proofs.moves.lower_all.Goals as goal

pub lower-requires-clause-some : goal.lower-requires-clause-some
lower-requires-clause-some g c =
    let p = g.C.Columns.problem c.args._columns.now in
    let column : Column = c.column-item.result in
    let is : IsColumn p column =
    subst (IsColumn p) (sym c.column-item.is)
    (AreColumns-get p c.args.columns.now c.loop-column.column-index column c.loop-column-test.true c.requires.columns.are) in
    (g.met.C.Columns.listed c.args._columns.now column.class column.items column.worth is.1).0

pub lower-requires-clause-rises : goal.lower-requires-clause-rises
lower-requires-clause-rises g c =
    let p = g.C.Columns.problem c.args._columns.now in
    let column : Column = c.column-item.result in
    let fit : IsFit p.items (length p.caps) column =
    subst (IsFit p.items (length p.caps)) (sym c.column-item.is)
    (fit_get p.items (length p.caps) c.args.columns.now c.loop-column.column-index column c.loop-column-test.true c.requires.columns.fit) in
    fit.0

pub lower-requires-clause-items : goal.lower-requires-clause-items
lower-requires-clause-items g c =
    let p = g.C.Columns.problem c.args._columns.now in
    let column : Column = c.column-item.result in
    let fit : IsFit p.items (length p.caps) column =
    subst (IsFit p.items (length p.caps)) (sym c.column-item.is)
    (fit_get p.items (length p.caps) c.args.columns.now c.loop-column.column-index column c.loop-column-test.true c.requires.columns.fit) in
    let P : ℕ → Type 0 = λ n. AllBelow n column.items in
    subst P (sym c.loop-column.invariant.ready.0) fit.1

pub lower-requires-clause-cheap : goal.lower-requires-clause-cheap
lower-requires-clause-cheap g c =
    let p = g.C.Columns.problem c.args._columns.now in
    let column : Column = c.column-item.result in
    let fit : IsFit p.items (length p.caps) column =
    subst (IsFit p.items (length p.caps)) (sym c.column-item.is)
    (fit_get p.items (length p.caps) c.args.columns.now c.loop-column.column-index column c.loop-column-test.true c.requires.columns.fit) in
    fit.2

pub loop-column-preserved : goal.loop-column-preserved
loop-column-preserved g c =
    let column : Column = c.column-item.result in
    let now : List Price = c.loop-column.prices.items in
    let new : List Price = c.lower.new.prices.items in
    record {
      lowered = lowered_more c.args.columns.now c.loop-column.column-index c.column-item.result c.loop-column.prices.items
          c.lower.new.prices.items c.loop-column-test.true c.column-item.is c.lower.ensures.lowered ∙ c.loop-column.invariant.lowered;
      ready = (
        ap (λ (l : List Price). length l) c.lower.ensures.lowered
            ∙ (lowered-length c.loop-column.prices.items c.column-item.result ∙ c.loop-column.invariant.ready.0),
        c.lower.ensures.moderate,
      );
    }
