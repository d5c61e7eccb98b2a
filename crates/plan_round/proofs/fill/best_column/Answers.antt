use Rattle.std.proofs.Common.{◌<◌, length, sym, ap, ◌∙◌, subst, arith}
use Rattle.cover_core.specs.declared.Column.{Column}
use Rattle.cover_core.specs.Cover.{AllBelow}
use Rattle.cover_core.specs.Plans.{IsColumn}
use Rattle.cover_core.proofs.Parts.{AreColumns-get}
use Rattle.cover_core.proofs.Values.{AreCheap-get}
use Rattle.plan_round.specs.Rounding.{put_in}
use Rattle.plan_round.proofs.Inserts.{AllBelow-put_in}
use Rattle.plan_round.proofs.fill.best_column.Goals as goal

pub worth-worth-requires-clause-class : goal.worth-worth-requires-clause-class
worth-worth-requires-clause-class g c =
    let p = g.C.Columns.problem c.args.columns.now in
    let column = c.index-part-place.result in
    let inside : c.loop-place.place < length c.args.part.now = omega arith in
    let is : IsColumn p column =
    subst (IsColumn p) (sym c.index-part-place.is) (AreColumns-get p c.args.part.now c.loop-place.place column inside c.requires.part) in
    is.0

pub worth-worth-requires-clause-items : goal.worth-worth-requires-clause-items
worth-worth-requires-clause-items g c =
    let p = g.C.Columns.problem c.args.columns.now in
    let column = c.index-part-place.result in
    let inside : c.loop-place.place < length c.args.part.now = omega arith in
    let is : IsColumn p column =
    subst (IsColumn p) (sym c.index-part-place.is) (AreColumns-get p c.args.part.now c.loop-place.place column inside c.requires.part) in
    let below : AllBelow p.items column.items = (g.met.C.Columns.listed c.args.columns.now column.class column.items column.worth is.1).2 in
    let list = c.as_slice-in-loop-place.ensures.value ∙ c.in_ok-insert_into.ensures ∙ ap (put_in c.args.item) c.as_slice.ensures in
    subst (AllBelow p.items) (sym list) (AllBelow-put_in p.items c.args.item column.items c.requires.item below)

pub consider-best-requires-clause-before : goal.consider-best-requires-clause-before
consider-best-requires-clause-before g c =
    let column = c.index-part-place.result in
    let inside : c.loop-place.place < length c.args.part.now = omega arith in
    let same = ap (λ (x : Column). x.worth) c.index-part-place.is in
    omega (arith, AreCheap-get c.args.part.now c.loop-place.place column c.requires.cheap inside)
