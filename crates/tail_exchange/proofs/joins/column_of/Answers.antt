use Rattle.std.proofs.Common.{◌<◌, length, sym, ap, subst, arith}
use Rattle.cover_core.specs.declared.Column.{Column}
use Rattle.cover_core.proofs.Values.{AreCheap-get}
use Rattle.cover_core.proofs.Parts.{column-there}
use Rattle.tail_exchange.proofs.Lists.{sound-at}
use Rattle.tail_exchange.proofs.joins.column_of.Goals as goal

pub returns-clause-is : goal.returns-clause-is
returns-clause-is g c = column-there c.args.plan.now c.args.place c.index-plan-place.result c.requires.place c.index-plan-place.is

pub returns-clause-class : goal.returns-clause-class
returns-clause-class g c =
    let p = g.C.Columns.problem c.args.columns.now in
    let is = column-there c.args.plan.now c.args.place c.index-plan-place.result c.requires.place c.index-plan-place.is in
    let sound = sound-at p c.args.plan.now c.args.place (g.met.C.Columns.listed c.args.columns.now)
    c.requires.ready.plan.worths c.requires.place in
    let P : Column → Type 0 = λ d. d.class < length p.caps in
    subst P (sym is) sound.class

pub returns-clause-worth : goal.returns-clause-worth
returns-clause-worth g c =
    let same = ap (λ (x : Column). x.worth) c.index-plan-place.is in
    omega (arith, AreCheap-get c.args.plan.now c.args.place c.index-plan-place.result c.requires.ready.cheap c.requires.place)

pub returns-clause-few : goal.returns-clause-few
returns-clause-few g c =
    let p = g.C.Columns.problem c.args.columns.now in
    let is = column-there c.args.plan.now c.args.place c.index-plan-place.result c.requires.place c.index-plan-place.is in
    let sound = sound-at p c.args.plan.now c.args.place (g.met.C.Columns.listed c.args.columns.now)
    c.requires.ready.plan.worths c.requires.place in
    let long = ap (λ (d : Column). length d.items) is in
    omega (arith, sound.few, c.items-items.ensures.value, c.items-items.ensures.few)
