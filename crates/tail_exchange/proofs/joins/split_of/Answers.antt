use Rattle.std.proofs.Common.{List, ℕ, take, drop, sym, ap, ◌∙◌, subst}
use Rattle.cover_core.specs.Cover.{Rises, AllBelow}
use Rattle.cover_core.specs.declared.Column.{Column}
use Rattle.cover_core.proofs.Values.{AllBelow-take}
use Rattle.tail_exchange.proofs.Lists.{AllBelow-drop, Rises-take, Rises-drop, sound-at}
use Rattle.tail_exchange.proofs.joins.split_of.Goals as goal

pub returns-clause-front_rises : goal.returns-clause-front_rises
returns-clause-front_rises g c =
    let p = g.C.Columns.problem c.args.columns.now in
    let sound = sound-at p c.args.plan.now c.args.place (g.met.C.Columns.listed c.args.columns.now)
    c.requires.ready.plan.worths c.requires.place in
    let is = c.split_at.ensures.front
    ∙ ap (take c.args.at) (c.as_slice.ensures ∙ ap (λ (d : Column). d.items) c.column_of-column.ensures.is) in
    let P : List ℕ → Type 0 = λ l. Rises l in
    subst P (sym is) (Rises-take c.args.at _ sound.rises)

pub returns-clause-tail_rises : goal.returns-clause-tail_rises
returns-clause-tail_rises g c =
    let p = g.C.Columns.problem c.args.columns.now in
    let sound = sound-at p c.args.plan.now c.args.place (g.met.C.Columns.listed c.args.columns.now)
    c.requires.ready.plan.worths c.requires.place in
    let is = c.split_at.ensures.back
    ∙ ap (drop c.args.at) (c.as_slice.ensures ∙ ap (λ (d : Column). d.items) c.column_of-column.ensures.is) in
    let P : List ℕ → Type 0 = λ l. Rises l in
    subst P (sym is) (Rises-drop c.args.at _ sound.rises)

pub returns-clause-front_items : goal.returns-clause-front_items
returns-clause-front_items g c =
    let p = g.C.Columns.problem c.args.columns.now in
    let sound = sound-at p c.args.plan.now c.args.place (g.met.C.Columns.listed c.args.columns.now)
    c.requires.ready.plan.worths c.requires.place in
    let is = c.split_at.ensures.front
    ∙ ap (take c.args.at) (c.as_slice.ensures ∙ ap (λ (d : Column). d.items) c.column_of-column.ensures.is) in
    let P : List ℕ → Type 0 = λ l. AllBelow p.items l in
    subst P (sym is) (AllBelow-take p.items c.args.at _ sound.items)

pub returns-clause-tail_items : goal.returns-clause-tail_items
returns-clause-tail_items g c =
    let p = g.C.Columns.problem c.args.columns.now in
    let sound = sound-at p c.args.plan.now c.args.place (g.met.C.Columns.listed c.args.columns.now)
    c.requires.ready.plan.worths c.requires.place in
    let is = c.split_at.ensures.back
    ∙ ap (drop c.args.at) (c.as_slice.ensures ∙ ap (λ (d : Column). d.items) c.column_of-column.ensures.is) in
    let P : List ℕ → Type 0 = λ l. AllBelow p.items l in
    subst P (sym is) (AllBelow-drop p.items c.args.at _ sound.items)
