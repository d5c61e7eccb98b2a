use Rattle.std.proofs.Common.{◌+◌, ℕ, arith, sym, subst}
use Rattle.mark_cover.specs.Orders.{AreEarly, AreLate}
use Rattle.mark_cover.proofs.Keys.{group-any, no-group}
use Rattle.mark_cover.proofs.groups.group.Goals as goal

pub returns-then-low-high : goal.returns-then-low-high
returns-then-low-high g c = λ b of_class last.
    let laws = g.met.M.Marks in
    let m = g.M.Marks.marking c.args.m.now in
    let order = c.if-low-high.true in
    let P : ℕ → Type 0 = λ n. AreEarly m c.args.marks.now c.args.class n c.place_of-low.result in
    let Q : ℕ → Type 0 = λ n. AreLate m c.args.marks.now c.args.class (n + 1) c.place_of-high.result in
    group-any m c.args.marks.now c.args.class c.args.item c.place_of-low.result c.place_of-high.result
    (laws.ordered c.args.m.now) (omega arith)
    (subst P c.from-key.ensures c.place_of-low.ensures.early) (subst Q c.from-key.ensures c.place_of-high.ensures.late) b of_class last

pub returns-else-low-high : goal.returns-else-low-high
returns-else-low-high g c = λ b of_class last.
    let laws = g.met.M.Marks in
    let m = g.M.Marks.marking c.args.m.now in
    let order = c.if-low-high.false in
    let P : ℕ → Type 0 = λ n. AreEarly m c.args.marks.now c.args.class n c.place_of-low.result in
    let Q : ℕ → Type 0 = λ n. AreLate m c.args.marks.now c.args.class (n + 1) c.place_of-high.result in
    sym (no-group m c.args.marks.now c.args.class c.args.item c.place_of-low.result c.place_of-high.result
    (laws.ordered c.args.m.now) (omega arith)
    (subst P c.from-key.ensures c.place_of-low.ensures.early) (subst Q c.from-key.ensures c.place_of-high.ensures.late) b of_class last)
