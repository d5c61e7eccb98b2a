use Rattle.std.proofs.Common.{◌≡◌, ℕ, arith, subst}
use Rattle.mark_cover.specs.Levels.{AreBelow}
use Rattle.mark_cover.proofs.Kept.{all-kept, below-step}
use Rattle.mark_cover.proofs.making.make_marks.Goals as goal

pub loop-class-preserved : goal.loop-class-preserved
loop-class-preserved g c =
    let laws = g.met.M.Marks in
    let m = g.M.Marks.marking c.args.m.now in
    rw c.in_ok-keep.ensures.kept
    (below-step m c.loop-class.class c.loop-class.all.items c.in_ok-marks.marks.items (laws.ordered c.args.m.now) (laws.placed c.args.m.now)
    c.loop-class.invariant c.in_ok-marks.ensures)

pub returns : goal.returns
returns g c =
    let m = g.M.Marks.marking c.args.m.now in
    let past = c.loop-class-test.false in
    let order = c.loop-class.auto.class-end in
    let count = c.classes-class-end.ensures in
    let same : c.loop-class.class ≡ m.classes = omega arith in
    let P : ℕ → Type 0 = λ k. AreBelow m k c.loop-class.all.items in
    rw c.from_vec.ensures (all-kept m c.loop-class.all.items (subst P same c.loop-class.invariant))
