use Rattle.std.proofs.Common.{refl, arith}
use Rattle.mark_cover.proofs.Firsts.{classes-more}
use Rattle.mark_cover.proofs.gaps.are_steps_met.Goals as goal

pub loop-class-preserved : goal.loop-class-preserved
loop-class-preserved g c =
    classes-more (g.M.Marks.marking c.args.m.now) c.args.marks.now c.loop-class.class
    (c.are_met_in_class.ensures c.if-not-are_met_in_class.false) c.loop-class.invariant

pub returns : goal.returns
returns g c = λ is k a at j below.
    let m = g.M.Marks.marking c.args.m.now in
    let past = c.loop-class-test.false in
    let count = c.classes-class-end.ensures in
    let there = (c.requires.there k a at).0 in
    c.loop-class.invariant (m.class_of a) j (omega (arith, there, past, count)) below k a at refl
