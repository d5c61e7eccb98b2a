use Rattle.mark_cover.specs.Levels.{AreBelow}
use Rattle.mark_cover.proofs.making.make_marks.Given as goal

abbrev pub invariant-loop-class : goal.invariant-loop-class
invariant-loop-class g l = AreBelow (g.M.Marks.marking l.m) l.class l.all.items
