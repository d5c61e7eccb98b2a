use Rattle.std.proofs.Common.{take}
use Rattle.mark_cover.specs.Levels.{AreInserted, nexts}
use Rattle.mark_cover.proofs.making.insert_nexts.Given as goal

abbrev pub invariant-loop-place : goal.invariant-loop-place
invariant-loop-place g l =
    let m = g.M.Marks.marking l.m in
    AreInserted m (nexts m (take l.place l.kept) l.item) l.initial.marks.items l.marks.items
