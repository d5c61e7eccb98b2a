use Rattle.mark_cover.specs.Searches.{AreUnmetBetween}
use Rattle.mark_cover.proofs.gaps.good_place.Given as goal

abbrev pub invariant-loop-place : goal.invariant-loop-place
invariant-loop-place g l =
    let m = g.M.Marks.marking l.m in
    AreUnmetBetween m l.marks l.from l.place (g.M.Marks.seen l.m l.made)
