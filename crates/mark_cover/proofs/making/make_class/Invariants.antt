use Rattle.std.proofs.Common.{◌≡◌, []}
use Rattle.mark_cover.specs.Levels.{AreOfClass}
use Rattle.mark_cover.proofs.making.make_class.Given as goal

abbrev pub invariant-loop-item : goal.invariant-loop-item
invariant-loop-item g l =
    let m = g.M.Marks.marking l.m in
    record { kept : AreOfClass m l.class l.item l.kept.items; empty : l.made.items ≡ [] }
