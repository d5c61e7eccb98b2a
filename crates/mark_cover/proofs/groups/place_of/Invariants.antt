use Rattle.std.proofs.Common.{◌-◌, ◌≤◌, length}
use Rattle.mark_cover.specs.Orders.{AreEarly, AreLate}
use Rattle.mark_cover.proofs.groups.place_of.Given as goal

abbrev pub invariant-loop-low : goal.invariant-loop-low
invariant-loop-low g l =
    let m = g.M.Marks.marking l.m in
    record {
      order : l.low ≤ l.high;
      within : l.high ≤ length l.marks;
      early : AreEarly m l.marks l.class l.item l.low;
      late : AreLate m l.marks l.class l.item l.high;
    }

abbrev pub decreases-loop-low : goal.decreases-loop-low
decreases-loop-low g l = l.high - l.low
