use Rattle.std.proofs.Common.{arith}
use Rattle.mark_cover.proofs.Kept.{class-given, class-step, level-is}
use Rattle.mark_cover.proofs.making.make_class.Goals as goal

pub make_level-requires-clause-given : goal.make_level-requires-clause-given
make_level-requires-clause-given g c =
    let m = g.M.Marks.marking c.args.m.now in
    let below = c.loop-item-test.true in
    let count = c.items-item-end.ensures in
    rw c.as_slice.ensures.value
    (class-given m (g.M.OpenLists.sound c.args.m.now) c.args.class c.loop-item.item c.loop-item.kept.items
    (g.met.M.OpenLists.safe c.args.m.now) c.requires (omega arith) c.loop-item.invariant.kept)

pub loop-item-preserved : goal.loop-item-preserved
loop-item-preserved g c =
    let laws = g.met.M.Marks in
    let m = g.M.Marks.marking c.args.m.now in
    let ordered = laws.ordered c.args.m.now in
    let placed = laws.placed c.args.m.now in
    let old = c.loop-item.kept.items in
    let new = c.make_level.new.marks.items in
    let inserted = rw c.as_slice.ensures.value at c.in_ok-make_level.ensures in
    let level = level-is m c.args.class c.loop-item.item old new placed c.requires c.loop-item.invariant.kept inserted in
    record {
      kept = rw c.in_ok-keep.ensures.kept
          (class-step m c.args.class c.loop-item.item old new ordered placed c.loop-item.invariant.kept level);
      empty = c.in_ok-keep.ensures.empty;
    }
