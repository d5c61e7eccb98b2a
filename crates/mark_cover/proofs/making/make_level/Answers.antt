use Rattle.std.proofs.Common.{[]}
use Rattle.mark_cover.specs.Levels.{listed, nexts}
use Rattle.mark_cover.proofs.Inserted.{more-inserted, on-ok}
use Rattle.mark_cover.proofs.making.make_level.Goals as goal

pub returns : goal.returns
returns g c =
    let m = g.M.Marks.marking c.args.m.now in
    let one = rw (c.first.ensures, c.requires.empty) at c.in_ok-insert_some.ensures in
    on-ok c.insert_nexts.result c.insert_nexts.ensures
    (λ two. more-inserted m (listed (m.start c.args.class c.args.item)) (nexts m c.args.kept.now c.args.item) []
    c.insert_some.new.marks.items c.insert_nexts.new.marks.items one two)
