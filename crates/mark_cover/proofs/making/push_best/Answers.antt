use Rattle.mark_cover.proofs.Inserted.{pushed}
use Rattle.mark_cover.proofs.making.push_best.Goals as goal

pub returns-in-Ok : goal.returns-in-Ok
returns-in-Ok g c =
    let m = g.M.Marks.marking c.args.m.now in
    let laws = g.met.M.Marks in
    rw (c.in-Ok.ensures.items, c.take_out.ensures) (pushed m c.args.marks.now.items c.args.mark (laws.ordered c.args.m.now) c.requires)
