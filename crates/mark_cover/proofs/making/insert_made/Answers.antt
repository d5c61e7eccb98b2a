use Rattle.mark_cover.proofs.Firsts.{met-from}
use Rattle.mark_cover.proofs.Inserted.{stayed}
use Rattle.mark_cover.proofs.making.insert_made.Goals as goal

pub returns-in-Some : goal.returns-in-Some
returns-in-Some g c =
    let m = g.M.Marks.marking c.args.m.now in
    let b = g.M.Marks.seen c.args.m.now c.args.made in
    let met = rw c.as_slice.ensures.value at c.in-Some.ensures.met in
    stayed m c.args.marks.now.items b (met-from m c.args.marks.now.items b met)

pub push_best-requires : goal.push_best-requires
push_best-requires g c = rw c.narrow.ensures (rw c.as_slice.ensures.value at c.in-None.ensures.none)
