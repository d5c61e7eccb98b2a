use Rattle.mark_cover.proofs.Inserted.{all-unmet}
use Rattle.mark_cover.proofs.gaps.good_place_before.Goals as goal

pub returns-in-None-clause-none : goal.returns-in-None-clause-none
returns-in-None-clause-none g c =
    let m = g.M.Marks.marking c.args.m.now in
    let b = g.M.Marks.seen c.args.m.now c.args.made.now in
    all-unmet m c.args.marks.now b c.args.near c.at_most-end.result c.in-None.ensures.none c.requires c.at_most-end.ensures.place
    c.at_most-end.ensures.past
