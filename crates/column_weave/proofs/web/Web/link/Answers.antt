use Rattle.std.proofs.Common.{◌≡◌, suc, ◌-◌, arith}
use Rattle.cover_core.proofs.Values.{AllBelow-get}
use Rattle.column_weave.proofs.Lists.{Rises-next}
use Rattle.column_weave.proofs.web.Web.link.Goals as goal

pub join-requires-clause-order : goal.join-requires-clause-order
join-requires-clause-order g c =
    let place = c.loop-place.place in
    let some = c.loop-place.auto.place in
    let next : place ≡ suc (place - 1) = omega arith in
    Rises-next c.args.list.now (place - 1) place next c.requires.rises c.loop-place-test.true

pub join-requires-clause-item : goal.join-requires-clause-item
join-requires-clause-item g c =
    let p = g.C.Columns.problem c.args.problem.now in
    AllBelow-get p.items c.args.list.now c.loop-place.place c.requires.items c.loop-place-test.true
