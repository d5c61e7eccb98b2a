use Rattle.std.proofs.Common.{◌<◌, length, arith}
use Rattle.column_weave.proofs.Linked.{class-at}
use Rattle.column_weave.proofs.web.Web.join.Goals as goal

pub join_class-requires-clause-links : goal.join_class-requires-clause-links
join_class-requires-clause-links g c =
    let p = g.C.Columns.problem c.args.problem.now in
    let count = c.classes-class-end.ensures.value in
    let test = c.loop-class-test.true in
    let inside : c.loop-class.class < length p.caps = omega arith in
    class-at p c.loop-class.self c.loop-class.class c.index_mut-links.result.now _ c.loop-class.invariant inside
    c.index_mut-links.ensures.value
