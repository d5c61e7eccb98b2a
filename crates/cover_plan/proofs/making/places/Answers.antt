use Rattle.std.proofs.Common.{◌<◌, ℕ, length, arith}
use Rattle.std.proofs.lemmas.List.Sums.{sum_by_more}
use Rattle.cover_plan.proofs.making.places.Goals as goal

pub overflow_add-sum : goal.overflow_add-sum
overflow_add-sum g c =
    let small = c.loop-class.invariant.small in
    let few = c.cap.ensures.few in
    let classes = c.classes-class-end.ensures.few in
    let below = c.loop-class-test.true in
    omega arith

pub loop-class-preserved : goal.loop-class-preserved
loop-class-preserved g c =
    let caps = (g.C.Columns.problem c.args.columns.now).caps in
    let below = c.loop-class-test.true in
    let there : c.loop-class.class < length (g.C.Columns.problem c.args.columns.now).caps =
    (let len = c.classes-class-end.ensures.value in omega arith) in
    let more = sum_by_more (λ (x : ℕ). x) (g.C.Columns.problem c.args.columns.now).caps c.loop-class.class 0 there in
    let so_far = c.loop-class.invariant.all in
    let small = c.loop-class.invariant.small in
    let few = c.cap.ensures.few in
    let value = c.cap.ensures.value in
    record { all = omega arith; small = omega arith }
