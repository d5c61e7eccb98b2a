use Rattle.std.proofs.Common.{ℕ, length, refl, ◌∙◌, arith, subst}
use Rattle.std.proofs.lemmas.Option.{slice_get_read}
use Rattle.mark_cover.specs.Orders.{AreEarly, AreLate}
use Rattle.mark_cover.proofs.Firsts.{cell-passes, met-by, places-more}
use Rattle.mark_cover.proofs.Keys.{between-class, sources-between}
use Rattle.mark_cover.proofs.gaps.are_met_by.Goals as goal

pub next-requires-clause-class : goal.next-requires-clause-class
next-requires-clause-class g c =
    let below = c.loop-place-test.true in
    let within = c.place_of-end.ensures.within in
    let at = slice_get_read c.args.marks.now (length c.args.marks.now) c.loop-place.place c.index-marks-place.result refl
    (omega arith) c.index-marks-place.is in
    (c.requires.there c.loop-place.place c.index-marks-place.result at).0

pub next-requires-clause-last : goal.next-requires-clause-last
next-requires-clause-last g c =
    let below = c.loop-place-test.true in
    let within = c.place_of-end.ensures.within in
    let at = slice_get_read c.args.marks.now (length c.args.marks.now) c.loop-place.place c.index-marks-place.result refl
    (omega arith) c.index-marks-place.is in
    (c.requires.there c.loop-place.place c.index-marks-place.result at).1

pub loop-place-init : goal.loop-place-init
loop-place-init g c = λ k a low below at. absurd (omega (arith, low, below))

pub loop-place-preserved : goal.loop-place-preserved
loop-place-preserved g c =
    let laws = g.met.M.Marks in
    let m = g.M.Marks.marking c.args.m.now in
    let below = c.loop-place-test.true in
    let within = c.place_of-end.ensures.within in
    let low = c.loop-place.auto.place-end in
    let a = c.index-marks-place.result in
    let at = slice_get_read c.args.marks.now (length c.args.marks.now) c.loop-place.place a refl (omega arith) c.index-marks-place.is in
    let P : ℕ → Type 0 = λ n. AreEarly m c.args.marks.now c.args.class n c.place_of-end.result in
    let class = between-class m c.args.marks.now c.args.class c.args.item c.place_of-from.result c.place_of-end.result
    c.place_of-from.ensures.late (subst P c.from-key.ensures c.place_of-end.ensures.early) c.loop-place.place a at (omega arith) below in
    let passes = rw c.next.ensures at c.in-Some.ensures in
    let here = cell-passes m c.group-cell.result.now c.args.marks.now c.args.class c.args.item (m.extend a c.args.item)
    (λ b is. let step = (laws.placed c.args.m.now).steps a b c.args.item is in (step.2 ∙ class, step.3)) c.group-cell.ensures passes in
    places-more m c.args.marks.now c.args.item c.place_of-from.result c.loop-place.place a at here c.loop-place.invariant

pub returns : goal.returns
returns g c = λ is.
    let laws = g.met.M.Marks in
    let m = g.M.Marks.marking c.args.m.now in
    let past = c.loop-place-test.false in
    let Q : ℕ → Type 0 = λ n. AreLate m c.args.marks.now c.args.class n c.place_of-end.result in
    let sources = sources-between m c.args.marks.now c.args.class c.args.item c.place_of-from.result c.place_of-end.result
    c.place_of-from.ensures.early (subst Q c.from-key.ensures c.place_of-end.ensures.late) in
    met-by m c.args.marks.now c.args.class c.args.item c.place_of-from.result c.place_of-end.result (laws.placed c.args.m.now) sources
    (λ k a low below at. c.loop-place.invariant k a low (omega (arith, below, past)) at)
