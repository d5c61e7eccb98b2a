use Rattle.std.proofs.Common.{length, refl, sym, ◌∙◌, arith}
use Rattle.std.proofs.lemmas.Option.{slice_get_read}
use Rattle.mark_cover.proofs.Firsts.{between-more, get-any}
use Rattle.mark_cover.proofs.gaps.good_place.Goals as goal

pub loop-place-init : goal.loop-place-init
loop-place-init g c = λ k a low below at. absurd (omega (arith, low, below))

pub returns-then-is_as_good-clause-met : goal.returns-then-is_as_good-clause-met
returns-then-is_as_good-clause-met g c =
    let below = c.loop-place-test.true in
    let bound = c.requires in
    let m = g.M.Marks.marking c.args.m.now in
    let b = g.M.Marks.seen c.args.m.now c.args.made.now in
    let at = slice_get_read c.args.marks.now (length c.args.marks.now) c.loop-place.place c.index-marks-place.result refl
    (omega arith) c.index-marks-place.is in
    get-any (λ a. m.good a b) c.args.marks.now c.loop-place.place
    c.index-marks-place.result at (sym c.is_as_good.ensures ∙ c.if-is_as_good.true)

pub loop-place-preserved : goal.loop-place-preserved
loop-place-preserved g c =
    let below = c.loop-place-test.true in
    let bound = c.requires in
    let m = g.M.Marks.marking c.args.m.now in
    let b = g.M.Marks.seen c.args.m.now c.args.made.now in
    let at = slice_get_read c.args.marks.now (length c.args.marks.now) c.loop-place.place c.index-marks-place.result refl
    (omega arith) c.index-marks-place.is in
    between-more m c.args.marks.now c.args.from c.loop-place.place b c.index-marks-place.result at (sym c.is_as_good.ensures
    ∙ c.if-is_as_good.false) c.loop-place.invariant

pub returns-clause-none : goal.returns-clause-none
returns-clause-none g c = λ k a low below at.
    let past = c.loop-place-test.false in
    c.loop-place.invariant k a low (omega (arith, below, past)) at
