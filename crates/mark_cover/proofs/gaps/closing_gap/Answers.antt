use Rattle.std.proofs.Common.{◌≡◌, false, length, refl, sym, ◌∙◌, arith}
use Rattle.std.proofs.lemmas.Option.{slice_get_read, slice_get_within}
use Rattle.mark_cover.specs.Searches.{is_low}
use Rattle.mark_cover.proofs.Firsts.{more}
use Rattle.mark_cover.proofs.gaps.closing_gap.Goals as goal

pub closes_low-requires-clause-last : goal.closes_low-requires-clause-last
closes_low-requires-clause-last g c =
    let below = c.loop-place-test.true in
    let at = slice_get_read c.args.marks.now (length c.args.marks.now) c.loop-place.place c.index-marks-place.result refl
    (omega arith) c.index-marks-place.is in
    (c.requires.there c.loop-place.place c.index-marks-place.result at).1

pub returns-then-closes_low : goal.returns-then-closes_low
returns-then-closes_low g c =
    let below = c.loop-place-test.true in
    let at = slice_get_read c.args.marks.now (length c.args.marks.now) c.loop-place.place c.index-marks-place.result refl
    (omega arith) c.index-marks-place.is in
    ((c.index-marks-place.result, at, sym c.closes_low.ensures ∙ c.if-closes_low.true), c.loop-place.invariant)

pub loop-place-preserved : goal.loop-place-preserved
loop-place-preserved g c =
    let below = c.loop-place-test.true in
    let m = g.M.Marks.marking c.args.m.now in
    let at = slice_get_read c.args.marks.now (length c.args.marks.now) c.loop-place.place c.index-marks-place.result refl
    (omega arith) c.index-marks-place.is in
    more (λ a. is_low m c.args.class_prices.now a ≡ false) c.args.marks.now c.loop-place.place c.index-marks-place.result at
    (sym c.closes_low.ensures ∙ c.if-closes_low.false) c.loop-place.invariant

pub returns : goal.returns
returns g c = λ k a at.
    let within = slice_get_within c.args.marks.now k a at in
    let past = c.loop-place-test.false in
    c.loop-place.invariant k a (omega arith) at
