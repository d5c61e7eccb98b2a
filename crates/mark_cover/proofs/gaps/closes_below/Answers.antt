use Rattle.std.proofs.Common.{◌≡◌, false, length, refl, sym, ◌∙◌, arith}
use Rattle.std.proofs.lemmas.Option.{slice_get_read, slice_get_within}
use Rattle.mark_cover.specs.Searches.{is_low}
use Rattle.mark_cover.proofs.Firsts.{low-from, low-not, more}
use Rattle.mark_cover.proofs.gaps.closes_below.Goals as goal

pub closes_low-requires-clause-last : goal.closes_low-requires-clause-last
closes_low-requires-clause-last g c =
    let below = c.loop-place-test.true in
    let at = slice_get_read c.args.marks.now (length c.args.marks.now) c.loop-place.place c.index-marks-place.result refl
    (omega arith) c.index-marks-place.is in
    (c.requires.there c.loop-place.place c.index-marks-place.result at).1

pub returns-then-closes_low-clause-some : goal.returns-then-closes_low-clause-some
returns-then-closes_low-clause-some g c = λ is.
    let below = c.loop-place-test.true in
    let m = g.M.Marks.marking c.args.m.now in
    let at = slice_get_read c.args.marks.now (length c.args.marks.now) c.loop-place.place c.index-marks-place.result refl
    (omega arith) c.index-marks-place.is in (
      c.index-marks-place.result,
      (c.loop-place.place, at),
      low-from m c.args.class_prices.now c.index-marks-place.result
          (sym c.closes_low.ensures ∙ c.if-closes_low.true),
    )

pub loop-place-preserved : goal.loop-place-preserved
loop-place-preserved g c =
    let below = c.loop-place-test.true in
    let m = g.M.Marks.marking c.args.m.now in
    let at = slice_get_read c.args.marks.now (length c.args.marks.now) c.loop-place.place c.index-marks-place.result refl
    (omega arith) c.index-marks-place.is in
    more (λ a. is_low m c.args.class_prices.now a ≡ false) c.args.marks.now c.loop-place.place c.index-marks-place.result at
    (sym c.closes_low.ensures ∙ c.if-closes_low.false) c.loop-place.invariant

pub returns-clause-none : goal.returns-clause-none
returns-clause-none g c = λ is a stands low.
    let m = g.M.Marks.marking c.args.m.now in
    let within = slice_get_within c.args.marks.now stands.0 a stands.1 in
    let past = c.loop-place-test.false in
    low-not m c.args.class_prices.now a (c.loop-place.invariant stands.0 a (omega arith) stands.1) low
