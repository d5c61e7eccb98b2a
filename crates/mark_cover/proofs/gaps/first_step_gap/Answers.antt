use Rattle.std.proofs.Common.{◌≡◌, ◌<◌, ℕ, false, length, refl, arith}
use Rattle.std.proofs.lemmas.Option.{slice_get_read, slice_get_within}
use Rattle.mark_cover.specs.Searches.{is_unmet}
use Rattle.mark_cover.proofs.Firsts.{more}
use Rattle.mark_cover.proofs.gaps.first_step_gap.Goals as goal

pub mark_gap-requires-clause-last : goal.mark_gap-requires-clause-last
mark_gap-requires-clause-last g c =
    let below = c.loop-place-test.true in
    let at = slice_get_read c.args.marks.now (length c.args.marks.now) c.loop-place.place c.index-marks-place.result refl
    (omega arith) c.index-marks-place.is in
    (c.requires.there c.loop-place.place c.index-marks-place.result at).1

pub returns-in-Some : goal.returns-in-Some
returns-in-Some g c =
    let below = c.loop-place-test.true in
    let at = slice_get_read c.args.marks.now (length c.args.marks.now) c.loop-place.place c.index-marks-place.result refl
    (omega arith) c.index-marks-place.is in
    let found = c.in-Some.ensures in
    ((c.index-marks-place.result, at, found.1, found.2), c.loop-place.invariant)

pub loop-place-preserved : goal.loop-place-preserved
loop-place-preserved g c =
    let below = c.loop-place-test.true in
    let m = g.M.Marks.marking c.args.m.now in
    let at = slice_get_read c.args.marks.now (length c.args.marks.now) c.loop-place.place c.index-marks-place.result refl
    (omega arith) c.index-marks-place.is in
    more (λ a. (j : ℕ) → j < m.items → is_unmet m c.args.marks.now (m.extend a j) ≡ false) c.args.marks.now c.loop-place.place
    c.index-marks-place.result at
    c.in_default.ensures c.loop-place.invariant

pub returns : goal.returns
returns g c = λ k a at.
    let within = slice_get_within c.args.marks.now k a at in
    let past = c.loop-place-test.false in
    c.loop-place.invariant k a (omega arith) at
