use Rattle.std.proofs.Common.{◌≡◌, ◌≤◌, ◌<◌, ◌≤ℤ◌, ◌+◌, ℤ, arith, length, rules, subst, sym, to_z, of_z, w64}
use Rattle.std.proofs.lemmas.Int.{ints, to_z-of_z}
use Rattle.std.specs.Prelude.{FitsSigned}
use Rattle.path_pricing.specs.Blocks.{ClosesAbove, IsDeep, StepsAbove}
use Rattle.cover_core.specs.Plans.{number_at}
use Rattle.path_pricing.proofs.LinkSteps.{steps_more, steps_past}
use Rattle.path_pricing.proofs.linked.rest_behind.Goals as goal

pub loop-u-preserved : goal.loop-u-preserved
loop-u-preserved c =
    let net = c.args.net.now in
    let new : ℤ = c.with_link-least.result in
    let fits : FitsSigned w64 new = search rules in
    let back : to_z w64 (of_z w64 new) ≡ new = to_z-of_z w64 new fits in
    let low = c.with_link-least.ensures.least in
    let Closes : ℤ → Type 0 = λ z. ClosesAbove net.day net.counts c.args.pool.now c.args.t z in
    let Steps : ℤ → Type 0 =
    λ z. StepsAbove net.day net.counts c.args.prices.now c.args.pool.now c.args.rests.now c.args.t (c.loop-u.u + 1) z in
    let Deep : ℤ → Type 0 = λ z. IsDeep (length net.day.trips) c.args.t z in
    let closes : Closes new = λ cost e. (let old = c.loop-u.invariant.closes cost e in omega (arith, ints, old, low)) in
    let steps : Steps new =
    steps_more net.day net.counts c.args.prices.now c.args.pool.now c.args.rests.now c.args.t c.loop-u.u _ new low
    c.with_link-least.ensures.step c.loop-u.invariant.steps in
    record {
      closes = subst Closes (sym back) closes;
      steps = subst Steps (sym back) steps;
      deep = subst Deep (sym back) c.with_link-least.ensures.deep;
    }

pub returns-then-least-number-clause-steps : goal.returns-then-least-number-clause-steps
returns-then-least-number-clause-steps c =
    let net = c.args.net.now in
    let u = c.loop-u.u in
    let behind : c.args.t + 1 ≤ u = search rules in
    let there : u < length net.day.trips = search rules in
    let below : to_z w64 c.loop-u.least-bits ≤ℤ number_at c.args.lows.now u =
    omega (arith, ints, c.if-least-number.true, c.number.ensures) in
    steps_past net.day net.counts c.args.prices.now c.args.pool.now c.args.rests.now c.args.t u _ (number_at c.args.lows.now u) below
    (c.requires.lows u behind there) c.loop-u.invariant.steps
