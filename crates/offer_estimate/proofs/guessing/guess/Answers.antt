use Rattle.std.proofs.Common.{◌≡◌, ℤ, ℕ, pos, ◌+ℤ◌, ◌*ℤ◌, ◌+◌, ◌*◌, int_div, ap, ◌∙◌, arith, rules, FitsSigned, w64, to_z, of_z, to_z-of_z}
use Rattle.std.specs.Int.{w128}
use Rattle.std.specs.Prelude.{slice_index}
use Rattle.std.proofs.lemmas.Int.{ints}
use Rattle.cover_core.specs.Plans.{number_at}
use Rattle.offer_estimate.specs.Estimates.{scaled_least, scaled_leasts}
use Rattle.offer_estimate.proofs.Guesses.{leasts-more, sum-more}
use Rattle.offer_estimate.proofs.guessing.guess.Goals as goal

pub loop-class-init : goal.loop-class-init
loop-class-init c =
    let part : ℤ = to_z w64 (of_z w64 c.args.part) in
    let whole : ℤ = to_z w64 (of_z w64 c.args.whole) in
    let sum : ℤ = to_z w128 (of_z w128 c.args.sum) in
    let fits : FitsSigned w128 c.quotient-guess.result = search rules in
    let sum_fits : FitsSigned w128 c.scaled_sum.result = search rules in
    let low = c.quotient-guess.ensures.low in
    let high = c.quotient-guess.ensures.high in
    let is : to_z w128 (of_z w128 c.quotient-guess.result) ≡ int_div (sum *ℤ part) whole =
    to_z-of_z fits ∙ c.quotient-guess.ensures.value ∙ ap (λ (z : ℤ). int_div z whole) (to_z-of_z sum_fits ∙ c.scaled_sum.ensures.value) in
    record {
      order = omega arith;
      is = omega (arith, ints, is);
      low = omega (arith, ints);
      high = omega (arith, ints);
    }

pub overflow_add-guess : goal.overflow_add-guess
overflow_add-guess c =
    let same = c.loop-class.guess-is in
    let low = c.loop-class.invariant.low in
    let high = c.loop-class.invariant.high in
    let loss_low = c.loss-guess.ensures.low in
    let loss_high = c.loss-guess.ensures.high in
    let few = c.requires.classes in
    let test = c.loop-class-test.true in
    omega (arith, ints)

pub loop-class-preserved : goal.loop-class-preserved
loop-class-preserved c =
    let k = c.loop-class.class in
    let caps = c.args.caps.now in
    let least = c.args.least.now in
    let worths = c.args.worths.now in
    let part : ℤ = to_z w64 (of_z w64 c.args.part) in
    let whole : ℤ = to_z w64 (of_z w64 c.args.whole) in
    let sum : ℤ = to_z w128 (of_z w128 c.args.sum) in
    let value : ℤ = to_z w128 (of_z w128 c.scaled_value-value.result) in
    let least_fits : FitsSigned w64 c.least_at.result = search rules in
    let worth_fits : FitsSigned w64 c.worth_at.result = search rules in
    let value_fits : FitsSigned w128 c.scaled_value-value.result = search rules in
    let loss_fits : FitsSigned w128 c.loss-guess.result = search rules in
    let least_is : to_z w64 (of_z w64 c.least_at.result) ≡ number_at least k = to_z-of_z least_fits ∙ c.least_at.ensures.value in
    let worth_is : to_z w64 (of_z w64 c.worth_at.result) ≡ number_at worths k = to_z-of_z worth_fits ∙ c.worth_at.ensures.value in
    let value_is : value ≡ scaled_least part whole (number_at least k) (number_at worths k) =
    to_z-of_z value_fits ∙ c.scaled_value-value.ensures.value
    ∙ ap (λ (z : ℤ). scaled_least part whole z (to_z w64 (of_z w64 c.worth_at.result))) least_is
    ∙ ap (λ (z : ℤ). scaled_least part whole (number_at least k) z) worth_is in
    let loss_is : to_z w128 (of_z w128 c.loss-guess.result)
    ≡ pos (slice_index caps k) *ℤ scaled_least part whole (number_at least k) (number_at worths k) =
    to_z-of_z loss_fits ∙ c.loss-guess.ensures.value ∙ ap (λ (n : ℕ). pos n *ℤ value) c.cap_at.ensures.value
    ∙ ap (λ (z : ℤ). pos (slice_index caps k) *ℤ z) value_is in
    let same = c.loop-class.guess-is in
    let low = c.loop-class.invariant.low in
    let high = c.loop-class.invariant.high in
    let loss_low = c.loss-guess.ensures.low in
    let loss_high = c.loss-guess.ensures.high in
    let few = c.requires.classes in
    let test = c.loop-class-test.true in
    let more = leasts-more part whole least worths caps k in
    let new : to_z w128 (of_z w128 (to_z w128 c.loop-class.guess-bits +ℤ to_z w128 (of_z w128 c.loss-guess.result)))
    ≡ to_z w128 c.loop-class.guess-bits +ℤ to_z w128 (of_z w128 c.loss-guess.result) = omega (arith, ints) in
    record {
      order = omega arith;
      is = sum-more (to_z w128 c.loop-class.guess-bits) (to_z w128 (of_z w128 c.loss-guess.result)) _ (int_div (sum *ℤ part) whole)
          (scaled_leasts part whole least worths caps k) (scaled_leasts part whole least worths caps (k + 1)) _ c.loop-class.invariant.is
          more loss_is new;
      low = omega (arith, ints);
      high = omega (arith, ints);
    }
