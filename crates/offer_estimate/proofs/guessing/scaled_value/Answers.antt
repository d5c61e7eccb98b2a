use Rattle.std.proofs.Common.{◌≡◌, ℤ, pos, ◌+ℤ◌, ◌-ℤ◌, ◌*ℤ◌, ◌≤ℤ◌, ◌<ℤ◌, int_div, ap, ◌∙◌, arith, rules, FitsSigned, w64, to_z, of_z, to_z-of_z}
use Rattle.std.specs.Int.{w128}
use Rattle.std.proofs.lemmas.Int.{ints}
use Rattle.offer_estimate.proofs.Guesses.{kept-low, kept-zero}
use Rattle.offer_estimate.proofs.guessing.scaled_value.Goals as goal

pub overflow_add-payment : goal.overflow_add-payment
overflow_add-payment c =
    let paid_low = c.payment.ensures.low in
    let paid_high = c.payment.ensures.high in
    let left_low = c.left-rest.ensures.low in
    let left_high = c.left-rest.ensures.high in
    omega (arith, ints)

pub quotient-value-requires-clause-low : goal.quotient-value-requires-clause-low
quotient-value-requires-clause-low c =
    let paid_low = c.payment.ensures.low in
    let paid_high = c.payment.ensures.high in
    let left_low = c.left-rest.ensures.low in
    let left_high = c.left-rest.ensures.high in
    omega (arith, ints)

pub quotient-value-requires-clause-high : goal.quotient-value-requires-clause-high
quotient-value-requires-clause-high c =
    let paid_low = c.payment.ensures.low in
    let paid_high = c.payment.ensures.high in
    let left_low = c.left-rest.ensures.low in
    let left_high = c.left-rest.ensures.high in
    omega (arith, ints)

pub quotient-value-requires-clause-whole : goal.quotient-value-requires-clause-whole
quotient-value-requires-clause-whole c =
    let low = c.requires.part_low in
    let ordered = c.requires.ordered in
    let high = c.requires.whole in
    omega (arith, ints)

pub returns-then-value-lt0-clause-value : goal.returns-then-value-lt0-clause-value
returns-then-value-lt0-clause-value c =
    let part = c.args.part in
    let whole = c.args.whole in
    let least = c.args.least in
    let worth = c.args.worth in
    let paid_low = c.payment.ensures.low in
    let paid_high = c.payment.ensures.high in
    let left_low = c.left-rest.ensures.low in
    let left_high = c.left-rest.ensures.high in
    let rest_low = c.rest_of.ensures.low in
    let rest_high = c.rest_of.ensures.high in
    let rest_is = c.rest_of.ensures.value in
    let low = c.requires.part_low in
    let ordered = c.requires.ordered in
    let high = c.requires.whole in
    let fits : FitsSigned w128 c.quotient-value.result = search rules in
    let rest : to_z w128 (of_z w128 c.rest_of.result) ≡ whole -ℤ part = omega (arith, ints) in
    let left : c.left-rest.result ≡ (whole -ℤ part) *ℤ worth =
    c.left-rest.ensures.value ∙ ap (λ (z : ℤ). z *ℤ to_z w64 (of_z w64 worth)) rest
    ∙ ap (λ (z : ℤ). (whole -ℤ part) *ℤ z) (to_z-of_z c.ranges.worth) in
    let paid : c.payment.result ≡ part *ℤ least =
    c.payment.ensures.value ∙ ap (λ (z : ℤ). z *ℤ to_z w64 (of_z w64 least)) (to_z-of_z c.ranges.part)
    ∙ ap (λ (z : ℤ). part *ℤ z) (to_z-of_z c.ranges.least) in
    let sum : to_z w128 (of_z w128 (to_z w128 (of_z w128 c.payment.result) +ℤ to_z w128 (of_z w128 c.left-rest.result))) ≡ c.payment.result
    +ℤ c.left-rest.result = omega (arith, ints) in
    let both : to_z w128 (of_z w128 (to_z w128 (of_z w128 c.payment.result) +ℤ to_z w128 (of_z w128 c.left-rest.result))) ≡ (part *ℤ least)
    +ℤ ((whole -ℤ part) *ℤ worth) =
    sum ∙ ap (λ (z : ℤ). z +ℤ c.left-rest.result) paid ∙ ap (λ (z : ℤ). (part *ℤ least) +ℤ z) left in
    let shown : to_z w128 (of_z w128 c.quotient-value.result) ≡ int_div ((part *ℤ least) +ℤ ((whole -ℤ part) *ℤ worth)) whole =
    to_z-of_z fits ∙ c.quotient-value.ensures.value ∙ ap (λ (z : ℤ). int_div z (to_z w64 (of_z w64 whole))) both
    ∙ ap (λ (z : ℤ). int_div ((part *ℤ least) +ℤ ((whole -ℤ part) *ℤ worth)) z) (to_z-of_z c.ranges.whole) in
    let test = c.if-value-lt0.true in
    let below : to_z w128 (of_z w128 c.quotient-value.result) <ℤ pos 0 = omega (arith, ints) in
    kept-low _ _ shown below

pub returns-else-value-lt0-clause-value : goal.returns-else-value-lt0-clause-value
returns-else-value-lt0-clause-value c =
    let part = c.args.part in
    let whole = c.args.whole in
    let least = c.args.least in
    let worth = c.args.worth in
    let paid_low = c.payment.ensures.low in
    let paid_high = c.payment.ensures.high in
    let left_low = c.left-rest.ensures.low in
    let left_high = c.left-rest.ensures.high in
    let rest_low = c.rest_of.ensures.low in
    let rest_high = c.rest_of.ensures.high in
    let rest_is = c.rest_of.ensures.value in
    let low = c.requires.part_low in
    let ordered = c.requires.ordered in
    let high = c.requires.whole in
    let fits : FitsSigned w128 c.quotient-value.result = search rules in
    let rest : to_z w128 (of_z w128 c.rest_of.result) ≡ whole -ℤ part = omega (arith, ints) in
    let left : c.left-rest.result ≡ (whole -ℤ part) *ℤ worth =
    c.left-rest.ensures.value ∙ ap (λ (z : ℤ). z *ℤ to_z w64 (of_z w64 worth)) rest
    ∙ ap (λ (z : ℤ). (whole -ℤ part) *ℤ z) (to_z-of_z c.ranges.worth) in
    let paid : c.payment.result ≡ part *ℤ least =
    c.payment.ensures.value ∙ ap (λ (z : ℤ). z *ℤ to_z w64 (of_z w64 least)) (to_z-of_z c.ranges.part)
    ∙ ap (λ (z : ℤ). part *ℤ z) (to_z-of_z c.ranges.least) in
    let sum : to_z w128 (of_z w128 (to_z w128 (of_z w128 c.payment.result) +ℤ to_z w128 (of_z w128 c.left-rest.result))) ≡ c.payment.result
    +ℤ c.left-rest.result = omega (arith, ints) in
    let both : to_z w128 (of_z w128 (to_z w128 (of_z w128 c.payment.result) +ℤ to_z w128 (of_z w128 c.left-rest.result))) ≡ (part *ℤ least)
    +ℤ ((whole -ℤ part) *ℤ worth) =
    sum ∙ ap (λ (z : ℤ). z +ℤ c.left-rest.result) paid ∙ ap (λ (z : ℤ). (part *ℤ least) +ℤ z) left in
    let shown : to_z w128 (of_z w128 c.quotient-value.result) ≡ int_div ((part *ℤ least) +ℤ ((whole -ℤ part) *ℤ worth)) whole =
    to_z-of_z fits ∙ c.quotient-value.ensures.value ∙ ap (λ (z : ℤ). int_div z (to_z w64 (of_z w64 whole))) both
    ∙ ap (λ (z : ℤ). int_div ((part *ℤ least) +ℤ ((whole -ℤ part) *ℤ worth)) z) (to_z-of_z c.ranges.whole) in
    let test = c.if-value-lt0.false in
    let above : pos 0 ≤ℤ to_z w128 (of_z w128 c.quotient-value.result) = omega (arith, ints) in
    kept-zero _ _ shown above
