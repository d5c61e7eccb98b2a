use Rattle.std.proofs.Common.{◌≡◌, ℤ, pos, ◌+ℤ◌, ◌*ℤ◌, ap, ◌∙◌, arith, rules, FitsSigned, w64, to_z, of_z, to_z-of_z}
use Rattle.std.specs.Prelude.{int_div}
use Rattle.std.proofs.lemmas.Int.{ints}
use Rattle.lagrangian_climb.proofs.Keeps.{kept-same}
use Rattle.lagrangian_climb.proofs.numbers.price_after_move.Goals as goal

pub returns-clause-value : goal.returns-clause-value
returns-clause-value c =
    let fits : FitsSigned w64 c.keep.result = search rules in
    let low : to_z w64 (of_z w64 c.args.low) ≡ c.args.low = to_z-of_z c.ranges.low in
    let high : to_z w64 (of_z w64 c.args.high) ≡ c.args.high = to_z-of_z c.ranges.high in
    let unit : to_z w64 (of_z w64 c.args.unit) ≡ c.args.unit = to_z-of_z c.ranges.unit in
    let direction : to_z w64 (of_z w64 c.args.direction) ≡ c.args.direction = to_z-of_z c.ranges.direction in
    let step_low = c.step.ensures.low in
    let step_high = c.step.ensures.high in
    let sum : to_z w64 (of_z w64 (to_z w64 (of_z w64 c.args.price) +ℤ to_z w64 (of_z w64 c.step.result))) ≡ c.args.price +ℤ c.step.result =
    omega (arith, ints) in
    let step : c.step.result ≡ int_div (c.args.unit *ℤ c.args.direction) (pos 1024) =
    c.step.ensures.value ∙ (ap (λ (z : ℤ). int_div (z *ℤ to_z w64 (of_z w64 c.args.direction)) (pos 1024)) unit
    ∙ ap (λ (z : ℤ). int_div (c.args.unit *ℤ z) (pos 1024)) direction) in
    let all : to_z w64 (of_z w64 (to_z w64 (of_z w64 c.args.price) +ℤ to_z w64 (of_z w64 c.step.result))) ≡ c.args.price
    +ℤ int_div (c.args.unit *ℤ c.args.direction) (pos 1024) = sum ∙ ap (λ (z : ℤ). c.args.price +ℤ z) step in
    to_z-of_z fits ∙ (c.keep.ensures.value ∙ kept-same _ _ _ _ _ _ low high all)
