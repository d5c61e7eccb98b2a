use Rattle.std.proofs.Common.{◌≡◌, ◌∙◌, pos, ◌+ℤ◌, ◌-ℤ◌, ◌*ℤ◌, rules, arith, FitsSigned, w64, to_z, of_z, to_z-of_z}
use Rattle.std.proofs.lemmas.Int.{ints}
use Rattle.cover_master.proofs.Prices.{clamp-is}
use Rattle.cover_master.proofs.turns.price_after_step.Goals as goal

pub returns : goal.returns
returns c =
    let price = c.args.price in
    let change = c.change.result in
    let fits : FitsSigned w64 c.clamp.result = search rules in
    let change_fits : FitsSigned w64 change = search rules in
    let low = c.change.ensures.low in
    let high = c.change.ensures.high in
    let sum_fits : FitsSigned w64 (price +ℤ change) = omega (arith, ints) in
    let one : to_z w64 (of_z w64 price) ≡ price = to_z-of_z c.ranges.price in
    let two : to_z w64 (of_z w64 change) ≡ change = to_z-of_z change_fits in
    let three : to_z w64 (of_z w64 c.args.size) ≡ c.args.size = to_z-of_z c.ranges.size in
    let sum : to_z w64 (of_z w64 (price +ℤ change)) ≡ price +ℤ change = to_z-of_z sum_fits in
    let value : change ≡ to_z w64 (of_z w64 c.args.size) *ℤ (pos 1 -ℤ pos c.args.times) = c.change.ensures.value in
    let all : to_z w64 (of_z w64 (to_z w64 (of_z w64 price) +ℤ to_z w64 (of_z w64 change)))
    ≡ price +ℤ (c.args.size *ℤ (pos 1 -ℤ pos c.args.times)) = cc in
    to_z-of_z fits ∙ clamp-is c.clamp.result _ _ c.clamp.ensures all
