use Rattle.std.proofs.Common.{ℕ, ◌<◌, ◌≤◌, ◌^◌, arith, lit<}
use Rattle.std.proofs.Math.Nat.{pow-le-pow_right}
use Rattle.command_words.proofs.options.digits_number.Goals as goal

-- eight digits and fewer
few : (digits value : ℕ) → digits < 9 → value < 10 ^ digits → value < 100000000
few digits value h below = let eight : digits ≤ 8 = omega (arith, h) in
    let most : 10 ^ digits ≤ 10 ^ 8 = pow-le-pow_right (lit< tt) eight in omega (arith, most, below)

pub overflow_mul-number : goal.overflow_mul-number
overflow_mul-number c =
    let below = few c.loop-digit.digit-index c.loop-digit.number (omega (arith, c.loop-digit-test.true, c.loop-digit.invariant.few))
    c.loop-digit.invariant.small in
    omega (arith, below)

pub overflow_add-number : goal.overflow_add-number
overflow_add-number c =
    let below = few c.loop-digit.digit-index c.loop-digit.number (omega (arith, c.loop-digit-test.true, c.loop-digit.invariant.few))
    c.loop-digit.invariant.small in
    omega (arith, below, c.from.ensures)
