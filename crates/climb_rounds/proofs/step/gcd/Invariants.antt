use Rattle.std.proofs.Common.{ℕ}
use Rattle.std.specs.Int.{IsGcd}
use Rattle.climb_rounds.proofs.step.gcd.Given as goal

-- Whatever is the greatest common divisor of the two numbers that are left, is so of the two at the start: one step of division
-- keeps all common divisors. Said this way round, the last pair, of a number and 0, tells the answer at once.
abbrev pub invariant-loop-number : goal.invariant-loop-number
invariant-loop-number l = (g : ℕ) → IsGcd l.divisor l.number g → IsGcd l.fn.one l.fn.other g

abbrev pub decreases-loop-number : goal.decreases-loop-number
decreases-loop-number l = l.number
