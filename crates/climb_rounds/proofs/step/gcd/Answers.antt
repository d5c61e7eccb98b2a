use Rattle.std.proofs.Common.{arith}
use Rattle.std.proofs.lemmas.Nat.Gcd.{IsGcd-from_zero, IsGcd-from_mod}
use Rattle.climb_rounds.proofs.step.gcd.Goals as goal

pub loop-number-preserved : goal.loop-number-preserved
loop-number-preserved c g h = c.loop-number.invariant g (IsGcd-from_mod _ _ g h)

pub returns : goal.returns
returns c = c.loop-number.invariant _ (IsGcd-from_zero _ _ (omega arith))
