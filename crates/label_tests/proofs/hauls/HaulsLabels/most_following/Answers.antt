use Rattle.std.proofs.Common.{arith}
use Rattle.std.proofs.lemmas.Int.{ints}
use Rattle.label_tests.proofs.hauls.HaulsLabels.most_following.Goals as goal

-- no value of 64 bits is above the greatest one
pub returns-clause-most : goal.returns-clause-most
returns-clause-most c = λ a fits ends above. (let high = above.0 in let held = above.1 in absurd (omega (arith, ints)))
