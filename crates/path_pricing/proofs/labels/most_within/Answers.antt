use Rattle.std.proofs.Common.{arith, rules, w64}
use Rattle.std.proofs.lemmas.Int.{ints, to_z-of_z}
use Rattle.std.specs.Prelude.{FitsSigned}
use Rattle.path_pricing.proofs.labels.most_within.Goals as goal

-- what is clamped is the limit less the total, so that the limit is at most the result with the total
pub returns : goal.returns
returns c =
    let total = c.total.ensures in
    let fits : FitsSigned w64 c.nearest_number.result = search rules in
    rw (to_z-of_z w64 c.nearest_number.result fits) (λ low. let high = c.nearest_number.ensures low in omega (arith, ints))
