use Rattle.std.proofs.Common.{◌≡◌, ℤ, pos, ◌+ℤ◌, ◌*ℤ◌, ◌<ℤ◌, ap, ◌∙◌, arith, FitsSigned, w64, to_z, of_z, to_z-of_z}
use Rattle.std.specs.Prelude.{int_div}
use Rattle.std.proofs.lemmas.Int.{ints, quot_fits}
use Rattle.lagrangian_climb.proofs.numbers.direction.Goals as goal

pub returns-clause-value : goal.returns-clause-value
returns-clause-value c =
    let sum : ℤ = to_z w64 (of_z w64
    (to_z w64 (of_z w64 (pos 6 *ℤ to_z w64 (of_z w64 c.args.old))) +ℤ to_z w64 (of_z w64 (pos 16 *ℤ to_z w64 (of_z w64 c.args.lack))))) in
    let same : sum ≡ (pos 6 *ℤ c.args.old) +ℤ (pos 16 *ℤ c.args.lack) = omega (arith, ints) in
    let fits : FitsSigned w64 sum = omega (arith, ints) in
    let some : pos 0 <ℤ pos 8 = omega (arith, ints) in
    to_z-of_z (quot_fits w64 sum (pos 8) fits some) ∙ ap (λ (z : ℤ). int_div z (pos 8)) same
