use Rattle.std.proofs.Common.{subst, rules, pos, get_or, w64}
use Rattle.std.proofs.lemmas.Int.{to_z-of_z}
use Rattle.std.specs.Prelude.{FitsSigned, ℤ}
use Rattle.duty_pricing.specs.Bounds.{IsLifted}
use Rattle.duty_pricing.proofs.Lowering.{number-get, raise-begun, raise-more}
use Rattle.duty_pricing.proofs.rows.raise.Goals as goal

pub loop-place-init : goal.loop-place-init
loop-place-init c = raise-begun c.args.row.now c.args.by.now

pub loop-place-preserved : goal.loop-place-preserved
loop-place-preserved c =
    let row = c.loop-place.row in
    let by = c.args.by.now in
    let fits : FitsSigned w64 (get_or by c.loop-place.place (pos 0)) = search rules in
    let P : ℤ → Type 0 = λ z. IsLifted row c.raise_at.new.row c.loop-place.place z in
    raise-more c.args.row.now row c.raise_at.new.row by c.loop-place.place c.loop-place.invariant
    (subst P (number-get by c.loop-place.place) (rw (to_z-of_z w64 _ fits) at c.raise_at.ensures))
