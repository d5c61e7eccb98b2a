use Rattle.std.proofs.Common.{◌<◌, ◌-◌, subst, arith, rules, pos, get_or, w64}
use Rattle.std.proofs.lemmas.Int.{to_z-of_z}
use Rattle.std.specs.Prelude.{FitsSigned, ℤ}
use Rattle.duty_pricing.specs.Bounds.{IsLowered}
use Rattle.duty_pricing.proofs.Lowering.{number-get, settle-begun, settle-more}
use Rattle.duty_pricing.proofs.rows.settle.Goals as goal

pub loop-place-init : goal.loop-place-init
loop-place-init c = record { from = (omega arith); so_far = settle-begun c.args.row.now }

pub loop-place-preserved : goal.loop-place-preserved
loop-place-preserved c =
    let row = c.loop-place.row in
    let at = c.loop-place.place - 1 in
    let fits : FitsSigned w64 (get_or row at (pos 0)) = search rules in
    let small : c.loop-place.place < 16 = c.loop-place-test.true in
    let P : ℤ → Type 0 = λ z. IsLowered row c.lower_at.new.row c.loop-place.place z in
    record {
      from = (let from = c.loop-place.invariant.from in omega arith);
      so_far = settle-more c.args.row.now row c.lower_at.new.row c.loop-place.place c.loop-place.invariant.from small
          c.loop-place.invariant.so_far
          (subst P (number-get row at) (rw (to_z-of_z w64 _ fits) at c.lower_at.ensures));
    }
