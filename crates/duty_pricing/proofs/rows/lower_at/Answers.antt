use Rattle.std.proofs.Common.{arith, pos, get_or, rules, w64}
use Rattle.std.proofs.lemmas.Int.{to_z-of_z}
use Rattle.std.specs.Prelude.{FitsSigned}
use Rattle.duty_pricing.proofs.Lowering.{lowered-of, number-get}
use Rattle.duty_pricing.proofs.rows.lower_at.Goals as goal

pub returns : goal.returns
returns c =
    let old = c.args.row.now in
    let least_fits : FitsSigned w64 c.lower-least.result = search rules in
    let value_fits : FitsSigned w64 c.args.value = search rules in
    let vz = to_z-of_z w64 c.args.value value_fits in
    let here_fits : FitsSigned w64 (get_or old c.args.place (pos 0)) = search rules in
    let hz = to_z-of_z w64 (get_or old c.args.place (pos 0)) here_fits in
    rw (to_z-of_z w64 _ least_fits)
    (lowered-of old c.args.place c.args.value c.lower-least.result (get_or old c.args.place (pos 0)) (let long =
    c.told-row in omega arith) (number-get old c.args.place)
    (rw hz at c.lower-least.ensures.first) (rw vz at c.lower-least.ensures.second)
    (rw (hz, vz) at c.lower-least.ensures.least))
