use Rattle.std.proofs.Common.{◌≡◌, arith, rules, to_z, of_z, w64}
use Rattle.std.proofs.lemmas.Int.{ints}
use Rattle.week_check.specs.Days as days
use Rattle.week_check.proofs.Calendar.{duty_number}
use Rattle.week_check.proofs.days.number_of.Goals as goal

pub returns-clause-bound : goal.returns-clause-bound
returns-clause-bound c =
    let bound = duty_number c.args.day c.requires in
    let value : to_z w64 (of_z w64 c.from.result) ≡ days.number_of c.args.day = search rules in
    (omega (arith, ints, bound.0, value), omega (arith, ints, bound.1, value))
