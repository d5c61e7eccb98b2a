use Rattle.std.proofs.Common.{◌≡◌, ◌++◌, List, OnOk, pos, arith, rules}
use Rattle.std.proofs.lemmas.Grind.{common_steps}
use Rattle.plan_core.specs.declared.types.Leg.{Leg}
use Rattle.day_model.specs.Pieces.{shown}
use Rattle.block_cut.specs.Legs.{AreTimed, legs_or, until_end}
use Rattle.block_cut.proofs.Times.{on_made, timed_end}
use Rattle.block_cut.proofs.leg_list.add_until_end.Goals as goal

pub returns-clause-timed : goal.returns-clause-timed
returns-clause-timed c =
    let day = c.args.day.now in
    let made : List Leg = c.args.legs.now ++ shown (legs_or (until_end day c.args.pool.now c.args.t)) in
    let is : OnOk c.add.result (c.add.new.legs ≡ made) = grind (arith, common_steps) in
    on_made c.add.result (λ legs. AreTimed (pos 0) (pos 345600) legs) c.add.new.legs made is
    (timed_end day c.args.pool.now c.args.t c.trip-trip.result.now c.pull_in_of.result c.args.legs.now c.trip-trip.ensures.trip
    c.trip-trip.ensures.daily (search rules) c.pull_in_of.ensures.range c.requires.timed)
