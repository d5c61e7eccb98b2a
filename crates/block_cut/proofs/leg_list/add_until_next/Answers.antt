use Rattle.std.proofs.Common.{◌≡◌, ◌++◌, List, OnOk, pos, arith}
use Rattle.std.proofs.lemmas.Grind.{common_steps}
use Rattle.plan_core.specs.declared.types.Leg.{Leg}
use Rattle.day_model.specs.Pieces.{shown}
use Rattle.block_cut.specs.Legs.{AreTimed, begin_of, legs_or, until_next}
use Rattle.block_cut.proofs.Times.{on_made, timed_next}
use Rattle.block_cut.proofs.leg_list.add_until_next.Goals as goal

pub returns-clause-timed : goal.returns-clause-timed
returns-clause-timed c =
    let day = c.args.day.now in
    let made : List Leg = c.args.legs.now ++ shown (legs_or (until_next day c.args.pool.now c.args.t c.args.u)) in
    let is : OnOk c.add_link.result (c.add_link.new.legs ≡ made) = grind (arith, common_steps) in
    on_made c.add_link.result (λ legs. AreTimed (pos 0) (begin_of day c.args.u) legs) c.add_link.new.legs made is
    (timed_next day c.args.pool.now c.args.t c.args.u c.trip-trip.result.now c.trip-next.result.now c.args.legs.now c.trip-trip.ensures.trip
    c.trip-next.ensures.trip c.trip-trip.ensures.daily c.requires.there c.requires.timed)
