use Rattle.std.proofs.Common.{◌≡◌, All, true, false, subst, List}
use Rattle.trip_times.specs.declared.trip.Trip.{Trip}
use Rattle.day_model.specs.Ranges.{IsDaily}
use Rattle.day_method.specs.declared.side.Side.TheVariants.{Drivers}
use Rattle.cover_plan.specs.Endings.{numbers_of}
use Rattle.block_cut.specs.Cuts.{pieces_of_plan}
use Rattle.duty_rest.specs.Rest.{rests}
use Rattle.plan_command.specs.Planning.{side_of}
use Rattle.replan_command.specs.Replanning.{IsRestCause, piece_name, replan_of}
use Rattle.replan_command.specs.Steps.{AreNewDuties, IsMadeSide, IsWrittenCause, items_of_duties}
use Rattle.replan_command.proofs.NewSides.{duties-cause, new-duties}
use Rattle.replan_command.proofs.Problems.{duties-count, duties-fault, duties-side, err-onto, facts-are, have, heads-over, net-is, ok-onto}
use Rattle.replan_command.proofs.duties.new_duties.Goals as goal

daily-trips : (trips all : List Trip) → trips ≡ all → All IsDaily trips → All IsDaily all
daily-trips trips all same daily = let P : List Trip → Type 0 = λ ts. All IsDaily ts in subst P same daily

pub duties_left-requires : goal.duties_left-requires
duties_left-requires g c =
    let r = replan_of c.args.model.now c.args.earlier.now c.args.moment in
    let blocks = c.args.blocks.now.plan.columns in
    heads-over r blocks c.in-Ok.net true
    (have r (daily-trips c.trips.result.now r.day.trips c.trips.ensures.trips c.trips.ensures.daily) c.requires.earlier blocks
    c.requires.blocks.kept.keeps)
    (net-is r.day blocks c.args.pieces.now c.params-params.result.now true c.in-Ok.net c.in-Ok.ensures c.requires.pieces
    c.params-params.ensures.settings)

pub duties_left-requires-2 : goal.duties_left-requires-2
duties_left-requires-2 g c =
    let r = replan_of c.args.model.now c.args.earlier.now c.args.moment in
    let blocks = c.args.blocks.now.plan.columns in
    heads-over r blocks c.in-Ok-duty_net.net false
    (have r (daily-trips c.trips.result.now r.day.trips c.trips.ensures.trips c.trips.ensures.daily) c.requires.earlier blocks
    c.requires.blocks.kept.keeps)
    (net-is r.day blocks c.args.pieces.now c.params-params.result.now false c.in-Ok-duty_net.net c.in-Ok-duty_net.ensures c.requires.pieces
    c.params-params.ensures.settings)

pub new_side-requires-clause-counts : goal.new_side-requires-clause-counts
new_side-requires-clause-counts g c κs within =
    let r = replan_of c.args.model.now c.args.earlier.now c.args.moment in
    let blocks = c.args.blocks.now.plan.columns in
    let counts = net-is r.day blocks c.args.pieces.now c.params-params.result.now true c.in-Ok.net c.in-Ok.ensures c.requires.pieces
    c.params-params.ensures.settings in
    let costs = net-is r.day blocks c.args.pieces.now c.params-params.result.now false c.in-Ok-duty_net.net c.in-Ok-duty_net.ensures
    c.requires.pieces c.params-params.ensures.settings in
    duties-count r blocks c.in-Ok-duties_left.rest c.in-Ok-duties_left-2.rest
    (facts-are r blocks c.in-Ok-duties_left.rest c.in-Ok.net true c.in-Ok-duties_left.ensures counts)
    (facts-are r blocks c.in-Ok-duties_left-2.rest c.in-Ok-duty_net.net false c.in-Ok-duties_left-2.ensures costs)
    (c.counted_duties.ensures r.day.params (pieces_of_plan r.day blocks))

pub returns-clause-duties : goal.returns-clause-duties
returns-clause-duties g c =
    let r = replan_of c.args.model.now c.args.earlier.now c.args.moment in
    let numbers = numbers_of c.args.effort.now in
    let blocks = c.args.blocks.now.plan.columns in
    let counted = c.in-Ok-duties_left.rest in
    let costed = c.in-Ok-duties_left-2.rest in
    let counts = facts-are r blocks counted c.in-Ok.net true c.in-Ok-duties_left.ensures
    (net-is r.day blocks c.args.pieces.now c.params-params.result.now true c.in-Ok.net c.in-Ok.ensures c.requires.pieces
    c.params-params.ensures.settings) in
    let costs = facts-are r blocks costed c.in-Ok-duty_net.net false c.in-Ok-duties_left-2.ensures
    (net-is r.day blocks c.args.pieces.now c.params-params.result.now false c.in-Ok-duty_net.net c.in-Ok-duty_net.ensures c.requires.pieces
    c.params-params.ensures.settings) in
    ok-onto c.new_side.result (λ duties. IsMadeSide (rests counted) (rests costed) (items_of_duties costed) numbers (side_of duties))
    (λ duties. AreNewDuties r numbers blocks (side_of duties))
    (λ duties made. new-duties r blocks
    (have r (daily-trips c.trips.result.now r.day.trips c.trips.ensures.trips c.trips.ensures.daily) c.requires.earlier blocks
    c.requires.blocks.kept.keeps) numbers (side_of duties) (duties-side r blocks numbers counted costed counts costs (side_of duties) made))
    c.new_side.ensures.side

pub returns-clause-cause : goal.returns-clause-cause
returns-clause-cause g c =
    let r = replan_of c.args.model.now c.args.earlier.now c.args.moment in
    let numbers = numbers_of c.args.effort.now in
    let blocks = c.args.blocks.now.plan.columns in
    let counted = c.in-Ok-duties_left.rest in
    let costed = c.in-Ok-duties_left-2.rest in
    let counts = facts-are r blocks counted c.in-Ok.net true c.in-Ok-duties_left.ensures
    (net-is r.day blocks c.args.pieces.now c.params-params.result.now true c.in-Ok.net c.in-Ok.ensures c.requires.pieces
    c.params-params.ensures.settings) in
    let costs = facts-are r blocks costed c.in-Ok-duty_net.net false c.in-Ok-duties_left-2.ensures
    (net-is r.day blocks c.args.pieces.now c.params-params.result.now false c.in-Ok-duty_net.net c.in-Ok-duty_net.ensures c.requires.pieces
    c.params-params.ensures.settings) in
    err-onto c.new_side.result
    (IsWrittenCause Drivers (rests counted) (rests costed) (piece_name costed.net.pieces (items_of_duties costed)) (items_of_duties costed)
    numbers) (IsRestCause r numbers)
    (λ fault cause.
    duties-cause r numbers (side_of c.args.blocks.now) c.requires.blocks
    (have r (daily-trips c.trips.result.now r.day.trips c.trips.ensures.trips c.trips.ensures.daily) c.requires.earlier blocks
    c.requires.blocks.kept.keeps) fault
    (duties-fault r blocks numbers counted costed counts costs fault cause))
    c.new_side.ensures.cause
