use Rattle.block_rest.specs.Rest.{rests}
use Rattle.day_method.specs.declared.side.Side.TheVariants.{Vehicles}
use Rattle.cover_plan.specs.Endings.{numbers_of}
use Rattle.plan_command.specs.Planning.{side_of}
use Rattle.replan_command.specs.Replanning.{IsRestCause, replan_of, trip_name}
use Rattle.replan_command.specs.Steps.{AreNewBlocks, IsMadeSide, IsWrittenCause, items_of_blocks}
use Rattle.replan_command.proofs.NewSides.{blocks-cause, new-blocks}
use Rattle.replan_command.proofs.Problems.{blocks-count, blocks-fault, blocks-side, err-onto, ok-onto}
use Rattle.replan_command.proofs.blocks.new_blocks.Goals as goal

pub new_side-requires-clause-counts : goal.new_side-requires-clause-counts
new_side-requires-clause-counts g c κs within =
    let r = replan_of c.args.model.now c.args.earlier.now c.args.moment in
    blocks-count r c.in-Ok.rest c.in-Ok-blocks_left.rest c.in-Ok.ensures c.in-Ok-blocks_left.ensures (c.counted_blocks.ensures r.day)

pub returns-clause-blocks : goal.returns-clause-blocks
returns-clause-blocks g c =
    let r = replan_of c.args.model.now c.args.earlier.now c.args.moment in
    let numbers = numbers_of c.args.effort.now in
    let counted = c.in-Ok.rest in
    let costed = c.in-Ok-blocks_left.rest in
    ok-onto c.new_side.result (λ blocks. IsMadeSide (rests counted) (rests costed) (items_of_blocks costed) numbers (side_of blocks))
    (λ blocks. AreNewBlocks r numbers (side_of blocks))
    (λ blocks made. new-blocks r numbers (side_of blocks) c.requires.earlier
    (blocks-side r numbers counted costed c.in-Ok.ensures c.in-Ok-blocks_left.ensures (side_of blocks) made))
    c.new_side.ensures.side

pub returns-clause-cause : goal.returns-clause-cause
returns-clause-cause g c =
    let r = replan_of c.args.model.now c.args.earlier.now c.args.moment in
    let numbers = numbers_of c.args.effort.now in
    let counted = c.in-Ok.rest in
    let costed = c.in-Ok-blocks_left.rest in
    err-onto c.new_side.result
    (IsWrittenCause Vehicles (rests counted) (rests costed) (trip_name costed.day.trips (items_of_blocks costed)) (items_of_blocks costed)
    numbers) (IsRestCause r numbers)
    (λ fault cause. blocks-cause r numbers fault c.requires.earlier
    (blocks-fault r numbers counted costed c.in-Ok.ensures c.in-Ok-blocks_left.ensures fault cause))
    c.new_side.ensures.cause
