use Rattle.std.proofs.Common.{true, false}
use Rattle.depot_network.specs.Network.{blocks as net_blocks, blocks_of}
use Rattle.plan_command.specs.Planning.{asked_of}
use Rattle.plan_command.proofs.Sides.{blocks_cause, cause_at, same_net}
use Rattle.plan_command.proofs.planning.planned_blocks.Goals as goal

pub returns-in-Err-side_by-clause-cause : goal.returns-in-Err-side_by-clause-cause
returns-in-Err-side_by-clause-cause g c =
    let facts = c.args.model.now in
    let asked = asked_of c.args.method.now in
    let counted = same_net c.new-counted.result c.new-count_net.result facts true c.new-counted.ensures c.new-count_net.ensures.day
    c.new-count_net.ensures.counts in
    let costed = same_net c.new-costed.result c.new-cost_net.result facts false c.new-costed.ensures c.new-cost_net.ensures.day
    c.new-cost_net.ensures.counts in
    blocks_cause facts asked c.in-Ok.known c.in-Err-side_by.fault c.blocks_fault.result c.in-Ok.ensures.known
    (cause_at (net_blocks c.new-counted.result) (net_blocks c.new-costed.result) (blocks_of facts true) (blocks_of facts false) counted
    costed asked.numbers c.in-Ok.known c.in-Err-side_by.fault
    c.in-Err-side_by.ensures.cause)
    c.blocks_fault.ensures
