use Rattle.depot_network.specs.Network.{blocks as net_blocks, blocks_of, is_count}
use Rattle.plan_certify.proofs.Paid.{net-problem, never-refused}
use Rattle.plan_certify.proofs.PartsMade.{block-part-made}
use Rattle.plan_certify.proofs.parts.block_part.Goals as goal

pub make_block_cover-requires : goal.make_block_cover-requires
make_block_cover-requires c = c.requires.prices.1

pub unreachable-requires : goal.unreachable-requires
unreachable-requires c =
    let facts = c.args.model.now in
    let counts = is_count c.args.worth in
    never-refused (blocks_of facts counts) (net_blocks c.new-net.result) c.args.kept.prices.items c.args.kept.class_prices
    c.as_slice.result.now c.in-Err-Unpaid.field-0 c.in-Err-Unpaid.field-0-0
    (net-problem c.new-net.result facts counts c.new-net.ensures.day c.new-net.ensures.counts) c.as_slice.ensures
    c.in-Err-Unpaid.field-0-is c.requires.paid c.in-Err-Unpaid.ensures.unpaid

pub returns-in-Ok : goal.returns-in-Ok
returns-in-Ok c =
    block-part-made c.new-net.result c.args.model.now (is_count c.args.worth) c.args.kept c.as_slice.result.now c.new.result c.in-Ok.found
    c.new-net.ensures.day c.new-net.ensures.counts
    c.as_slice.ensures c.new.ensures c.in-Ok.ensures.minimal c.in-Ok.ensures.cover
