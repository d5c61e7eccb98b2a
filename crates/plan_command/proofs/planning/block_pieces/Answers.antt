use Rattle.std.proofs.Common.{false, length, rules}
use Rattle.depot_network.specs.Network.{blocks_of}
use Rattle.depot_network.specs.Listed.{blocks_listed}
use Rattle.plan_command.proofs.Printing.{few_blocks, ok_within, plan_worths}
use Rattle.plan_command.proofs.planning.block_pieces.Goals as goal

pub cut-requires-clause-few : goal.cut-requires-clause-few
cut-requires-clause-few c = few_blocks c.args.model.now c.args.blocks.now.columns (search rules) c.requires.plan

pub cut-requires-clause-worths : goal.cut-requires-clause-worths
cut-requires-clause-worths c = plan_worths c.args.model.now c.args.blocks.now.columns c.requires.plan

pub returns-clause-few : goal.returns-clause-few
returns-clause-few c =
    let facts = c.args.model.now in
    ok_within c.cut.result (length facts.trips) (search rules)
    (c.cut.ensures.plan (blocks_of facts false) (blocks_listed (record { day = facts; counts = false })) c.requires.plan)
