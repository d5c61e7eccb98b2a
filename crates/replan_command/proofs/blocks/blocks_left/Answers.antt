use Rattle.std.proofs.Common.{List, sym, subst}
use Rattle.depot_network.specs.Network.{blocks_of, is_count}
use Rattle.cover_rest.specs.Keeping.{AreHeads}
use Rattle.block_rest.specs.declared.head.Head.{Head}
use Rattle.block_rest.specs.Rest.{begun_of}
use Rattle.replan_command.proofs.blocks.blocks_left.Goals as goal

pub new-requires : goal.new-requires
new-requires c =
    let day = c.args.model.now in
    let counts = is_count c.args.worth in
    let P : List Head → Type 0 = λ heads. AreHeads (blocks_of day counts) (begun_of heads) in
    subst P (sym c.in_ok-heads.ensures)
    (c.heads_are_heads.ensures day counts c.args.moment c.args.earlier.now.columns c.requires.lists c.requires.once)
