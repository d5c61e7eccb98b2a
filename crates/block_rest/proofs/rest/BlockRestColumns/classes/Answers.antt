use Rattle.std.proofs.Common.{subst}
use Rattle.cover_core.specs.Ranges.{HasModestWorths}
use Rattle.cover_rest.proofs.Lists.{rest-modest}
use Rattle.depot_network.specs.Network.{blocks_of}
use Rattle.block_rest.specs.Rest.{RestFacts, begun_of, may_begin, rests}
use Rattle.block_rest.proofs.rest.BlockRestColumns.classes.Goals as goal

-- a list of the rest is worth what its trips are
pub returns-clause-worths : goal.returns-clause-worths
returns-clause-worths c =
    let rest = c.self.inside in
    let Modest : RestFacts → Type 0 = λ r. HasModestWorths (rests r) in
    subst Modest c.self.view_is
    (rest-modest (blocks_of rest.net.day rest.net.counts) (begun_of rest.heads) (may_begin rest.net.day rest.moment)
    c.classes.ensures.worths)
