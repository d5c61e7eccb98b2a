-- Promise: the lists of a rest.
use Rattle.cover_core.specs.Plans.{HasListedColumns}
use Rattle.depot_network.specs.Network.{blocks_of}
use Rattle.cover_rest.proofs.Lists.{rest-listed}
use Rattle.block_rest.specs.Rest.{RestFacts, begun_of, may_begin, rests}

-- a list of the rest with a worth is not empty and rises, and its items are there
pub rests_listed : (rest : RestFacts) → HasListedColumns (rests rest)
rests_listed rest = rest-listed (blocks_of rest.day rest.counts) (begun_of rest.heads) (may_begin rest.day rest.moment)
