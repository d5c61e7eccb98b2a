-- Promise: the lists of a rest.
use Rattle.cover_core.specs.Plans.{HasListedColumns}
use Rattle.duty_network.specs.Duties.{duties}
use Rattle.cover_rest.proofs.Lists.{rest-listed}
use Rattle.duty_rest.specs.Rest.{RestFacts, begun_of, may_begin, rests}

-- a list of the rest with a worth is not empty and rises, and its items are there
pub rests_listed : (rest : RestFacts) → HasListedColumns (rests rest)
rests_listed rest = rest-listed (duties rest.net) (begun_of rest.heads) may_begin
