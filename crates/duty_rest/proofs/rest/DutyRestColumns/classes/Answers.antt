use Rattle.std.proofs.Common.{subst}
use Rattle.cover_core.specs.Ranges.{HasModestWorths}
use Rattle.cover_rest.proofs.Lists.{rest-modest}
use Rattle.duty_network.specs.Duties.{duties}
use Rattle.duty_rest.specs.Rest.{RestFacts, begun_of, may_begin, rests}
use Rattle.duty_rest.proofs.rest.DutyRestColumns.classes.Goals as goal

-- a list of the rest is worth what its pieces are
pub returns-clause-worths : goal.returns-clause-worths
returns-clause-worths c =
    let rest = c.self.inside in
    let Modest : RestFacts → Type 0 = λ r. HasModestWorths (rests r) in
    subst Modest c.self.view_is (rest-modest (duties rest.net.now) (begun_of rest.heads) may_begin c.classes.ensures.worths)
