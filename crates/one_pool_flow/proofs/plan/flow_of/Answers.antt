use Rattle.std.proofs.Common.{ℤ, List, ℕ, Option, IfNone, IfSome, rules, sym, ap, subst, FitsSigned, w64, to_z-of_z, slice_get}
use Rattle.plan_params.specs.declared.rows.pool.Pool.{Pool}
use Rattle.path_cover.specs.declared.least.LeastCover.{LeastCover}
use Rattle.path_cover.specs.Augmenting.{potentials_of}
use Rattle.path_cover.specs.Greatest.{AreGreatest}
use Rattle.path_cover.specs.Nets.{IsCover, IsFirstLeastCover}
use Rattle.path_cover.specs.Searching.{AreLow}
use Rattle.one_pool_flow.specs.DayNets.{net_of}
use Rattle.one_pool_flow.specs.Flows.{AreFlowBound, AreModerate}
use Rattle.one_pool_flow.proofs.FlowPlans.{flow_bound, flow_moderate, flow_plan, no_plan}
use Rattle.one_pool_flow.proofs.plan.flow_of.Goals as goal

pub returns-in-None-clause-none : goal.returns-in-None-clause-none
returns-in-None-clause-none c =
    let net = net_of c.args.day.now c.args.pool.now in
    no_plan c.args.day.now c.args.pool.now c.requires.pool
    (subst (λ (found : Option LeastCover). IfNone found ((lists : List (List ℕ)) → IsCover net lists → ⊥)) c.in-None.is
    c.in_ok-least_cover.ensures.none)

pub returns-clause-plan : goal.returns-clause-plan
returns-clause-plan c =
    let net = net_of c.args.day.now c.args.pool.now in
    flow_plan c.args.day.now c.args.pool.now c.requires.pool c.in-Some.cover.paths
    (subst (λ (found : Option LeastCover). IfSome found (λ (least : LeastCover). IsFirstLeastCover net least.paths)) c.in-Some.is
    c.in_ok-least_cover.ensures.first)

pub returns-clause-bound : goal.returns-clause-bound
returns-clause-bound c =
    let day = c.args.day.now in
    let net = net_of day c.args.pool.now in
    let cover = c.in-Some.cover in
    let prices = c.in_ok-prices-in-Some.prices in
    let first : IsFirstLeastCover net cover.paths =
    subst (λ (found : Option LeastCover). IfSome found (λ (least : LeastCover). IsFirstLeastCover net least.paths)) c.in-Some.is
    c.in_ok-least_cover.ensures.first in
    let greatest : AreGreatest net cover.paths (potentials_of cover.falls) =
    subst (λ (found : Option LeastCover). IfSome found (λ (least : LeastCover). AreGreatest net least.paths (potentials_of least.falls)))
    c.in-Some.is c.in_ok-least_cover.ensures.greatest in
    let fits : FitsSigned w64 prices.class = search rules in
    subst (λ (class : ℤ). AreFlowBound day cover.paths prices.nodes.items class) (sym (to_z-of_z fits))
    (flow_bound day c.args.pool.now c.requires.pool cover.paths (potentials_of cover.falls) prices.nodes.items prices.class first.cover
    greatest c.in_ok-prices-in-Some.ensures)

pub returns-clause-moderate : goal.returns-clause-moderate
returns-clause-moderate c =
    let day = c.args.day.now in
    let net = net_of day c.args.pool.now in
    let cover = c.in-Some.cover in
    let prices = c.in_ok-prices-in-Some.prices in
    let greatest : AreGreatest net cover.paths (potentials_of cover.falls) =
    subst (λ (found : Option LeastCover). IfSome found (λ (least : LeastCover). AreGreatest net least.paths (potentials_of least.falls)))
    c.in-Some.is c.in_ok-least_cover.ensures.greatest in
    let low : AreLow cover.falls 1500000000000 =
    subst (λ (found : Option LeastCover). IfSome found (λ (least : LeastCover). AreLow least.falls 1500000000000)) c.in-Some.is
    c.in_ok-least_cover.ensures.low in
    let fits : FitsSigned w64 prices.class = search rules in
    subst (λ (class : ℤ). AreModerate day prices.nodes.items class) (sym (to_z-of_z fits))
    (flow_moderate day c.args.pool.now cover.paths cover.falls prices.nodes.items prices.class greatest low c.in_ok-prices-in-Some.ensures)

-- the table needs the pool at its place
pub rows-requires-clause-pool : goal.rows-requires-clause-pool
rows-requires-clause-pool c = ap (λ (pools : List Pool). slice_get pools 0) c.requires.pool
