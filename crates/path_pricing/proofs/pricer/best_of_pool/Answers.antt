use Rattle.std.proofs.Common.{◌≡◌, ℤ, Option, rules, subst, to_z, of_z, w64}
use Rattle.std.proofs.lemmas.Int.{to_z-of_z}
use Rattle.std.specs.Prelude.{FitsSigned, IfOk}
use Rattle.cover_core.specs.declared.Column.{Column}
use Rattle.cover_core.specs.Best.{best_of, within}
use Rattle.label_search.proofs.Pricing.{of_range-tied}
use Rattle.depot_network.specs.Network.{blocks}
use Rattle.depot_network.specs.Open.{closed_open, opening}
use Rattle.depot_network.proofs.Opens.{opening_tied}
use Rattle.day_model.specs.Blocks.{block_worth}
use Rattle.path_pricing.proofs.pricer.best_of_pool.Goals as goal

pub returns-clause-best : goal.returns-clause-best
returns-clause-best c =
    let net = c.args.net.now in
    let fits : FitsSigned w64 c.args.limit = search rules in
    let limit : to_z w64 (of_z w64 c.args.limit) ≡ c.args.limit = to_z-of_z w64 c.args.limit fits in
    let P : ℤ → Type 0 = λ z. IfOk c.best_column.result
    (λ (answer : Option Column). answer ≡ within z c.args.prices.now (best_of (blocks net) c.args.prices.now c.args.class c.args.group)) in
    subst P limit (c.best_column.ensures.best c.args.prices.now c.args.group
    (of_range-tied (opening net.day net.counts c.args.prices.now c.args.pool) (closed_open net.day net.counts c.args.pool) c.args.prices.now
    c.args.group (block_worth net.day net.counts c.args.class)
    (opening_tied net.day net.counts c.args.prices.now c.args.pool c.args.class c.requires.there)))
