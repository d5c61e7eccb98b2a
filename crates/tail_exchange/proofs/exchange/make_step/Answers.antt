use Rattle.std.proofs.Common.{◌≡◌, pos, ◌<ℤ◌, List, Some, refl, subst, rules}
use Rattle.rayon.specs.Lists.{IsLeast}
use Rattle.cover_core.specs.declared.Column.{Column}
use Rattle.tail_exchange.specs.Order.{candidate_cmp}
use Rattle.tail_exchange.specs.Exchange.{all_steps}
use Rattle.tail_exchange.proofs.Steps.{none-lowers}
use Rattle.tail_exchange.proofs.exchange.make_step.Goals as goal

pub returns-clause-step : goal.returns-clause-step
returns-clause-step g c =
    let p = g.C.Columns.problem c.args.columns.now in
    let plan : List Column = c.args.plan.now in
    let step = c.in-Some.step in
    let high : step.change <ℤ pos 0 → ⊥ = search rules in
    let P : List Column → Type 0 = λ l. IsLeast candidate_cmp (all_steps p l) (Some step) in
    let same : c.as_slice-2.result.now ≡ plan = c.as_slice-2.ensures in
    (refl, none-lowers p plan step (subst P same c.in-Some.ensures) high)
