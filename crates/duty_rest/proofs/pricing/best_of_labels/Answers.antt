use Rattle.std.proofs.Common.{◌≡◌, ℤ, Option, rules, subst, to_z, of_z, w64}
use Rattle.std.proofs.lemmas.Int.{to_z-of_z}
use Rattle.std.specs.Prelude.{FitsSigned, IfOk}
use Rattle.cover_core.specs.declared.Column.{Column}
use Rattle.cover_core.specs.Best.{best_of, within}
use Rattle.duty_rest.specs.Rest.{rests}
use Rattle.duty_rest.proofs.pricing.best_of_labels.Goals as goal

pub returns-clause-best : goal.returns-clause-best
returns-clause-best c = λ p heads may prices are.
    let fits : FitsSigned w64 c.args.limit = search rules in
    let limit : to_z w64 (of_z w64 c.args.limit) ≡ c.args.limit = to_z-of_z w64 c.args.limit fits in
    let P : ℤ → Type 0 = λ z. IfOk c.best_of_rest.result
    (λ (answer : Option Column). answer ≡ within z prices (best_of (rests c.args.rest.now) prices c.args.class c.args.group)) in
    subst P limit (c.best_of_rest.ensures.best p heads may prices c.args.labels.now.prices.now are)
