use Rattle.std.proofs.Common.{◌≡◌, ℤ, arith, length, rules, subst, sym, to_z, of_z, w64}
use Rattle.std.proofs.lemmas.Int.{ints, to_z-of_z}
use Rattle.std.specs.Prelude.{FitsSigned}
use Rattle.cover_core.specs.Plans.{number_at}
use Rattle.path_pricing.specs.Blocks.{IsDeep}
use Rattle.path_pricing.proofs.LinkSteps.{deep_over}
use Rattle.path_pricing.proofs.linked.with_link.Goals as goal

pub returns-in-Some-clause-deep : goal.returns-in-Some-clause-deep
returns-in-Some-clause-deep c =
    let fits : FitsSigned w64 c.lower.result = search rules in
    let back : to_z w64 (of_z w64 c.lower.result) ≡ c.lower.result = to_z-of_z w64 c.lower.result fits in
    let P : ℤ → Type 0 = λ z. IsDeep (length c.args.net.now.day.trips) c.args.t z in
    subst P (sym back) (
    deep_over (length c.args.net.now.day.trips) c.args.t c.args.u c.args.least c.in-Some.cost c.price.result
    (number_at c.args.rests.now c.args.u) c.rest.result c.sum_over.result c.lower.result
    c.requires.later c.requires.next c.requires.least_deep c.requires.deep c.in-Some.ensures.low c.price.ensures.high c.rest.ensures
    (omega (arith, ints, c.sum_over.ensures)) (omega (arith, ints, c.lower.ensures.first))
    (λ x a b. c.lower.ensures.least x (omega (arith, ints, a)) (omega (arith, ints, b))))
