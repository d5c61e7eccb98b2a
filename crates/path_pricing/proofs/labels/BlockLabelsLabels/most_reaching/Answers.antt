use Rattle.std.proofs.Common.{arith, rules, w64}
use Rattle.std.proofs.lemmas.Int.{ints, to_z-of_z}
use Rattle.std.specs.Prelude.{FitsSigned}
use Rattle.path_pricing.specs.Laws.{none_reaches}
use Rattle.path_pricing.proofs.labels.BlockLabelsLabels.most_reaching.Goals as goal

pub returns-clause-most : goal.returns-clause-most
returns-clause-most c =
    let s = c.args.self.now in
    let price = c.price.ensures.value in
    let rest = c.rest.ensures in
    let fits : FitsSigned w64 c.most_within-most.result = search rules in
    rw (to_z-of_z w64 c.most_within-most.result fits)
    (none_reaches s.net.now.day s.net.now.counts s.prices.now s.pool s.first s.end s.rests.now c.args.limit
    c.most_within-most.result c.args.item
    (λ v (above, held). let high = c.most_within-most.ensures (omega (arith, ints)) in omega (arith, ints)))
