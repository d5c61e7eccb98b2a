use Rattle.std.proofs.Common.{◌∙◌, sym, arith, rules, w64}
use Rattle.std.proofs.lemmas.Int.{ints, to_z-of_z}
use Rattle.std.specs.Prelude.{FitsSigned}
use Rattle.path_pricing.specs.Laws.{none_follows}
use Rattle.depot_network.specs.Open.{scaled}
use Rattle.depot_network.specs.Walk.{added}
use Rattle.depot_network.proofs.Opens.{map_some}
use Rattle.path_pricing.proofs.labels.BlockLabelsLabels.most_following.Goals as goal

pub returns-in-Some-clause-most : goal.returns-in-Some-clause-most
returns-in-Some-clause-most c =
    let s = c.args.self.now in
    let day = s.net.now.day in
    let price = c.price.ensures.value in
    let rest = c.rest.ensures in
    let (cost, linked, value) =
    map_some (scaled s.net.now.counts) (added day s.pool c.args.before c.args.item) c.in-Some.cost
    (sym c.link_value.ensures.value ∙ c.in-Some.is) in
    let fits : FitsSigned w64 c.most_within.result = search rules in
    rw (to_z-of_z w64 c.most_within.result fits)
    (none_follows day s.net.now.counts s.prices.now s.pool s.first s.end s.rests.now c.args.limit c.most_within.result
    c.args.before c.args.item cost linked
    (λ v (above, held). let high = c.most_within.ensures (omega (arith, ints)) in omega (arith, ints)))

-- no value of 64 bits is above the greatest one
pub returns-then-before-items-clause-most : goal.returns-then-before-items-clause-most
returns-then-before-items-clause-most c = λ a fits ends above. (let high = above.0 in let held = above.1 in absurd (omega (arith, ints)))
