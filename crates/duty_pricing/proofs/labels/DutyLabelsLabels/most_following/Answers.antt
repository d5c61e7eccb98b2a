use Rattle.std.proofs.Common.{arith, rules, w64}
use Rattle.std.proofs.lemmas.Int.{ints, to_z-of_z}
use Rattle.std.specs.Prelude.{FitsSigned}
use Rattle.label_search.specs.Limits.{is_low}
use Rattle.duty_pricing.specs.Bounds.{floor_of}
use Rattle.duty_pricing.specs.Laws.{follows-none, none-reaches}
use Rattle.duty_pricing.proofs.labels.DutyLabelsLabels.most_following.Goals as goal

pub returns-clause-most : goal.returns-clause-most
returns-clause-most c =
    let s = c.args.self.now in
    let limit_fits : FitsSigned w64 c.args.limit = search rules in
    let most_fits : FitsSigned w64 c.most_with-most.result = search rules in
    let low = rw (to_z-of_z w64 c.args.limit limit_fits) at c.most_with-most.ensures in
    rw (to_z-of_z w64 c.most_with-most.result most_fits)
    (follows-none s.net.now s.prices.now s.class s.crew s.first s.end s.latest
    (is_low (floor_of s.reach s.crew s.rows.items s.over.items) c.args.limit) c.args.before c.args.item c.most_with-most.result
    (none-reaches s.net.now s.prices.now s.class s.crew s.first s.end s.reach s.latest s.rows.items s.over.items c.args.limit
    c.most_with-most.result c.args.item s.in_reach s.bound
    (λ v (above, held). let at_most = low (omega (arith, ints)) in omega (arith, ints))))
