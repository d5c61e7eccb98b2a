use Rattle.std.proofs.Common.{arith, rules, w64}
use Rattle.std.proofs.lemmas.Int.{ints, to_z-of_z}
use Rattle.std.specs.Prelude.{FitsSigned}
use Rattle.label_search.specs.Samples.{ways-unreached}
use Rattle.rest_tests.proofs.labellings.WaysLabels.most_reaching.Goals as goal

pub returns-clause-most : goal.returns-clause-most
returns-clause-most c =
    let s = c.args.self.now in
    let fits : FitsSigned w64 c.most_within.result = search rules in
    rw (to_z-of_z w64 c.most_within.result fits)
    (ways-unreached s.count s.seed c.args.item c.args.limit c.most_within.result (λ v (above, held). let high =
    c.most_within.ensures (omega (arith, ints)) in omega (arith, ints)))
