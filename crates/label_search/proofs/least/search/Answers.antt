use Rattle.std.proofs.Common.{w64, rules}
use Rattle.std.proofs.lemmas.Int.{to_z-of_z}
use Rattle.std.specs.Prelude.{FitsSigned}
use Rattle.label_search.proofs.least.search.Goals as goal

pub returns-clause-none : goal.returns-clause-none
returns-clause-none g c =
    let limit_fits : FitsSigned w64 c.args.limit = search rules in
    let z = to_z-of_z w64 c.args.limit limit_fits in
    rw z at c.search_under-2.ensures.none
