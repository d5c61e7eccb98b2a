use Rattle.std.proofs.Common.{pos, get_or, rules, w64}
use Rattle.std.proofs.lemmas.Int.{to_z-of_z}
use Rattle.std.specs.Prelude.{FitsSigned}
use Rattle.label_search.proofs.Losses.{number-get}
use Rattle.path_pricing.proofs.linked.number.Goals as goal

pub returns : goal.returns
returns c =
    let fits : FitsSigned w64 (get_or c.args.numbers.now c.args.t (pos 0)) = search rules in
    rw (to_z-of_z w64 _ fits) (number-get c.args.numbers.now c.args.t c.requires)
