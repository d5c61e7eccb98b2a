use Rattle.std.proofs.Common.{pos, get_or, rules, w64}
use Rattle.std.proofs.lemmas.Int.{to_z-of_z}
use Rattle.std.specs.Prelude.{FitsSigned}
use Rattle.label_search.proofs.Losses.{number-get, number-none}
use Rattle.label_search.proofs.later.rest.Goals as goal

pub returns-then-item-rests : goal.returns-then-item-rests
returns-then-item-rests c =
    let fits : FitsSigned w64 (get_or c.args.rests.now c.args.item (pos 0)) = search rules in
    rw (to_z-of_z w64 _ fits) (number-get c.args.rests.now c.args.item c.if-item-rests.true)

pub returns-else-item-rests : goal.returns-else-item-rests
returns-else-item-rests c = number-none c.args.rests.now c.args.item c.if-item-rests.false
