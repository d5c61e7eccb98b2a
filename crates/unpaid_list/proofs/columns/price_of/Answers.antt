use Rattle.std.proofs.Common.{pos, get_or, rules, w64}
use Rattle.std.proofs.lemmas.Int.{to_z-of_z}
use Rattle.std.specs.Prelude.{FitsSigned}
use Rattle.label_search.proofs.Losses.{number-get, number-none}
use Rattle.unpaid_list.proofs.columns.price_of.Goals as goal

pub returns-then-class-class_prices : goal.returns-then-class-class_prices
returns-then-class-class_prices c =
    let fits : FitsSigned w64 (get_or c.args.class_prices.now c.args.class (pos 0)) = search rules in
    rw (to_z-of_z w64 _ fits) (number-get c.args.class_prices.now c.args.class c.if-class-class_prices.true)

pub returns-else-class-class_prices : goal.returns-else-class-class_prices
returns-else-class-class_prices c = number-none c.args.class_prices.now c.args.class c.if-class-class_prices.false
