use Rattle.std.proofs.Common.{◌∙◌}
use Rattle.std.proofs.lemmas.Int.{to_z-of_z}
use Rattle.round_tests.proofs.SinglesAre.{single_best}
use Rattle.round_tests.proofs.single_pricer.SinglesPricer.best.Goals as goal

pub returns-clause-best : goal.returns-clause-best
returns-clause-best c =
    let fits = c.ranges.limit in
    (simp to_z-of_z at c.column_within.ensures)
    ∙ single_best c.args.self.now.items c.args.prices.now.items c.args.class c.args.group c.args.limit c.in_ok-column.column
    (c.best_is_first_least.ensures.best c.args.self.now) c.backward_order.ensures.total
    c.requires.class c.requires.group c.in_ok-column.ensures.class c.in_ok-column.ensures.worth c.in_ok-column.ensures.items
