use Rattle.std.proofs.Common.{List, ℤ, sym, subst}
use Rattle.offer_estimate.specs.Scales.{AreLeasts}
use Rattle.climb_rounds.proofs.Lists.{priced_leasts}
use Rattle.climb_rounds.proofs.offers.estimate_of.Goals as goal

pub best_guess-requires-clause-least : goal.best_guess-requires-clause-least
best_guess-requires-clause-least g c =
    let p = g.C.Columns.problem c.args._problem.now in
    let P : List ℤ → Type 0 = λ l. AreLeasts l in
    subst P (sym c.requires.least)
    (priced_leasts p c.args.prices.now.items (c.least_values.ensures.bound c.args._problem.now)
    (c.least_values.ensures.lists c.args._problem.now) c.requires.setting.ground.sized.items c.requires.prices.1)
