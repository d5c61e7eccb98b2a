use Rattle.std.proofs.Common.{length, sym, subst, ap, ◌∙◌, List}
use Rattle.std.proofs.lemmas.Result.{IfOk-weaker}
use Rattle.plan_core.specs.declared.Price.{Price}
use Rattle.cover_core.specs.FirstLeast.{AllWithin}
use Rattle.rest_labels.specs.Prices.{AreAlike}
use Rattle.rest_labels.proofs.Spread.{spread-alike, spread-length, spread-within}
use Rattle.rest_labels.proofs.prices.spread_prices.Goals as goal

pub returns-clause-each : goal.returns-clause-each
returns-clause-each c =
    IfOk-weaker c.placed_prices.result _ _ (λ spread is. ap (λ (l : List Price). length l) is
    ∙ spread-length c.args.items c.args.bodies.now c.args.prices.now) c.placed_prices.ensures

pub returns-clause-alike : goal.returns-clause-alike
returns-clause-alike c = λ all.
    IfOk-weaker c.placed_prices.result _ _ (λ spread is.
    subst (AreAlike c.args.bodies.now c.args.prices.now) (sym is)
    (spread-alike c.args.items c.args.bodies.now c.args.prices.now c.requires all)) c.placed_prices.ensures

pub returns-clause-within : goal.returns-clause-within
returns-clause-within c = λ most within.
    IfOk-weaker c.placed_prices.result _ _ (λ spread is. subst (AllWithin most) (sym is)
    (spread-within most c.args.items c.args.bodies.now c.args.prices.now within)) c.placed_prices.ensures
