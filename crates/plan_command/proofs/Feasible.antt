-- An offer of a pass is dual feasible.
use Rattle.std.proofs.Common.{List, [], ◌∷◌, arith}
use Rattle.std.proofs.lemmas.Int.{ints}
use Rattle.plan_core.specs.declared.Price.{Price}
use Rattle.cover_core.specs.Cover.{Problem}
use Rattle.cover_core.specs.FirstLeast.{AllWithin}
use Rattle.dual_bound.specs.declared.kept.Kept.{Kept}
use Rattle.cover_plan.specs.Ends.{IsPaidOffer}
use Rattle.plan_command.specs.Planning.{IsDualFeasible}

-- prices of a pass are moderate for a cover
moderate : (prices : List Price) → AllWithin 10000000000000 prices → AllWithin 3000000000000000 prices
moderate [] within = tt
moderate (x ∷ xs) within =
    let low = within.0 in
    let high = within.1 in
    (omega (arith, ints, low), omega (arith, ints, high), moderate xs within.2)

pub dual_feasible : (p : Problem) (kept : Kept) → IsPaidOffer p kept → IsDualFeasible p kept
dual_feasible p kept offer = record {
  prices = (offer.prices.0, moderate kept.prices.items offer.prices.1);
  class_prices = offer.class_prices;
  paid = offer.paid;
  bound = offer.bound;
}
