use Rattle.std.proofs.Common.{◌≡◌, drop, replicate}
use Rattle.rest_labels.specs.Prices.{nothing, placed_all}
use Rattle.rest_labels.proofs.prices.placed_prices.Given as goal

-- the bodies that are left make the prices of all
abbrev pub invariant-loop-body : goal.invariant-loop-body
invariant-loop-body l = record {
  count : l.place_at ≡ l.body-index;
  same : placed_all (drop l.body-index l.bodies) (drop l.body-index l.prices) l.spread.items
      ≡ placed_all l.bodies l.prices (replicate l.fn.items nothing);
}
