use Rattle.std.proofs.Common.{pos, get_or, sym, rules, w64}
use Rattle.std.proofs.lemmas.Int.{to_z-of_z}
use Rattle.std.specs.Prelude.{FitsSigned}
use Rattle.cover_core.proofs.Values.{price_at-get, price_at-none}
use Rattle.cover_core.proofs.item_prices.price_or_zero.Goals as goal

pub returns-then-item-prices : goal.returns-then-item-prices
returns-then-item-prices c =
    let fits : FitsSigned w64 (get_or c.args.prices.now c.args.item (record { 0 = pos 0 })).0 = search rules in
    rw (to_z-of_z w64 _ fits) (sym (price_at-get c.args.prices.now c.args.item (record { 0 = pos 0 }) c.if-item-prices.true))

pub returns-else-item-prices : goal.returns-else-item-prices
returns-else-item-prices c = sym (price_at-none c.args.prices.now c.args.item c.if-item-prices.false)
