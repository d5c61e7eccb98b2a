use Rattle.std.proofs.Common.{pos, get_or, sym, rules, w64, subst, ℤ, ◌≤ℤ◌, neg_ℤ}
use Rattle.std.proofs.lemmas.Int.{to_z-of_z}
use Rattle.std.specs.Prelude.{FitsSigned}
use Rattle.cover_core.proofs.Values.{price_at-get, price_at-none, price_at-within}
use Rattle.cover_core.proofs.item_prices.price.Goals as goal

pub returns-then-item-prices-clause-value : goal.returns-then-item-prices-clause-value
returns-then-item-prices-clause-value c =
    let fits : FitsSigned w64 (get_or c.args.prices.now c.args.item (record { 0 = pos 0 })).0 = search rules in
    rw (to_z-of_z w64 _ fits) (sym (price_at-get c.args.prices.now c.args.item (record { 0 = pos 0 }) c.if-item-prices.true))

pub returns-then-item-prices-clause-low : goal.returns-then-item-prices-clause-low
returns-then-item-prices-clause-low c =
    let P : ℤ → Type 0 = λ z. neg_ℤ (pos 10000000000000) ≤ℤ z in
    subst P (sym (returns-then-item-prices-clause-value c)) (price_at-within 10000000000000 c.args.prices.now c.args.item c.requires).low

pub returns-then-item-prices-clause-high : goal.returns-then-item-prices-clause-high
returns-then-item-prices-clause-high c =
    let P : ℤ → Type 0 = λ z. z ≤ℤ pos 10000000000000 in
    subst P (sym (returns-then-item-prices-clause-value c)) (price_at-within 10000000000000 c.args.prices.now c.args.item c.requires).high

pub returns-else-item-prices-clause-value : goal.returns-else-item-prices-clause-value
returns-else-item-prices-clause-value c = sym (price_at-none c.args.prices.now c.args.item c.if-item-prices.false)
