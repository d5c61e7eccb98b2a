use Rattle.std.proofs.Common.{◌≡◌, ◌<◌, ◌-ℤ◌, ℤ, List, length, get_or, take, ap, ◌∙◌, arith, rules, FitsSigned, w64, to_z, of_z, to_z-of_z}
use Rattle.std.proofs.Math.ListN.{length-set}
use Rattle.std.proofs.lemmas.Int.{ints}
use Rattle.plan_core.specs.declared.Price.{Price}
use Rattle.cover_core.specs.Plans.{price_at}
use Rattle.cover_core.proofs.Values.{AllBelow-get}
use Rattle.cover_master.specs.Method.{clamped}
use Rattle.cover_master.proofs.Losses.{lowered_by-within, lowered-more}
use Rattle.cover_master.proofs.lowering.lower_items.Goals as goal

pub price_in-price-requires : goal.price_in-price-requires
price_in-price-requires c =
    let below = AllBelow-get _ c.args.items.now c.loop-item.item-index c.requires.items c.loop-item-test.true in
    omega (arith, c.loop-item.invariant.len)

pub set-requires : goal.set-requires
set-requires c =
    let below = AllBelow-get _ c.args.items.now c.loop-item.item-index c.requires.items c.loop-item-test.true in
    omega (arith, c.loop-item.invariant.len)

pub price_less_share-requires-clause-price_low : goal.price_less_share-requires-clause-price_low
price_less_share-requires-clause-price_low c =
    let item = get_or c.args.items.now c.loop-item.item-index 0 in
    let within = lowered_by-within (take c.loop-item.item-index c.args.items.now) (to_z w64 (of_z w64 c.args.share)) c.args.prices.now
    item c.requires.moderate in
    let is = c.price_in-price.ensures in
    let by = c.loop-item.invariant.lowered item in
    omega (arith, ints, within.low, within.high)

pub price_less_share-requires-clause-price_high : goal.price_less_share-requires-clause-price_high
price_less_share-requires-clause-price_high c =
    let item = get_or c.args.items.now c.loop-item.item-index 0 in
    let within = lowered_by-within (take c.loop-item.item-index c.args.items.now) (to_z w64 (of_z w64 c.args.share)) c.args.prices.now
    item c.requires.moderate in
    let is = c.price_in-price.ensures in
    let by = c.loop-item.invariant.lowered item in
    omega (arith, ints, within.low, within.high)

pub loop-item-preserved : goal.loop-item-preserved
loop-item-preserved c =
    let items = c.args.items.now in
    let k = c.loop-item.item-index in
    let item = get_or items k 0 in
    let now = c.loop-item.prices in
    let share : ℤ = to_z w64 (of_z w64 c.args.share) in
    let below : item < length c.args.prices.now = AllBelow-get _ items k c.requires.items c.loop-item-test.true in
    let there : item < length now = omega (arith, c.loop-item.invariant.len) in
    let lowered_fits : FitsSigned w64 c.price_less_share.result = search rules in
    let price_fits : FitsSigned w64 c.price_in-price.result = search rules in
    let price : to_z w64 (of_z w64 c.price_in-price.result) ≡ price_at now item = to_z-of_z price_fits ∙ c.price_in-price.ensures in
    let x : Price = record { 0 = to_z w64 (of_z w64 c.price_less_share.result) } in
    let is : x.0 ≡ clamped (price_at now item -ℤ share) =
    to_z-of_z lowered_fits ∙ c.price_less_share.ensures ∙ ap (λ z. clamped (z -ℤ share)) price in
    record {
      len = ap (λ (l : List Price). length l) c.set.ensures ∙ length-set now item x ∙ c.loop-item.invariant.len;
      lowered = λ i. ap (λ (l : List Price). price_at l i) c.set.ensures
          ∙ lowered-more c.args.prices.now now items k share x c.loop-item-test.true c.requires.rises there is
          c.loop-item.invariant.lowered i;
    }
