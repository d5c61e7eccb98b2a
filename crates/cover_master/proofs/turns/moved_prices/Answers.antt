use Rattle.std.proofs.Common.{◌≡◌, ◌<◌, ℤ, pos, ◌+ℤ◌, ◌-ℤ◌, ◌*ℤ◌, ◌++◌, ◌∷◌, [], List, length, get_or, sym, ap, ◌∙◌, arith, rules, FitsSigned, w64, to_z, of_z, to_z-of_z, length-append}
use Rattle.std.proofs.lemmas.Int.{ints}
use Rattle.plan_core.specs.declared.Price.{Price}
use Rattle.cover_core.specs.Plans.{price_at}
use Rattle.cover_core.proofs.Values.{price_at-get, price_at-within}
use Rattle.cover_master.specs.Method.{moved_price, clamped}
use Rattle.cover_master.proofs.Prices.{moved-is, pushed-more}
use Rattle.cover_master.proofs.turns.moved_prices.Goals as goal

pub price_after_step-requires-clause-low : goal.price_after_step-requires-clause-low
price_after_step-requires-clause-low c =
    let prices = c.args.prices.now.items in
    let same = c.as_slice-price-items.ensures in
    let inside : c.loop-item.item < length prices =
    (let h = ap (λ (l : List Price). length l) same in let t = c.loop-item-test.true in omega arith) in
    let d : Price = record { 0 = pos 0 } in
    let is : (get_or c.as_slice-price-items.result.now c.loop-item.item d).0 ≡ price_at prices c.loop-item.item =
    ap (λ (l : List Price). (get_or l c.loop-item.item d).0) same ∙ sym (price_at-get prices c.loop-item.item d inside) in
    let within = price_at-within 10000000000000 prices c.loop-item.item c.requires.moderate in
    omega (arith, ints, within.low, within.high)

pub price_after_step-requires-clause-high : goal.price_after_step-requires-clause-high
price_after_step-requires-clause-high c =
    let prices = c.args.prices.now.items in
    let same = c.as_slice-price-items.ensures in
    let inside : c.loop-item.item < length prices =
    (let h = ap (λ (l : List Price). length l) same in let t = c.loop-item-test.true in omega arith) in
    let d : Price = record { 0 = pos 0 } in
    let is : (get_or c.as_slice-price-items.result.now c.loop-item.item d).0 ≡ price_at prices c.loop-item.item =
    ap (λ (l : List Price). (get_or l c.loop-item.item d).0) same ∙ sym (price_at-get prices c.loop-item.item d inside) in
    let within = price_at-within 10000000000000 prices c.loop-item.item c.requires.moderate in
    omega (arith, ints, within.low, within.high)

pub loop-item-preserved : goal.loop-item-preserved
loop-item-preserved c =
    let prices = c.args.prices.now.items in
    let cover = c.args.cover.now in
    let item = c.loop-item.item in
    let same = c.as_slice-price-items.ensures in
    let inside : item < length prices = (let h = ap (λ (l : List Price). length l) same in let t = c.loop-item-test.true in omega arith) in
    let d : Price = record { 0 = pos 0 } in
    let is : (get_or c.as_slice-price-items.result.now item d).0 ≡ price_at prices item =
    ap (λ (l : List Price). (get_or l item d).0) same ∙ sym (price_at-get prices item d inside) in
    let within = price_at-within 10000000000000 prices item c.requires.moderate in
    let price_fits : FitsSigned w64 (get_or c.as_slice-price-items.result.now item d).0 =
    omega (arith, ints, is, within.low, within.high) in
    let price : to_z w64 (of_z w64 (get_or c.as_slice-price-items.result.now item d).0) ≡ price_at prices item =
    to_z-of_z price_fits ∙ is in
    let size : ℤ = to_z w64 (of_z w64 c.args.size) in
    let moved : c.price_after_step.result
    ≡ clamped (to_z w64 (of_z w64 (get_or c.as_slice-price-items.result.now item d).0)
    +ℤ (to_z w64 (of_z w64 c.args.size) *ℤ (pos 1 -ℤ pos (get_or cover item 0)))) = c.price_after_step.ensures in
    let moved_fits : FitsSigned w64 c.price_after_step.result = search rules in
    let value : to_z w64 (of_z w64 c.price_after_step.result) ≡ moved_price prices size cover item =
    to_z-of_z moved_fits ∙ moved-is prices size cover item c.price_after_step.result _ moved price in
    let pushed : c.push.new.self ≡ c.loop-item.new ++ record { 0 = to_z w64 (of_z w64 c.price_after_step.result) } ∷ [] =
    c.in_ok-push.ensures.ok in
    record {
      order = omega arith;
      len = ap (λ (l : List Price). length l) pushed
          ∙ (omega (
            arith,
            length-append c.loop-item.new (record { 0 = to_z w64 (of_z w64 c.price_after_step.result) } ∷ []),
            c.loop-item.invariant.len,
          ));
      moved = λ k h. ap (λ (l : List Price). price_at l k) pushed
          ∙ pushed-more (moved_price prices size cover) c.loop-item.new item (record { 0 = to_z w64 (of_z w64 c.price_after_step.result) })
          c.loop-item.invariant.len value c.loop-item.invariant.moved k h;
    }
