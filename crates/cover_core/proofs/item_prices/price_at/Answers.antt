use Rattle.std.proofs.Common.{◌≡◌, pos, List, get_or, sym, ap, ◌∙◌, arith, FitsSigned, w64, to_z-of_z}
use Rattle.std.proofs.lemmas.Int.{ints}
use Rattle.plan_core.specs.declared.Price.{Price}
use Rattle.cover_core.specs.Plans.{price_at}
use Rattle.cover_core.proofs.Values.{price_at-get, price_at-within}
use Rattle.cover_core.proofs.item_prices.price_at.Goals as goal

pub returns-clause-value : goal.returns-clause-value
returns-clause-value c =
    let prices = c.args.prices.now.items in
    let d : Price = record { 0 = pos 0 } in
    let same : (get_or c.as_slice.result.now c.args.item d).0 ≡ price_at prices c.args.item =
    ap (λ (l : List Price). (get_or l c.args.item d).0) c.as_slice.ensures ∙ sym (price_at-get prices c.args.item d c.requires.inside) in
    let within = price_at-within 10000000000000 prices c.args.item c.requires.moderate in
    let fits : FitsSigned w64 (get_or c.as_slice.result.now c.args.item d).0 = omega (arith, ints, same, within.low, within.high) in
    to_z-of_z fits ∙ same

pub returns-clause-low : goal.returns-clause-low
returns-clause-low c =
    let prices = c.args.prices.now.items in
    let d : Price = record { 0 = pos 0 } in
    let same : (get_or c.as_slice.result.now c.args.item d).0 ≡ price_at prices c.args.item =
    ap (λ (l : List Price). (get_or l c.args.item d).0) c.as_slice.ensures ∙ sym (price_at-get prices c.args.item d c.requires.inside) in
    let within = price_at-within 10000000000000 prices c.args.item c.requires.moderate in
    omega (arith, ints, same, within.low, within.high)

pub returns-clause-high : goal.returns-clause-high
returns-clause-high c =
    let prices = c.args.prices.now.items in
    let d : Price = record { 0 = pos 0 } in
    let same : (get_or c.as_slice.result.now c.args.item d).0 ≡ price_at prices c.args.item =
    ap (λ (l : List Price). (get_or l c.args.item d).0) c.as_slice.ensures ∙ sym (price_at-get prices c.args.item d c.requires.inside) in
    let within = price_at-within 10000000000000 prices c.args.item c.requires.moderate in
    omega (arith, ints, same, within.low, within.high)
