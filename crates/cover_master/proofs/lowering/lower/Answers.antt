use Rattle.std.proofs.Common.{◌≡◌, ◌<ℤ◌, int_lt, ◌≤◌, ℕ, pos, true, false, List, length, sym, ap, subst, ◌∙◌, arith, rules, FitsSigned, w64, to_z, of_z, to_z-of_z}
use Rattle.std.proofs.lemmas.Int.{ints}
use Rattle.plan_core.specs.declared.Price.{Price}
use Rattle.cover_core.specs.FirstLeast.{value, AllWithin}
use Rattle.cover_core.proofs.Values.{Rises-length, price_of-within}
use Rattle.cover_master.specs.Method.{share_of}
use Rattle.cover_master.proofs.Losses.{lowered_prices-loss, lowered_prices-none, lowered_prices-within}
use Rattle.cover_master.proofs.lowering.lower.Goals as goal

pub share-requires-clause-low : goal.share-requires-clause-low
share-requires-clause-low c =
    let few : length c.args.column.now.items ≤ 3000 =
    (let room = Rises-length _ c.args.column.now.items c.requires.rises c.requires.items in let all = c.requires.few in omega arith) in
    let within = price_of-within 10000000000000 c.args.prices.now.items c.args.column.now.items c.requires.moderate in
    let is = c.value-value.ensures in
    omega (arith, ints, within.low, within.high)

pub share-requires-clause-few : goal.share-requires-clause-few
share-requires-clause-few c =
    let room = Rises-length _ c.args.column.now.items c.requires.rises c.requires.items in
    let all = c.requires.few in
    let same = ap (λ (l : List ℕ). length l) c.as_slice-items.ensures in
    omega arith

pub returns-then-value-lt0-clause-lowered : goal.returns-then-value-lt0-clause-lowered
returns-then-value-lt0-clause-lowered c =
    let prices = c.args.prices.now.items in
    let column = c.args.column.now in
    let items = c.as_slice-items.result.now in
    let value_fits : FitsSigned w64 c.value-value.result = search rules in
    let share_fits : FitsSigned w64 c.share.result = search rules in
    let shown : to_z w64 (of_z w64 c.value-value.result) ≡ value prices column = to_z-of_z value_fits ∙ c.value-value.ensures in
    let loss = c.if-value-lt0.true in
    let negative : value prices column <ℤ pos 0 = omega (arith, ints) in
    let test : int_lt (value prices column) (pos 0) ≡ true = grind (arith, ints) in
    let shared : to_z w64 (of_z w64 c.share.result) ≡ pos (share_of (value prices column) (length column.items)) =
    to_z-of_z share_fits ∙ c.share.ensures.value ∙ ap (λ z. pos (share_of z (length items))) shown
    ∙ ap (λ (l : List ℕ). pos (share_of (value prices column) (length l))) c.as_slice-items.ensures in
    lowered_prices-loss prices c.lower_items.new.prices column items (to_z w64 (of_z w64 c.share.result)) test c.lower_items.ensures.len
    c.as_slice-items.ensures shared c.lower_items.ensures.lowered

pub returns-then-value-lt0-clause-moderate : goal.returns-then-value-lt0-clause-moderate
returns-then-value-lt0-clause-moderate c =
    let P : List Price → Type 0 = λ l. AllWithin 10000000000000 l in
    subst P (sym (returns-then-value-lt0-clause-lowered c))
    (lowered_prices-within c.args.prices.now.items c.args.column.now c.requires.moderate)

pub returns-else-value-lt0-clause-lowered : goal.returns-else-value-lt0-clause-lowered
returns-else-value-lt0-clause-lowered c =
    let prices = c.args.prices.now.items in
    let column = c.args.column.now in
    let is = c.value-value.ensures in
    let none = c.if-value-lt0.false in
    let value_fits : FitsSigned w64 c.value-value.result = search rules in
    let test : int_lt (value prices column) (pos 0) ≡ false = grind (arith, ints) in
    lowered_prices-none prices column test
