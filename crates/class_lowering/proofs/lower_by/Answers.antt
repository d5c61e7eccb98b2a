use Rattle.std.proofs.Common.{◌≡◌, ◌<ℤ◌, ◌≤ℤ◌, ◌+ℤ◌, int_lt, ◌≤◌, ℕ, ℤ, pos, true, false, List, length, sym, ap, subst, ◌∙◌, arith, rules, FitsSigned, w64, to_z, of_z, to_z-of_z}
use Rattle.std.proofs.lemmas.Int.{ints}
use Rattle.plan_core.specs.declared.Price.{Price}
use Rattle.cover_core.specs.FirstLeast.{AllWithin}
use Rattle.cover_core.proofs.Values.{Rises-length, price_of-within}
use Rattle.cover_master.specs.Method.{share_of}
use Rattle.class_lowering.specs.Lowering.{value_with}
use Rattle.class_lowering.proofs.Losses.{lowered_prices-loss, lowered_prices-none, lowered_prices-within}
use Rattle.class_lowering.proofs.lower_by.Goals as goal

pub overflow_add-value : goal.overflow_add-value
overflow_add-value c =
    let few : length c.args.column.now.items ≤ 3000 =
    (let room = Rises-length _ c.args.column.now.items c.requires.rises c.requires.items in let all = c.requires.few in omega arith) in
    let within = price_of-within 10000000000000 c.args.prices.now.items c.args.column.now.items c.requires.moderate in
    let is = c.value.ensures in
    let cheap = c.requires.cheap in
    let low = c.requires.low in
    let high = c.requires.high in
    omega (arith, ints, within.low, within.high)

pub share-requires-clause-low : goal.share-requires-clause-low
share-requires-clause-low c =
    let few : length c.args.column.now.items ≤ 3000 =
    (let room = Rises-length _ c.args.column.now.items c.requires.rises c.requires.items in let all = c.requires.few in omega arith) in
    let within = price_of-within 10000000000000 c.args.prices.now.items c.args.column.now.items c.requires.moderate in
    let is = c.value.ensures in
    let cheap = c.requires.cheap in
    let low = c.requires.low in
    let high = c.requires.high in
    omega (arith, ints, within.low, within.high)

pub share-requires-clause-few : goal.share-requires-clause-few
share-requires-clause-few c =
    let room = Rises-length _ c.args.column.now.items c.requires.rises c.requires.items in
    let all = c.requires.few in
    let same = ap (λ (l : List ℕ). length l) c.as_slice-items.ensures in
    omega arith

pub returns-then-value-lt0-clause-lowered : goal.returns-then-value-lt0-clause-lowered
returns-then-value-lt0-clause-lowered c =
    let prices = c.args.prices.now.items in
    let column = c.args.column.now in
    let items = c.as_slice-items.result.now in
    let few : length c.args.column.now.items ≤ 3000 =
    (let room = Rises-length _ c.args.column.now.items c.requires.rises c.requires.items in let all = c.requires.few in omega arith) in
    let within = price_of-within 10000000000000 prices column.items c.requires.moderate in
    let is = c.value.ensures in
    let cheap = c.requires.cheap in
    let low = c.requires.low in
    let high = c.requires.high in
    let sum : ℤ = to_z w64 (of_z w64 (to_z w64 (of_z w64 c.value.result) +ℤ to_z w64 (of_z w64 c.args.asked))) in
    let shown : sum ≡ value_with prices column c.args.asked = omega (arith, ints, within.low, within.high) in
    let share_fits : FitsSigned w64 c.share.result = search rules in
    let loss = c.if-value-lt0.true in
    let negative : value_with prices column c.args.asked <ℤ pos 0 = omega (arith, ints, shown) in
    let test : int_lt (value_with prices column c.args.asked) (pos 0) ≡ true = grind (arith, ints) in
    let shared : to_z w64 (of_z w64 c.share.result) ≡ pos (share_of (value_with prices column c.args.asked) (length column.items)) =
    to_z-of_z share_fits ∙ c.share.ensures.value ∙ ap (λ z. pos (share_of z (length items))) shown
    ∙ ap (λ (l : List ℕ). pos (share_of (value_with prices column c.args.asked) (length l))) c.as_slice-items.ensures in
    lowered_prices-loss prices c.lower_items.new.prices column c.args.asked items (to_z w64 (of_z w64 c.share.result)) test
    c.lower_items.ensures.len c.as_slice-items.ensures shared c.lower_items.ensures.lowered

pub returns-then-value-lt0-clause-moderate : goal.returns-then-value-lt0-clause-moderate
returns-then-value-lt0-clause-moderate c =
    let P : List Price → Type 0 = λ l. AllWithin 10000000000000 l in
    subst P (sym (returns-then-value-lt0-clause-lowered c))
    (lowered_prices-within c.args.prices.now.items c.args.column.now c.args.asked c.requires.moderate)

pub returns-else-value-lt0-clause-lowered : goal.returns-else-value-lt0-clause-lowered
returns-else-value-lt0-clause-lowered c =
    let prices = c.args.prices.now.items in
    let column = c.args.column.now in
    let few : length c.args.column.now.items ≤ 3000 =
    (let room = Rises-length _ c.args.column.now.items c.requires.rises c.requires.items in let all = c.requires.few in omega arith) in
    let within = price_of-within 10000000000000 prices column.items c.requires.moderate in
    let is = c.value.ensures in
    let cheap = c.requires.cheap in
    let low = c.requires.low in
    let high = c.requires.high in
    let sum : ℤ = to_z w64 (of_z w64 (to_z w64 (of_z w64 c.value.result) +ℤ to_z w64 (of_z w64 c.args.asked))) in
    let shown : sum ≡ value_with prices column c.args.asked = omega (arith, ints, within.low, within.high) in
    let none = c.if-value-lt0.false in
    let above : pos 0 ≤ℤ value_with prices column c.args.asked = omega (arith, ints, shown) in
    let test : int_lt (value_with prices column c.args.asked) (pos 0) ≡ false = grind (arith, ints) in
    lowered_prices-none prices column c.args.asked test
