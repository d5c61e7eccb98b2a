use Rattle.std.proofs.Common.{List, IsPermutation, subst}
use Rattle.column_pool.specs.declared.key.Key.{Key}
use Rattle.column_pool.specs.Keys.{keys_of}
use Rattle.column_pool.proofs.ByValue.{by_value_if}
use Rattle.column_pool.proofs.order.places_by_value.Goals as goal

pub returns : goal.returns
returns c =
    let prices = c.args.prices.now.items in
    let pool = c.args.pool.now in
    let P : List Key → Type 0 = λ l. IsPermutation l c.sort.new.keys.items in
    let moved : IsPermutation (keys_of prices pool) c.sort.new.keys.items = subst P c.in_ok-keys.ensures c.in_ok-sort.ensures.permutation in
    by_value_if prices pool c.sort.new.keys.items c.as_slice.result.now c.places.result moved c.in_ok-sort.ensures.sorted
    c.as_slice.ensures.value c.places.ensures
