-- The order of keys is a total one.
use Rattle.std.specs.Cmp.{IsTotalOrder, IsStrictWeakOrder}
use Rattle.std.proofs.lemmas.Cmp.{back_total, then_total, on_total, nat_cmp_total, int_cmp_total}
use Rattle.std.proofs.lemmas.List.Sorted.{ranks_by}
use Rattle.plan_dive.specs.declared.key.Key.{Key}
use Rattle.plan_dive.specs.Orders.{key_cmp, is_before}

pub key_total : IsTotalOrder key_cmp
key_total = then_total (back_total (on_total (λ (k : Key). k.count) nat_cmp_total))
    (then_total (on_total (λ (k : Key). k.value) int_cmp_total) (on_total (λ (k : Key). k.place) nat_cmp_total))

pub before_order : IsStrictWeakOrder is_before
before_order = ranks_by key_total (λ (k : Key). k)
