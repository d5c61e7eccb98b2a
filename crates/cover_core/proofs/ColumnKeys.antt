-- The order of columns by class, value and place is a total one, so that the sorting of the library may be asked for it, and in its
-- result no column stands before one that is less, however far apart the two are.
use Rattle.std.specs.Cmp.{IsTotalOrder, IsStrictWeakOrder}
use Rattle.std.proofs.lemmas.Cmp.{then_total, on_total, nat_cmp_total, int_cmp_total}
use Rattle.std.proofs.lemmas.List.Sorted.{ranks_by}
use Rattle.cover_core.specs.declared.column_keys.ColumnKey.{ColumnKey}
use Rattle.cover_core.specs.ColumnKeys.{place_cmp, key_cmp, is_before}

pub place_total : IsTotalOrder place_cmp
place_total = then_total (on_total (λ (k : ColumnKey). k.value) int_cmp_total) (on_total (λ (k : ColumnKey). k.place) nat_cmp_total)

pub key_total : IsTotalOrder key_cmp
key_total = then_total (on_total (λ (k : ColumnKey). k.class) nat_cmp_total) place_total

pub before_order : IsStrictWeakOrder is_before
before_order = ranks_by key_total (λ (k : ColumnKey). k)
