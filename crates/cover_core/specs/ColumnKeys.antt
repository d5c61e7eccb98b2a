-- Promise: the order in which the columns of a pool are chosen.
use Rattle.std.specs.Prelude.{Bool}
use Rattle.std.specs.Ordering.{nat_cmp, int_cmp, then_cmp, on, is_lt}
use Rattle.std.specs.declared.cmp.Ordering.{Ordering}
use Rattle.cover_core.specs.declared.column_keys.ColumnKey.{ColumnKey}

-- by value, and then by place
abbrev pub place_cmp : ColumnKey → ColumnKey → Ordering
place_cmp = then_cmp (on (λ k. k.value) int_cmp) (on (λ k. k.place) nat_cmp)

-- by class, value and place
abbrev pub key_cmp : ColumnKey → ColumnKey → Ordering
key_cmp = then_cmp (on (λ k. k.class) nat_cmp) place_cmp

-- whether a column comes before another
abbrev pub is_before : ColumnKey → ColumnKey → Bool
is_before x y = is_lt (key_cmp x y)
