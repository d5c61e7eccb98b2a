-- Inner: the order in which columns are fixed.
use Rattle.std.specs.Prelude.{Bool}
use Rattle.std.specs.Ordering.{nat_cmp, int_cmp, then_cmp, on, flip_args, is_lt}
use Rattle.std.specs.declared.cmp.Ordering.{Ordering}
use Rattle.plan_dive.specs.declared.key.Key.{Key}

-- by count, the greatest first, then by value and place
abbrev pub key_cmp : Key → Key → Ordering
key_cmp = then_cmp (flip_args (on (λ (k : Key). k.count) nat_cmp))
    (then_cmp (on (λ (k : Key). k.value) int_cmp) (on (λ (k : Key). k.place) nat_cmp))

-- whether a column comes before another
abbrev pub is_before : Key → Key → Bool
is_before x y = is_lt (key_cmp x y)
