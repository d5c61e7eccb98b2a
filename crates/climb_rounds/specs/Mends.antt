-- Inner: the order in which columns of a plan are freed.
use Rattle.std.specs.Prelude.{Bool}
use Rattle.std.specs.Ordering.{nat_cmp, int_cmp, then_cmp, on, flip_args, is_lt}
use Rattle.std.specs.declared.cmp.Ordering.{Ordering}
use Rattle.climb_rounds.specs.declared.mending.Rank.{Rank}

-- by value, the greatest first, then by place
abbrev pub rank_cmp : Rank → Rank → Ordering
rank_cmp = then_cmp (flip_args (on (λ (k : Rank). k.value) int_cmp)) (on (λ (k : Rank). k.place) nat_cmp)

-- whether a column comes before another
abbrev pub is_before : Rank → Rank → Bool
is_before x y = is_lt (rank_cmp x y)
