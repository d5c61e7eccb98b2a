-- The order in which columns are freed is a total one.
use Rattle.std.specs.Cmp.{IsTotalOrder, IsStrictWeakOrder}
use Rattle.std.proofs.lemmas.Cmp.{back_total, then_total, on_total, nat_cmp_total, int_cmp_total}
use Rattle.std.proofs.lemmas.List.Sorted.{ranks_by}
use Rattle.climb_rounds.specs.declared.mending.Rank.{Rank}
use Rattle.climb_rounds.specs.Mends.{rank_cmp, is_before}

pub rank_total : IsTotalOrder rank_cmp
rank_total = then_total (back_total (on_total (λ (k : Rank). k.value) int_cmp_total)) (on_total (λ (k : Rank). k.place) nat_cmp_total)

pub before_order : IsStrictWeakOrder is_before
before_order = ranks_by rank_total (λ (k : Rank). k)
