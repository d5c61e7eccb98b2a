use Rattle.std.proofs.Common.{◌≡◌, ap, rules}
use Rattle.std.specs.Ordering.{is_lt}
use Rattle.std.proofs.lemmas.List.Sorted.{answers_always}
use Rattle.cover_core.specs.ColumnKeys.{is_before, key_cmp}
use Rattle.cover_core.proofs.ColumnKeys.{before_order}
use Rattle.cover_core.proofs.column_keys.sort_keys.Goals as goal

pub returns-in-Ok-clause-sorted : goal.returns-in-Ok-clause-sorted
returns-in-Ok-clause-sorted c =
    c.in-Ok.ensures.sorted is_before before_order
    (answers_always _ (λ a r. is_lt r ≡ is_before a.0.now a.1.0.now) _ (λ f a r q k. let same : r ≡ key_cmp a.0.now a.1.0.now =
    search rules in ap is_lt same))
