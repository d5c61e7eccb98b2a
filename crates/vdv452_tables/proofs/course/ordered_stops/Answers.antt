use Rattle.std.proofs.Common.{ap, ◌∙◌, rules}
use Rattle.std.proofs.lemmas.List.Sorted.{IsNonDecreasingBy-from_sort_by_key, answers_always}
use Rattle.vdv452_rows.specs.declared.rows.lines.StopRow.{StopRow}
use Rattle.vdv452_tables.specs.LookUps.{stops_in_order}
use Rattle.vdv452_tables.proofs.OrderLemmas.{sorted_items}
use Rattle.vdv452_tables.proofs.course.ordered_stops.Goals as goal

pub returns : goal.returns
returns c =
    sorted_items (λ (row : StopRow). row.number) _ _
    (IsNonDecreasingBy-from_sort_by_key (λ row. row.number) _ c.in_ok-sort_by_key.ensures.sorted (λ a r q k. search rules))
    (c.sort_by_key.ensures.stable (λ row. row.number) (answers_always _ _ _ (λ f a r g h. search rules)))
    ∙ ap stops_in_order c.in_ok-ordered.ensures
