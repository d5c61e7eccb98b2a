use Rattle.std.proofs.Common.{ap, ◌∙◌, map, rules}
use Rattle.std.proofs.lemmas.List.Sorted.{IsNonDecreasingBy-from_sort_by_key, answers_always}
use Rattle.plan_params.specs.declared.rows.group.Group.{Group}
use Rattle.plan_params.specs.Settings.{in_order, group_of}
use Rattle.vdv452_tables.proofs.OrderLemmas.{sorted_items}
use Rattle.plan_params.proofs.RangeLemmas.{groups_all}
use Rattle.plan_params.proofs.reading.read_groups.Goals as goal

pub returns-clause-value : goal.returns-clause-value
returns-clause-value c =
    c.from_vec.ensures
    ∙ sorted_items (λ (group : Group). group.number) _ _ (IsNonDecreasingBy-from_sort_by_key
    (λ (group : Group). group.number) _ c.in_ok-sort_by_key.ensures.sorted (λ a r q k. search rules))
    (c.sort_by_key.ensures.stable (λ (group : Group). group.number) (answers_always _ _ _ (λ f a r g h. search rules)))
    ∙ ap (in_order (λ (group : Group). group.number)) c.in_ok-groups.ensures
    ∙ ap (λ rows. in_order (λ (group : Group). group.number) (map group_of rows)) c.extra.ensures.rows

pub returns-clause-ranges : goal.returns-clause-ranges
returns-clause-ranges c =
    groups_all c.args.net.now c.extra.result.now c.from_vec.result c.extra.ensures.rows c.extra.ensures.fits (returns-clause-value c)
