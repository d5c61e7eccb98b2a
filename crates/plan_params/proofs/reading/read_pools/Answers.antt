use Rattle.std.proofs.Common.{ap, ◌∙◌, map, rules}
use Rattle.std.proofs.lemmas.List.Sorted.{IsNonDecreasingBy-from_sort_by_key, answers_always}
use Rattle.plan_params.specs.declared.rows.pool.Pool.{Pool}
use Rattle.plan_params.specs.Settings.{in_order, pool_of}
use Rattle.vdv452_tables.proofs.OrderLemmas.{sorted_items}
use Rattle.plan_params.proofs.RangeLemmas.{pools_all}
use Rattle.plan_params.proofs.reading.read_pools.Goals as goal

pub returns-clause-value : goal.returns-clause-value
returns-clause-value c =
    c.from_vec.ensures
    ∙ sorted_items (λ (pool : Pool). pool.number) _ _ (IsNonDecreasingBy-from_sort_by_key
    (λ (pool : Pool). pool.number) _ c.in_ok-sort_by_key.ensures.sorted (λ a r q k. search rules))
    (c.sort_by_key.ensures.stable (λ (pool : Pool). pool.number) (answers_always _ _ _ (λ f a r g h. search rules)))
    ∙ ap (in_order (λ (pool : Pool). pool.number)) c.in_ok-pools.ensures
    ∙ ap (λ rows. in_order (λ (pool : Pool). pool.number) (map pool_of rows)) c.extra.ensures.rows

pub returns-clause-ranges : goal.returns-clause-ranges
returns-clause-ranges c =
    pools_all c.args.net.now c.extra.result.now c.from_vec.result c.extra.ensures.rows c.extra.ensures.fits (returns-clause-value c)
