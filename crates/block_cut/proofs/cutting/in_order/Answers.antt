use Rattle.std.proofs.Common.{ap, ◌∙◌, rules}
use Rattle.std.proofs.lemmas.List.Sorted.{IsNonDecreasingBy-from_sort_by_key, answers_always}
use Rattle.vdv452_tables.proofs.OrderLemmas.{sorted_items}
use Rattle.plan_params.specs.Settings.{in_order}
use Rattle.block_cut.specs.Cuts.{moment}
use Rattle.block_cut.proofs.cutting.in_order.Goals as goal

pub returns : goal.returns
returns c =
    c.from_vec.ensures
    ∙ sorted_items moment _ _ (IsNonDecreasingBy-from_sort_by_key moment _ c.in_ok-sort_by_key.ensures.sorted (λ a r q k. search rules))
    (c.sort_by_key.ensures.stable moment (answers_always _ _ _ (λ f a r g h. search rules)))
    ∙ ap (in_order moment) c.into_vec-pieces.ensures
