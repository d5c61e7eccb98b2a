use Rattle.std.proofs.Common.{List, ap, sym, subst, ◌∙◌, rules}
use Rattle.std.proofs.lemmas.List.Sorted.{IsNonDecreasingBy-from_sort_by_key, answers_always}
use Rattle.plan_params.specs.Settings.{in_order}
use Rattle.vdv452_tables.proofs.OrderLemmas.{sorted_items}
use Rattle.plan_read.specs.declared.told.Told.{Told}
use Rattle.plan_read.specs.Told.{DoesNotFall, fid_of}
use Rattle.plan_read.proofs.told.by_fid.Goals as goal

pub returns-clause-told : goal.returns-clause-told
returns-clause-told c =
    c.from_vec.ensures
    ∙ sorted_items fid_of _ _ (IsNonDecreasingBy-from_sort_by_key fid_of _ c.in_ok-sort_by_key.ensures.sorted (λ a r q k. search rules))
    (c.sort_by_key.ensures.stable fid_of (answers_always _ _ _ (λ f a r g h. search rules)))
    ∙ ap (λ (l : List Told). in_order fid_of l) (c.into_vec-told.ensures ∙ c.in_ok-all_told.ensures)

pub returns-clause-order : goal.returns-clause-order
returns-clause-order c =
    subst DoesNotFall (sym c.from_vec.ensures)
    (IsNonDecreasingBy-from_sort_by_key fid_of _ c.in_ok-sort_by_key.ensures.sorted (λ a r q k. search rules))
