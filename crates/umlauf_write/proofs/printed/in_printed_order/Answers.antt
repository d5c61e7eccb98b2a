use Rattle.std.proofs.Common.{ap, sym, subst, ◌∙◌, List, rules}
use Rattle.std.proofs.lemmas.List.Sorted.{IsNonDecreasingBy-from_sort_by_key, answers_always}
use Rattle.cover_core.specs.declared.Column.{Column}
use Rattle.cover_core.specs.FirstLeast.{AreCheap}
use Rattle.cover_core.specs.Plans.{IsPlan}
use Rattle.vdv452_tables.proofs.OrderLemmas.{sorted_items}
use Rattle.umlauf_write.specs.Printed.{first_of_column, printed}
use Rattle.umlauf_write.proofs.Order.{order_cheap, order_plan}
use Rattle.umlauf_write.proofs.printed.in_printed_order.Goals as goal

-- The program sorts by first items, and the definition puts column after column in its place. The sort is stable, so of columns with
-- one first item each keeps its turn, and both give one list (`sorted_items`).
pub returns-clause-order : goal.returns-clause-order
returns-clause-order c =
    c.from_vec.ensures
    ∙ sorted_items first_of_column _ _ (IsNonDecreasingBy-from_sort_by_key first_of_column _ c.in_ok-sort_by_key.ensures.sorted
    (λ a r q k. search rules)) (c.sort_by_key.ensures.stable first_of_column (answers_always _ _ _ (λ f a r g h. search rules)))
    ∙ ap printed c.into_vec-columns.ensures

pub returns-clause-plan : goal.returns-clause-plan
returns-clause-plan c = λ p plan. let P : List Column → Type 0 = λ cs. IsPlan p cs in
    subst P (sym (returns-clause-order c)) (order_plan p c.args.plan.columns plan)

pub returns-clause-cheap : goal.returns-clause-cheap
returns-clause-cheap c = λ cheap. subst AreCheap (sym (returns-clause-order c)) (order_cheap c.args.plan.columns cheap)
