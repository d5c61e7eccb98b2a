use Rattle.std.proofs.Common.{true, false, ℕ, List, nat_lt, ap, ◌∙◌, sym}
use Rattle.std.specs.List.{list_all}
use Rattle.plan_check.proofs.Worthy.{below-from, no-worth}
use Rattle.plan_check.proofs.check.worth_of.Goals as goal

pub returns-then-not-are_there : goal.returns-then-not-are_there
returns-then-not-are_there g c =
    let p = g.C.Columns.problem c.args.columns.now in
    let count = ap (λ (n : ℕ). list_all (λ item. nat_lt item n) c.args.list.now.items) c.items.ensures.value in
    let list = ap (λ (l : List ℕ). list_all (λ item. nat_lt item c.items.result) l) c.as_slice.ensures in
    sym (no-worth p c.args.list.now (g.met.C.Columns.listed c.args.columns.now)
    (sym count ∙ (sym list ∙ (sym c.are_there.ensures ∙ c.if-not-are_there.true))))

pub worth-requires-clause-items : goal.worth-requires-clause-items
worth-requires-clause-items g c =
    let p = g.C.Columns.problem c.args.columns.now in
    let count = ap (λ (n : ℕ). list_all (λ item. nat_lt item n) c.as_slice-2.result.now) c.items.ensures.value in
    let list = ap (λ (l : List ℕ). list_all (λ item. nat_lt item c.items.result) l) (c.as_slice-2.ensures ∙ sym c.as_slice.ensures) in
    below-from p.items c.as_slice-2.result.now (sym count ∙ (list ∙ (sym c.are_there.ensures ∙ c.if-not-are_there.false)))
