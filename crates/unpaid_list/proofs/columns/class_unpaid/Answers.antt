use Rattle.std.proofs.Common.{◌≡◌, ◌-ℤ◌, ◌∙◌, ap, neg_ℤ, pos, rules, subst, w64}
use Rattle.std.proofs.lemmas.Int.{to_z-of_z}
use Rattle.std.specs.Prelude.{FitsSigned}
use Rattle.cover_core.specs.Cover.{Problem}
use Rattle.label_search.specs.Pricing.{worth_column}
use Rattle.label_search.proofs.Pricing.{if-ok}
use Rattle.mark_cover.specs.Marking.{AreMarksOf, of_class}
use Rattle.unpaid_list.proofs.Firsts.{above-paid, found-least, least-answer, none-answer, unpaid-answer}
use Rattle.unpaid_list.proofs.columns.class_unpaid.Goals as goal

pub returns-in-None-clause-none : goal.returns-in-None-clause-none
returns-in-None-clause-none g c =
    let s = c.args.m.now in
    let m = g.M.Marks.marking s in
    let prices = g.M.Marks.prices s in
    let p = g.C.Columns.problem c.args.columns.now in
    let P : Problem → Type 0 = λ q. AreMarksOf m q prices in
    let tied = (subst P c.requires.same (g.met.M.Marks.tied s)).tied c.args.class c.requires.class in
    let price_fits : FitsSigned w64 c.args.class_price = search rules in
    let limit_fits : FitsSigned w64 c.limit_of.result = search rules in
    let limit = c.limit_of.ensures ∙ ap (λ z. neg_ℤ z -ℤ pos 1) (to_z-of_z w64 c.args.class_price price_fits) in
    let above = rw limit at (rw (to_z-of_z w64 c.limit_of.result limit_fits) at (rw c.in-None.is at c.in_ok-search.ensures.none)) in
    above-paid (of_class m c.args.class) m.close p prices c.args.class c.args.class_price tied above

pub returns-in-Some-clause-least : goal.returns-in-Some-clause-least
returns-in-Some-clause-least g c =
    let s = c.args.m.now in
    let m = g.M.Marks.marking s in
    let prices = g.M.Marks.prices s in
    let p = g.C.Columns.problem c.args.columns.now in
    let P : Problem → Type 0 = λ q. AreMarksOf m q prices in
    let tied = (subst P c.requires.same (g.met.M.Marks.tied s)).tied c.args.class c.requires.class in
    let list = c.in-Some.found.list in
    let least = c.in-Some.found.value in
    let found = found-least (of_class m c.args.class) m.close p prices c.args.class list least c.requires.class tied
    (rw c.in-Some.is at c.in_ok-search.ensures.found) in
    if-ok c.column_of.result (λ a. a ≡ worth_column p c.args.class list) _
    (λ a e. least-answer p prices c.args.class list least a found e) (rw c.as_slice.ensures at c.column_of.ensures.column)

pub returns-in-Some-clause-unpaid : goal.returns-in-Some-clause-unpaid
returns-in-Some-clause-unpaid g c =
    let s = c.args.m.now in
    let m = g.M.Marks.marking s in
    let prices = g.M.Marks.prices s in
    let p = g.C.Columns.problem c.args.columns.now in
    let P : Problem → Type 0 = λ q. AreMarksOf m q prices in
    let tied = (subst P c.requires.same (g.met.M.Marks.tied s)).tied c.args.class c.requires.class in
    let list = c.in-Some.found.list in
    let least = c.in-Some.found.value in
    let found = found-least (of_class m c.args.class) m.close p prices c.args.class list least c.requires.class tied
    (rw c.in-Some.is at c.in_ok-search.ensures.found) in
    let price_fits : FitsSigned w64 c.args.class_price = search rules in
    let limit_fits : FitsSigned w64 c.limit_of.result = search rules in
    let limit = c.limit_of.ensures ∙ ap (λ z. neg_ℤ z -ℤ pos 1) (to_z-of_z w64 c.args.class_price price_fits) in
    let low = rw limit at (rw (to_z-of_z w64 c.limit_of.result limit_fits) at (rw c.in-Some.is at c.in_ok-search.ensures.within)) in
    if-ok c.column_of.result (λ a. a ≡ worth_column p c.args.class list) _
    (λ a e. unpaid-answer p prices c.args.class list least c.args.class_price a found low e)
    (rw c.as_slice.ensures at c.column_of.ensures.column)

pub returns-in-Some-clause-none : goal.returns-in-Some-clause-none
returns-in-Some-clause-none g c =
    let s = c.args.m.now in
    let m = g.M.Marks.marking s in
    let prices = g.M.Marks.prices s in
    let p = g.C.Columns.problem c.args.columns.now in
    let P : Problem → Type 0 = λ q. AreMarksOf m q prices in
    let tied = (subst P c.requires.same (g.met.M.Marks.tied s)).tied c.args.class c.requires.class in
    let list = c.in-Some.found.list in
    let least = c.in-Some.found.value in
    let found = found-least (of_class m c.args.class) m.close p prices c.args.class list least c.requires.class tied
    (rw c.in-Some.is at c.in_ok-search.ensures.found) in
    if-ok c.column_of.result (λ a. a ≡ worth_column p c.args.class list) _
    (λ a e. none-answer p prices c.args.class list least a _ found e) (rw c.as_slice.ensures at c.column_of.ensures.column)
