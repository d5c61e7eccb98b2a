use Rattle.std.proofs.Common.{◌≡◌, ◌∙◌, rules, w64}
use Rattle.std.proofs.lemmas.Int.{to_z-of_z}
use Rattle.std.specs.Prelude.{FitsSigned}
use Rattle.cover_core.specs.Best.{best_of, within}
use Rattle.label_search.specs.Pricing.{worth_column}
use Rattle.label_search.proofs.Pricing.{found-best, if-ok}
use Rattle.label_search.proofs.Rising.{below-more}
use Rattle.tie_search.proofs.columns.best_column_by_value.Goals as goal

pub column_of-requires-clause-items : goal.column_of-requires-clause-items
column_of-requires-clause-items g c =
    let items = rw c.in-Some.is at c.in_ok-search_by_value.ensures.items in
    let below = below-more (g.W.Labels.count c.args.labels.now) (g.C.Columns.problem c.args.columns.now).items
    c.in-Some.found.list c.requires.items items in
    rw c.as_slice.ensures below

pub returns-in-Some-clause-best : goal.returns-in-Some-clause-best
returns-in-Some-clause-best g c = λ prices group tied.
    let s = c.args.labels.now in
    let w = g.W.Labels in
    let p = g.C.Columns.problem c.args.columns.now in
    let limit_fits : FitsSigned w64 c.args.limit = search rules in
    let z = to_z-of_z w64 c.args.limit limit_fits in
    let found = rw c.in-Some.is at c.in_ok-search_by_value.ensures.found in
    let low = rw z at (rw c.in-Some.is at c.in_ok-search_by_value.ensures.within) in
    let column = rw c.as_slice.ensures at c.column_of.ensures.column in
    if-ok c.column_of.result (λ a. a ≡ worth_column p c.args.class c.in-Some.found.list)
    (λ a. a ≡ within c.args.limit prices (best_of p prices c.args.class group))
    (λ a e. e ∙ found-best (w.labelling s) (w.close_of s) p prices c.args.class group c.args.limit
    (c.best_is_first_least.ensures.limited c.args.columns.now) c.requires.class tied c.in-Some.found.list c.in-Some.found.value found low)
    column
