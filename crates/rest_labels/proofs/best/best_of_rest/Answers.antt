use Rattle.std.proofs.Common.{◌≡◌, ℕ, List, Option, ap, sym, subst, ◌∙◌, w64}
use Rattle.std.proofs.lemmas.Int.{to_z-of_z}
use Rattle.cover_core.specs.Cover.{Problem}
use Rattle.label_search.specs.Pricing.{IsTiedInGroup}
use Rattle.cover_rest.specs.Rest.{rest_worth}
use Rattle.rest_labels.specs.Groups.{group_labels}
use Rattle.rest_labels.proofs.best.best_of_rest.Goals as goal

pub returns-clause-best : goal.returns-clause-best
returns-clause-best g c = λ p heads may prices spread are.
    let l = c.args.labels.now in
    let w = l.labels.now in
    let class = c.args.class in
    let worth : (g.C.Columns.problem c.args.rest.now).worth class ≡ rest_worth p heads l.bodies.now may class =
    ap (λ (q : Problem). q.worth class) are.rest_is ∙ ap (λ bs. rest_worth p heads bs may class) (sym are.bodies_are) in
    let P : (List ℕ → Option ℕ) → Type 0 = λ f.
    IsTiedInGroup (group_labels (g.W.Labels.labelling w) l.bodies.now l.starts.now l.ended.now l.group)
    (λ a. g.W.Labels.close_of w a.label) prices l.group f in
    let tied = c.rest_is_tied.ensures w p heads l.bodies.now may class l.starts.now l.ended.now prices spread l.group are.first are.end
    are.marks are.are are.begin are.tied in
    rw (to_z-of_z w64 c.args.limit c.ranges.limit) at (c.best_column.ensures.best prices l.group (subst P (sym worth) tied))
