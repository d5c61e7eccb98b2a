use Rattle.std.proofs.Common.{sym, subst, ◌∙◌}
use Rattle.cover_core.specs.Cover.{AllBelow}
use Rattle.cover_rest.proofs.Steps.{body-here}
use Rattle.rest_labels.proofs.Steps.{body-below}
use Rattle.rest_labels.proofs.pricing.RestLabels.body.Goals as goal

pub returns-clause-body : goal.returns-clause-body
returns-clause-body g c = c.as_slice.ensures ∙ body-here c.args.self.now.bodies.now c.args.item c.index-self-item.result c.requires

pub returns-clause-items : goal.returns-clause-items
returns-clause-items g c =
    let s = c.args.self.now in
    subst (AllBelow (g.W.Labels.count s.labels.now)) (sym (returns-clause-body g c))
    (body-below (g.W.Labels.count s.labels.now) s.bodies.now c.args.item s.items)

pub returns-clause-some : goal.returns-clause-some
returns-clause-some g c = λ none. c.args.self.now.some c.args.item c.requires (sym (returns-clause-body g c) ∙ none)
