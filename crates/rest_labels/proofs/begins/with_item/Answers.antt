use Rattle.std.proofs.Common.{◌≡◌, ℕ, List, sym, subst, ◌∙◌}
use Rattle.cover_core.specs.Cover.{AllBelow}
use Rattle.cover_rest.specs.Rest.{body_at}
use Rattle.cover_rest.proofs.Steps.{body-here}
use Rattle.rest_labels.proofs.Steps.{body-below}
use Rattle.rest_labels.proofs.begins.with_item.Goals as goal

stands : (c : goal.After-as_slice) → c.as_slice.result.now ≡ body_at c.args.bodies.now c.args.item
stands c = c.as_slice.ensures ∙ c.index-bodies-item.is ∙ body-here c.args.bodies.now c.args.item c.index-bodies-item.result c.requires.item

pub with_body-requires : goal.with_body-requires
with_body-requires c =
    let P : List ℕ → Type 0 = AllBelow c.args.items in
    subst P (sym (stands c)) (body-below c.args.items c.args.bodies.now c.args.item c.requires.bodies.below)

pub returns-then-item-group-clause-within : goal.returns-then-item-group-clause-within
returns-then-item-group-clause-within c = λ y ys inside is.
    c.with_body.ensures.within y ys
    (c.as_slice.ensures ∙ c.index-bodies-item.is ∙ body-here c.args.bodies.now c.args.item c.index-bodies-item.result c.requires.item ∙ is)
