use Rattle.std.proofs.Common.{◌∙◌, ap, rules, w64}
use Rattle.std.proofs.lemmas.Int.{to_z-of_z}
use Rattle.std.specs.Prelude.{FitsSigned}
use Rattle.cover_core.specs.Plans.{price_at}
use Rattle.label_cover.proofs.steps.price_of.Goals as goal

pub returns : goal.returns
returns c =
    let fits : FitsSigned w64 c.price_or_zero.result = search rules in
    rw (to_z-of_z w64 c.price_or_zero.result fits) (c.price_or_zero.ensures ∙ ap (λ prices. price_at prices c.args.item) c.as_slice.ensures)
