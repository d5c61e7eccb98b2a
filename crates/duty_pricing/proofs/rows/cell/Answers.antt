use Rattle.std.proofs.Common.{◌∙◌, ap, rules, pos, get_or, w64, []}
use Rattle.std.proofs.lemmas.Int.{to_z-of_z}
use Rattle.std.specs.Prelude.{FitsSigned}
use Rattle.cover_core.specs.Plans.{number_at}
use Rattle.duty_pricing.proofs.Lowering.{number-get, row-get}
use Rattle.duty_pricing.proofs.rows.cell.Goals as goal

pub returns : goal.returns
returns c =
    let rows = c.args.rows.now in
    let fits : FitsSigned w64 (get_or (get_or rows c.args.item []) c.args.left (pos 0)) = search rules in
    rw (to_z-of_z w64 _ fits) (number-get (get_or rows c.args.item []) c.args.left
    ∙ ap (λ row. number_at row c.args.left) (row-get rows c.args.item))
