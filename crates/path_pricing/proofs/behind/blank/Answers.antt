use Rattle.std.proofs.Common.{ℤ, List, rules, subst, sym, w64}
use Rattle.std.proofs.lemmas.Int.{to_z-of_z}
use Rattle.std.specs.Prelude.{FitsSigned}
use Rattle.path_pricing.specs.Rows.{AreModerate, IsModerate}
use Rattle.path_pricing.proofs.Cells.{equal_moderate}
use Rattle.path_pricing.proofs.behind.blank.Goals as goal

pub returns-clause-moderate : goal.returns-clause-moderate
returns-clause-moderate c = λ fits.
    let value_fits : FitsSigned w64 c.args.value = search rules in
    let put = c.in_ok-numbers.ensures.items_if_clones_equal (λ y e. e) in
    let P : List ℤ → Type 0 = AreModerate in
    let Q : ℤ → Type 0 = IsModerate in
    subst P (sym put) (equal_moderate c.args.count _ (subst Q (sym (to_z-of_z w64 c.args.value value_fits)) fits))
