use Rattle.std.proofs.Common.{pos, get_or, sym, rules, w64}
use Rattle.std.proofs.lemmas.Int.{to_z-of_z}
use Rattle.std.specs.Prelude.{FitsSigned}
use Rattle.cover_core.proofs.Values.{price_at-get}
use Rattle.label_tests.proofs.mark_cover_tests.price.Goals as goal

pub returns : goal.returns
returns c =
    let fits : FitsSigned w64 (get_or c.args.prices.now c.args.item (record { 0 = pos 0 })).0 = search rules in
    rw (to_z-of_z w64 _ fits) (sym (price_at-get c.args.prices.now c.args.item (record { 0 = pos 0 }) c.requires))
