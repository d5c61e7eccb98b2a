use Rattle.std.proofs.Common.{◌≡◌, List, ℕ, Some, sym, subst}
use Rattle.day_model.specs.Building.{day_fault}
use Rattle.day_model.proofs.Outcomes.{exact_of}
use Rattle.day_model.proofs.building.build_day.Goals as goal

pub returns-in-Ok-clause-exact : goal.returns-in-Ok-clause-exact
returns-in-Ok-clause-exact c = λ fault has.
    let P : List ℕ → Type 0 = λ places. day_fault c.args.net.now c.args.kind.now places ≡ Some fault in
    exact_of c.args.net.now c.args.kind.now c.in-Ok.rows c.day_over.result c.day_over.ensures.day c.day_over.ensures.rows
    c.day_over.ensures.fault fault (subst P (sym (c.in-Ok.ensures.only has.places has.rows)) has.is)
