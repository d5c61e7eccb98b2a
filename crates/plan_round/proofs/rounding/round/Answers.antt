use Rattle.std.proofs.Common.{List, ℕ, length, sym, subst}
use Rattle.cover_core.specs.declared.Column.{Column}
use Rattle.cover_core.specs.Cover.{AllBelow}
use Rattle.plan_round.specs.Rounding.{rounded, picked}
use Rattle.plan_round.proofs.Places.{places_below, completes}
use Rattle.plan_round.proofs.rounding.round.Goals as goal

pub round_over-requires-clause-places : goal.round_over-requires-clause-places
round_over-requires-clause-places g c =
    let P : List ℕ → Type 0 = λ l. AllBelow (length c.as_slice.result.now) l in
    let Q : List Column → Type 0 = λ l. AllBelow (length l) c.in-Ok.places in
    subst P (sym c.as_slice-in-Ok.ensures)
    (subst Q (sym c.as_slice.ensures.value) (places_below c.args.prices.now.items c.args.pool.now c.in-Ok.places c.in-Ok.ensures))

pub returns-in-Ok-clause-complete : goal.returns-in-Ok-clause-complete
returns-in-Ok-clause-complete g c = λ room.
    let p = g.C.Columns.problem c.args.columns.now in
    completes p (rounded p (picked c.as_slice.result.now c.as_slice-in-Ok.result.now)) c.round_over.result
    (g.met.C.Columns.listed c.args.columns.now) room c.round_over.ensures.fault
