use Rattle.std.proofs.Common.{◌≤◌, sym, subst, rules}
use Rattle.cover_core.specs.declared.Column.{Column}
use Rattle.cover_core.proofs.Values.{AreCheap-get}
use Rattle.umlauf_write.proofs.duties.duty_rows.Goals as goal

pub duty_row-requires-clause-cheap : goal.duty_row-requires-clause-cheap
duty_row-requires-clause-cheap c =
    let P : Column → Type 0 = λ duty. duty.worth ≤ 4000000000 in
    subst P (sym c.index-duties-place.is)
    (AreCheap-get c.args.duties.now c.loop-place.place c.index-duties-place.result c.requires.cheap (search rules))
