use Rattle.std.proofs.Common.{◌++◌, append-nil, ap, sym, ◌∙◌}
use Rattle.number_tables.specs.Numbers.{number_rows}
use Rattle.umlauf_write.proofs.BoundRows.{bounds_done}
use Rattle.umlauf_write.proofs.bounds.bound_rows.Goals as goal

pub returns : goal.returns
returns c =
    let done = ap (λ rows. c.loop-place.rows ++ number_rows rows)
    (bounds_done c.loop-place.place c.args.values.now c.args.bounds.now c.loop-place-test.false) in
    sym (c.loop-place.invariant ∙ done ∙ append-nil c.loop-place.rows)
