use Rattle.std.proofs.Common.{List, [], ◌∷◌, ◌+◌, ◌++◌, ap, ◌∙◌, rules}
use Rattle.vdv451_text.specs.declared.table.Field.{Field}
use Rattle.number_tables.specs.Signed.{signed_row}
use Rattle.umlauf_write.specs.Answers.{leg_numbers}
use Rattle.umlauf_write.proofs.Rows.{counted_more, no_leg}
use Rattle.umlauf_write.proofs.legs.add_legs.Goals as goal

pub loop-place-preserved : goal.loop-place-preserved
loop-place-preserved c =
    let pushed = c.in_ok-push.ensures.ok ∙ ap (λ (row : List Field). c.loop-place.rows ++ row ∷ []) c.in_ok-leg_row.ensures in
    counted_more (leg_numbers c.args.trips.now (c.args.block + 1)) signed_row c.loop-place.place c.args.legs.now no_leg _ c.loop-place.rows
    c.push.new.self (search rules) pushed c.loop-place.invariant
