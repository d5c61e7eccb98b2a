use Rattle.std.proofs.Common.{List, [], ◌∷◌, ◌+◌, ◌++◌, ap, ◌∙◌, rules}
use Rattle.plan_core.specs.declared.types.Piece.{Piece}
use Rattle.vdv451_text.specs.declared.table.Field.{Field}
use Rattle.number_tables.specs.Signed.{signed_row}
use Rattle.umlauf_write.specs.Answers.{part_numbers, part_row}
use Rattle.umlauf_write.proofs.Rows.{counted_more}
use Rattle.umlauf_write.proofs.duties.add_parts.Goals as goal

pub loop-place-preserved : goal.loop-place-preserved
loop-place-preserved c =
    let row = c.in_ok-part_row.ensures ∙ ap (λ (piece : Piece). signed_row (part_numbers (c.args.duty + 1) (c.loop-place.place + 1) piece))
    c.piece_at-piece.ensures.value in
    let pushed = c.in_ok-push.ensures.ok ∙ ap (λ (row : List Field). c.loop-place.rows ++ row ∷ []) row in
    counted_more (part_row c.args.pieces.now (c.args.duty + 1)) signed_row c.loop-place.place c.as_slice-items.result.now
    0 _ c.loop-place.rows c.push.new.self (search rules) pushed c.loop-place.invariant
