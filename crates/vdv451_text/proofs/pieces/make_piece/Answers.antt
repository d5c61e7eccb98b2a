use Rattle.std.proofs.Common.{sym, ◌∙◌, ap}
use Rattle.vdv451_text.specs.FieldView.{field_or_fault}
use Rattle.vdv451_text.proofs.PieceLemmas.{passes, quoted_piece_answer, quoted_piece_fault, text_behind}
use Rattle.vdv451_text.proofs.pieces.make_piece.Goals as goal

pub returns-in_err-closed_text : goal.returns-in_err-closed_text
returns-in_err-closed_text c =
    passes _ _ _ _ c.from_residual.ensures.1 c.in_err-closed_text.ensures
    (λ w. quoted_piece_fault c.args.bytes.now _ (sym c.begins_with_quote.ensures ∙ c.if-begins_with_quote.true)
    (ap field_or_fault (sym (text_behind c.args.bytes.now)) ∙ w))

pub returns-in_ok-closed_text : goal.returns-in_ok-closed_text
returns-in_ok-closed_text c =
    quoted_piece_answer c.args.bytes.now _ (sym c.begins_with_quote.ensures ∙ c.if-begins_with_quote.true)
    (ap field_or_fault (sym (text_behind c.args.bytes.now)) ∙ c.in_ok-closed_text.ensures)
