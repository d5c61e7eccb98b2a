use Rattle.std.proofs.Common.{sym, ◌∙◌, ap, subst}
use Rattle.vdv451_text.specs.Answers.{AnswersAs}
use Rattle.vdv451_text.specs.FieldView.{field_or_fault}
use Rattle.vdv451_text.proofs.PieceLemmas.{passes, quoted_value_answer, quoted_value_fault, bare_value_answer, text_behind}
use Rattle.vdv451_text.proofs.pieces.value.Goals as goal

pub returns-in_err-closed_text : goal.returns-in_err-closed_text
returns-in_err-closed_text c =
    passes _ _ _ _ c.from_residual.ensures.1 c.in_err-closed_text.ensures
    (λ w. quoted_value_fault c.args.format.now c.args.bytes.now _ (sym c.begins_with_quote.ensures ∙ c.if-begins_with_quote.true)
    (ap field_or_fault (sym (text_behind c.args.bytes.now)) ∙ w))

pub returns-in_ok-closed_text : goal.returns-in_ok-closed_text
returns-in_ok-closed_text c =
    let given = quoted_value_answer c.args.format.now c.args.bytes.now _ (sym c.begins_with_quote.ensures ∙ c.if-begins_with_quote.true)
    (ap field_or_fault (sym (text_behind c.args.bytes.now)) ∙ c.in_ok-closed_text.ensures) in
    subst (λ answer. AnswersAs c.text_field.result answer) (sym given) c.text_field.ensures

pub returns-else-begins_with_quote : goal.returns-else-begins_with_quote
returns-else-begins_with_quote c =
    bare_value_answer c.args.format.now c.args.bytes.now _ (sym c.begins_with_quote.ensures ∙ c.if-begins_with_quote.false)
    c.bare_value.ensures
