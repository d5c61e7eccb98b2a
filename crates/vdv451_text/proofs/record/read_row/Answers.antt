use Rattle.std.proofs.Common.{◌≡◌, sym, ◌∙◌, ap}
use Rattle.std.specs.Option.{option_copied, option_map}
use Rattle.vdv451_text.specs.FieldView.{field_or_fault}
use Rattle.vdv451_text.specs.Fields.{value_of}
use Rattle.vdv451_text.specs.Lines.{piece_of, trimmed}
use Rattle.vdv451_text.proofs.PieceLemmas.{passes}
use Rattle.vdv451_text.proofs.RowLemmas.{row_goes_on, row_breaks}
use Rattle.vdv451_text.proofs.record.read_row.Goals as goal

pub returns-in_err-value : goal.returns-in_err-value
returns-in_err-value c =
    let same : field_or_fault (option_map (value_of c.column-item.result.format) (piece_of (trimmed c.first_field.result.0.now)))
    ≡ field_or_fault (option_map (value_of c.as_slice.result.now) (piece_of c.trimmed.result.now)) =
    ap (λ t. field_or_fault (option_map (value_of t) (piece_of (trimmed c.first_field.result.0.now)))) (sym c.as_slice.ensures)
    ∙ ap (λ t. field_or_fault (option_map (value_of c.as_slice.result.now) (piece_of t))) (sym c.trimmed.ensures) in
    passes _ _ _ _ c.from_residual-in_err-value.ensures.1 c.in_err-value.ensures
    (λ w. row_breaks _ c.args.columns.now _ c.column-item.result c.loop-column.row.items _ _ _ _ _ c.loop-column.invariant
    c.loop-column-test.true c.column-item.is (ap option_copied c.in-Some.is) c.first_field.ensures.fields (same ∙ w))

pub loop-column-preserved : goal.loop-column-preserved
loop-column-preserved c =
    let same : field_or_fault (option_map (value_of c.column-item.result.format) (piece_of (trimmed c.first_field.result.0.now)))
    ≡ field_or_fault (option_map (value_of c.as_slice.result.now) (piece_of c.trimmed.result.now)) =
    ap (λ t. field_or_fault (option_map (value_of t) (piece_of (trimmed c.first_field.result.0.now)))) (sym c.as_slice.ensures)
    ∙ ap (λ t. field_or_fault (option_map (value_of c.as_slice.result.now) (piece_of t))) (sym c.trimmed.ensures) in
    row_goes_on _ c.args.columns.now _ c.column-item.result c.loop-column.row.items c.push.new.self.items _ _ _ _ _ c.loop-column.invariant
    c.loop-column-test.true c.column-item.is (ap option_copied c.in-Some.is) c.first_field.ensures.fields (same ∙ c.in_ok-value.ensures)
    c.in_ok-push.ensures.items
