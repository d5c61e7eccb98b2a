use Rattle.std.proofs.Common.{sym, ◌∙◌, ap}
use Rattle.std.specs.Option.{option_copied}
use Rattle.vdv451_text.specs.FewFields.{checked}
use Rattle.vdv451_text.specs.Lines.{piece_of}
use Rattle.vdv451_text.proofs.FewLemmas.{crowd_goes_on, crowd_fails, none_copied}
use Rattle.vdv451_text.proofs.few.crowd_fault.Goals as goal

pub loop-rest-preserved : goal.loop-rest-preserved
loop-rest-preserved c =
    crowd_goes_on c.args.kind _ (option_copied c.loop-rest.rest) (option_copied c.first_field.result.1)
    c.in-Some.bytes.now _ _ c.loop-rest.invariant (ap option_copied c.in-Some.is) c.first_field.ensures.fields
    (none_copied c.first_field.result.1 c.is_none.result c.is_none.ensures)
    (ap (λ t. checked c.args.kind c.is_none.result (piece_of t)) (sym c.trimmed.ensures) ∙ c.in_default-check_field.ensures)

pub returns-in-Err : goal.returns-in-Err
returns-in-Err c =
    crowd_fails c.args.kind _ (option_copied c.loop-rest.rest) (option_copied c.first_field.result.1)
    c.in-Some.bytes.now _ _ _ c.loop-rest.invariant (ap option_copied c.in-Some.is) c.first_field.ensures.fields
    (none_copied c.first_field.result.1 c.is_none.result c.is_none.ensures)
    (ap (λ t. checked c.args.kind c.is_none.result (piece_of t)) (sym c.trimmed.ensures)) c.in-Err.ensures
