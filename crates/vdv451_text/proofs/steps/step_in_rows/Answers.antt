use Rattle.std.proofs.Common.{sym, ◌∙◌, ap, Ok, true}
use Rattle.std.specs.Option.{option_copied}
use Rattle.vdv451_text.specs.Lines.{fields_of}
use Rattle.vdv451_text.specs.Machine.{InRows, Open}
use Rattle.vdv451_text.specs.RowView.{row_of}
use Rattle.vdv451_text.proofs.PieceLemmas.{passes}
use Rattle.vdv451_text.proofs.StepLemmas.{leads_on, refuses, rec_step, end_step}
use Rattle.vdv451_text.proofs.steps.step_in_rows.Goals as goal

pub returns-in_err-row-in-Rec : goal.returns-in_err-row-in-Rec
returns-in_err-row-in-Rec c =
    passes _ _ _ _ c.from_residual.ensures.1 c.in_err-row-in-Rec.ensures
    (λ w. refuses (InRows c.args.tables c.args.name c.args.columns c.args.rows)
    c.args.keyword _ (option_copied c.args.rest) _ _ _ c.in-Rec.is
    (rec_step c.args.tables c.args.name c.args.columns c.args.rows (option_copied c.args.rest))
    (ap (λ t. row_of t (fields_of (option_copied c.args.rest))) (sym c.as_slice.ensures) ∙ w))

pub returns-in_ok-push-in-Rec : goal.returns-in_ok-push-in-Rec
returns-in_ok-push-in-Rec c =
    leads_on (InRows c.args.tables c.args.name c.args.columns c.args.rows) c.args.keyword _ (option_copied c.args.rest) _ _ _ c.in-Rec.is
    (rec_step c.args.tables c.args.name c.args.columns c.args.rows (option_copied c.args.rest))
    (ap (λ t. row_of t (fields_of (option_copied c.args.rest))) (sym c.as_slice.ensures) ∙ c.in_ok-row-in-Rec.ensures)
    ∙ ap (λ t. Ok (InRows c.args.tables c.args.name c.args.columns t)) (sym c.in_ok-push-in-Rec.ensures.ok)

pub returns-in_err-check_end-in-End : goal.returns-in_err-check_end-in-End
returns-in_err-check_end-in-End c =
    passes _ _ _ _ c.from_residual-in_err-check_end-in-End.ensures.1 c.in_err-check_end-in-End.ensures
    (λ w. refuses (InRows c.args.tables c.args.name c.args.columns c.args.rows)
    c.args.keyword _ (option_copied c.args.rest) _ _ _ c.in-End.is
    (end_step c.args.tables c.args.name c.args.columns c.args.rows c.len.result (option_copied c.args.rest) c.len.ensures) w)

pub returns-in_ok-push-in-End : goal.returns-in_ok-push-in-End
returns-in_ok-push-in-End c =
    leads_on (InRows c.args.tables c.args.name c.args.columns c.args.rows) c.args.keyword _ (option_copied c.args.rest) _ _ _ c.in-End.is
    (end_step c.args.tables c.args.name c.args.columns c.args.rows c.len.result (option_copied c.args.rest) c.len.ensures)
    c.in_ok-check_end-in-End.ensures
    ∙ ap (λ t. Ok (Open true t)) (sym c.in_ok-push-in-End.ensures.ok)
