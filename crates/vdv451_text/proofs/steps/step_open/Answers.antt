use Rattle.std.specs.Option.{option_copied}
use Rattle.vdv451_text.specs.Machine.{Open}
use Rattle.vdv451_text.proofs.PieceLemmas.{passes}
use Rattle.vdv451_text.proofs.StepLemmas.{leads_on, refuses, tbl_step, eof_step}
use Rattle.vdv451_text.proofs.steps.step_open.Goals as goal

pub returns-in_err-name-in-Tbl : goal.returns-in_err-name-in-Tbl
returns-in_err-name-in-Tbl c =
    passes _ _ _ _ c.from_residual.ensures.1 c.in_err-name-in-Tbl.ensures
    (λ w. refuses (Open c.args.begun c.args.tables) c.args.keyword _ (option_copied c.args.rest) _ _ _ c.in-Tbl.is
    (tbl_step c.args.begun c.args.tables (option_copied c.args.rest)) w)

pub returns-in_ok-name-in-Tbl : goal.returns-in_ok-name-in-Tbl
returns-in_ok-name-in-Tbl c =
    leads_on (Open c.args.begun c.args.tables) c.args.keyword _ (option_copied c.args.rest) _ _ _ c.in-Tbl.is
    (tbl_step c.args.begun c.args.tables (option_copied c.args.rest)) c.in_ok-name-in-Tbl.ensures

pub returns-in_err-check_eof-in-Eof : goal.returns-in_err-check_eof-in-Eof
returns-in_err-check_eof-in-Eof c =
    passes _ _ _ _ c.from_residual-in_err-check_eof-in-Eof.ensures.1 c.in_err-check_eof-in-Eof.ensures
    (λ w. refuses (Open c.args.begun c.args.tables) c.args.keyword _ (option_copied c.args.rest) _ _ _ c.in-Eof.is
    (eof_step c.args.begun c.args.tables c.len.result (option_copied c.args.rest) c.len.ensures) w)

pub returns-in_ok-check_eof-in-Eof : goal.returns-in_ok-check_eof-in-Eof
returns-in_ok-check_eof-in-Eof c =
    leads_on (Open c.args.begun c.args.tables) c.args.keyword _ (option_copied c.args.rest) _ _ _ c.in-Eof.is
    (eof_step c.args.begun c.args.tables c.len.result (option_copied c.args.rest) c.len.ensures) c.in_ok-check_eof-in-Eof.ensures
