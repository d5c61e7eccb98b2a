use Rattle.std.proofs.Common.{inr}
use Rattle.vdv451_text.proofs.FewLemmas.{checked_broken, checked_right, checked_wrong}
use Rattle.vdv451_text.proofs.PieceLemmas.{passes}
use Rattle.vdv451_text.proofs.few.check_field.Goals as goal

pub returns-in_err-piece : goal.returns-in_err-piece
returns-in_err-piece c =
    passes _ _ _ _ c.from_residual.ensures.1 c.in_err-piece.ensures (λ w. checked_broken c.args.kind c.args.is_last _ _ w)

pub returns-then-fits : goal.returns-then-fits
returns-then-fits c = checked_right c.args.kind c.args.is_last _ _ c.in_ok-piece.ensures c.if-fits.ensures

pub returns : goal.returns
returns c = inr (checked_wrong c.args.kind c.args.is_last _ _ c.in_ok-piece.ensures c.if-fits.ensures)
