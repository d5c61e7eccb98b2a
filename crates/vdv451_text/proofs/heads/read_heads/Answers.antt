use Rattle.std.proofs.Common.{inr, length}
use Rattle.std.specs.Option.{option_copied}
use Rattle.vdv451_text.proofs.CrowdLemmas.{frm_crowd}
use Rattle.vdv451_text.proofs.PieceLemmas.{passes}
use Rattle.vdv451_text.proofs.HeadLemmas.{frm_field, frm_count}
use Rattle.vdv451_text.proofs.heads.read_heads.Goals as goal

pub returns-then-not-are_formats : goal.returns-then-not-are_formats
returns-then-not-are_formats c =
    inr (frm_field (length c.args.names.now) (option_copied c.args.rest) _ _ _ _ c.in_ok-pieces.ensures.all c.as_slice.ensures
    c.at_most_one_void-kept.ensures c.if-not-are_formats.ensures)

pub returns-then-kept-names : goal.returns-then-kept-names
returns-then-kept-names c =
    inr (frm_count (length c.args.names.now) (option_copied c.args.rest) _ _ _ _ c.in_ok-pieces.ensures.all c.as_slice.ensures
    c.at_most_one_void-kept.ensures c.if-not-are_formats.ensures c.if-kept-names.true)

pub returns-in_err-pieces : goal.returns-in_err-pieces
returns-in_err-pieces c =
    passes _ _ _ _ c.from_residual.ensures.1 c.in_err-pieces.ensures.few
    (λ w. frm_crowd (length c.args.names.now) (option_copied c.args.rest) _ _ w)
