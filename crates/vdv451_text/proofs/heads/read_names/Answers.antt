use Rattle.std.proofs.Common.{inr}
use Rattle.std.specs.Option.{option_copied}
use Rattle.vdv451_text.proofs.CrowdLemmas.{atr_crowd}
use Rattle.vdv451_text.proofs.PieceLemmas.{passes}
use Rattle.vdv451_text.proofs.HeadLemmas.{atr_field, atr_count, atr_names}
use Rattle.vdv451_text.proofs.heads.read_names.Goals as goal

pub returns-then-not-are_names : goal.returns-then-not-are_names
returns-then-not-are_names c =
    inr (atr_field (option_copied c.args.rest) _ _ _ _ c.in_ok-pieces.ensures.all c.as_slice.ensures c.without_void-kept.ensures
    c.if-not-are_names.ensures)

pub returns-then-not-is_column_number : goal.returns-then-not-is_column_number
returns-then-not-is_column_number c =
    inr (atr_count (option_copied c.args.rest) _ _ _ _ c.in_ok-pieces.ensures.all c.as_slice.ensures c.without_void-kept.ensures
    c.if-not-are_names.ensures c.if-not-is_column_number.ensures)

pub returns : goal.returns
returns c = atr_names (option_copied c.args.rest) _ _ _ _ c.in_ok-pieces.ensures.all c.as_slice.ensures c.without_void-kept.ensures
    c.if-not-are_names.ensures c.if-not-is_column_number.ensures c.all_in_capitals.ensures

pub returns-in_err-pieces : goal.returns-in_err-pieces
returns-in_err-pieces c =
    passes _ _ _ _ c.from_residual.ensures.1 c.in_err-pieces.ensures.few (λ w. atr_crowd (option_copied c.args.rest) _ _ w)
