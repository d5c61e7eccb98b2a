use Rattle.std.proofs.Common.{sym, ◌∙◌, ◌++◌, ap, arith}
use Rattle.std.proofs.lemmas.Grind.{common_steps}
use Rattle.std.specs.Option.{option_copied, option_map}
use Rattle.vdv451_text.specs.FieldView.{field_or_fault}
use Rattle.vdv451_text.specs.Lines.{fields_of, piece_of}
use Rattle.vdv451_text.proofs.PieceLemmas.{passes, one_more_piece}
use Rattle.vdv451_text.proofs.FewLemmas.{few_broken, too_many_answer}
use Rattle.vdv451_text.proofs.few.few_pieces.Goals as goal

pub returns-in_err-make_piece-clause-few : goal.returns-in_err-make_piece-clause-few
returns-in_err-make_piece-clause-few c =
    passes _ _ _ _ c.from_residual.ensures.1 c.in_err-make_piece.ensures
    (λ w. few_broken c.args.kind c.args.most _ _ _ _ _ c.loop-rest.pieces.items _ c.loop-rest.invariant.whole
    (ap option_copied c.in-Some.is) c.first_field.ensures.fields (ap (λ t. field_or_fault (piece_of t)) (sym c.trimmed.ensures) ∙ w))

pub loop-rest-preserved : goal.loop-rest-preserved
loop-rest-preserved c = record {
  whole = one_more_piece _ _ _ _ _ c.loop-rest.pieces.items _ c.loop-rest.invariant.whole (ap option_copied c.in-Some.is)
      c.first_field.ensures.fields (ap (λ t. field_or_fault (piece_of t)) (sym c.trimmed.ensures) ∙ c.in_ok-make_piece.ensures)
      ∙ ap (λ t. option_map (λ more. t ++ more) (fields_of (option_copied c.first_field.result.1))) (sym c.in_ok-push.ensures.items);
  few = grind (arith, common_steps);
}

pub returns-then-len-most-clause-few : goal.returns-then-len-most-clause-few
returns-then-len-most-clause-few c =
    too_many_answer c.args.kind c.args.most _ c.loop-rest.pieces.items _ (option_copied c.loop-rest.rest)
    c.in-Some.bytes.now _ c.loop-rest.invariant.whole (ap option_copied c.in-Some.is) (omega arith) c.deref.ensures.value
    c.crowd_fault_behind.ensures
