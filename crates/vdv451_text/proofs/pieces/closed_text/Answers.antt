use Rattle.std.proofs.Common.{◌∙◌, ap}
use Rattle.vdv451_text.proofs.PieceLemmas.{text_goes_on, text_may_close}
use Rattle.vdv451_text.proofs.pieces.closed_text.Goals.{then-is_quote-is_behind_quote+in_ok-push, else-is_quote-is_behind_quote+then-is_quote}
use Rattle.vdv451_text.proofs.pieces.closed_text.Goals as goal

pub loop-byte-preserved : goal.loop-byte-preserved
loop-byte-preserved c =
    elim c.if-is_quote-is_behind_quote.branch [
      | then-is_quote-is_behind_quote+in_ok-push w ↦
          text_goes_on _ c.loop-byte.text.items _ c.loop-byte.is_behind_quote _ c.args.bytes.now c.loop-byte.byte-index
          c.loop-byte-test.true c.loop-byte.invariant w.if-is_quote-is_behind_quote.true
          (ap (λ t. t.items) w.text-is ∙ w.in_ok-push.ensures.items) w.is_behind_quote-is
      | else-is_quote-is_behind_quote+then-is_quote w ↦
          text_may_close _ c.loop-byte.text.items _ c.loop-byte.is_behind_quote _ c.args.bytes.now c.loop-byte.byte-index
          c.loop-byte-test.true c.loop-byte.invariant w.if-is_quote-is_behind_quote.false w.if-is_quote.true
          (ap (λ t. t.items) w.text-is) w.is_behind_quote-is
    ]
