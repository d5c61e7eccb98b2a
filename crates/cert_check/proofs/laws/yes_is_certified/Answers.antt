use Rattle.cert_check.proofs.Accepted.{yes-certified}
use Rattle.cert_check.proofs.laws.yes_is_certified.Goals as goal

pub returns : goal.returns
returns c = λ k. yes-certified
    (record {
      blocks_paid = c.block_cover_is_paid.ensures;
      duties_paid = c.duty_cover_is_paid.ensures;
      blocks_counted = c.counted_blocks.ensures;
      duties_counted = c.counted_duties.ensures;
      blocks_shown = c.plan_is_shown.ensures;
      duties_shown = c.plan_is_shown-2.ensures;
    })
    k
