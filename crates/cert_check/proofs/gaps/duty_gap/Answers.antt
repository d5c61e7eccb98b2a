use Rattle.cert_check.proofs.PartGaps.{moderate-within}
use Rattle.cert_check.proofs.gaps.duty_gap.Goals as goal

pub first_gap-requires-clause-moderate : goal.first_gap-requires-clause-moderate
first_gap-requires-clause-moderate c = moderate-within c.args.part.now.prices.items c.requires.part.part_is.moderate
