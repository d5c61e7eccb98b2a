use Rattle.std.specs.Option.{option_copied}
use Rattle.vdv451_text.proofs.CrowdLemmas.{count_crowd}
use Rattle.vdv451_text.proofs.PieceLemmas.{passes}
use Rattle.vdv451_text.proofs.counts.read_count.Goals as goal

pub returns-in_err-pieces : goal.returns-in_err-pieces
returns-in_err-pieces c =
    passes _ _ _ _ c.from_residual.ensures.1 c.in_err-pieces.ensures.few (λ w. count_crowd c.args.number (option_copied c.args.rest) _ w)
