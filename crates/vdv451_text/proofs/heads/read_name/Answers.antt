use Rattle.std.specs.Option.{option_copied}
use Rattle.vdv451_text.proofs.CrowdLemmas.{tbl_crowd}
use Rattle.vdv451_text.proofs.PieceLemmas.{passes}
use Rattle.vdv451_text.proofs.heads.read_name.Goals as goal

pub returns-in_err-pieces : goal.returns-in_err-pieces
returns-in_err-pieces c =
    passes _ _ _ _ c.from_residual.ensures.1 c.in_err-pieces.ensures.few (λ w. tbl_crowd (option_copied c.args.rest) _ _ w)
