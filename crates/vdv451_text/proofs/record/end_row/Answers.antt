use Rattle.std.specs.Option.{option_copied}
use Rattle.vdv451_text.specs.Lines.{fields_of}
use Rattle.vdv451_text.proofs.CrowdLemmas.{row_crowd}
use Rattle.vdv451_text.proofs.PieceLemmas.{passes}
use Rattle.vdv451_text.proofs.record.end_row.Goals as goal

pub returns-in_err-further : goal.returns-in_err-further
returns-in_err-further c =
    passes _ _ _ _ c.from_residual.ensures.1 c.in_err-further.ensures.few (λ w. row_crowd (fields_of (option_copied c.args.rest)) _ w)
