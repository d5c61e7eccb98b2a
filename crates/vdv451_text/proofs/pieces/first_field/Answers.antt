use Rattle.std.proofs.Common.{arith}
use Rattle.vdv451_text.proofs.PieceLemmas.{fields_from, fields_last}
use Rattle.vdv451_text.proofs.pieces.first_field.Goals as goal

pub returns-then-end-bytes-clause-fields : goal.returns-then-end-bytes-clause-fields
returns-then-end-bytes-clause-fields c =
    fields_from c.args.bytes.now c.field_end-end.result c.field_end-end.ensures.first c.if-end-bytes.true

pub returns-else-end-bytes-clause-fields : goal.returns-else-end-bytes-clause-fields
returns-else-end-bytes-clause-fields c = fields_last c.args.bytes.now c.field_end-end.result (omega arith) c.field_end-end.ensures.first
