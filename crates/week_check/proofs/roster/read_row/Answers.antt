use Rattle.std.proofs.lemmas.Result.{err_from_is_err_and}
use Rattle.week_check.specs.Roster.{RowFields, entry_of, fields_at, key_fault, key_of, value_faults}
use Rattle.week_check.proofs.RosterFaults.{refused_front}
use Rattle.week_check.proofs.roster.read_row.Goals as goal

pub returns-in_err-entry-clause-wrong : goal.returns-in_err-entry-clause-wrong
returns-in_err-entry-clause-wrong c =
    let p = err_from_is_err_and c.from_residual.result c.from_residual.ensures.1 in
    let fields : RowFields = fields_at c.args.places.now c.args.row.now in
    rw (p.1, p.2) (refused_front (value_faults c.args.number fields)
    (key_fault c.args.number c.args.keys.now.keys (key_of (entry_of fields))) _ c.in_err-entry.ensures.wrong)
