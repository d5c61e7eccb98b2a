use Rattle.std.proofs.Common.{codes, refl, rules}
use Rattle.number_tables.proofs.SignedLemmas.{plain_signed}
use Rattle.umlauf_write.specs.Answers.{duty_columns, duty_row, duty_table}
use Rattle.umlauf_write.specs.Tables.{numbered}
use Rattle.umlauf_write.proofs.Plain.{ok_plain}
use Rattle.umlauf_write.proofs.Rows.{signed_full}
use Rattle.umlauf_write.proofs.duties.duty_table.Goals as goal

pub returns-clause-plain : goal.returns-clause-plain
returns-clause-plain c =
    let day = c.args.day.now in
    let pieces = c.args.pieces.now in
    let duties = c.args.duties.now in
    ok_plain c.number_table.result (duty_table day pieces duties) (search rules)
    (plain_signed (codes "X_DIENST") duty_columns (numbered (duty_row day pieces) 1 duties) refl
    (signed_full duty_columns (duty_row day pieces) (λ n duty. refl) 1 duties))
