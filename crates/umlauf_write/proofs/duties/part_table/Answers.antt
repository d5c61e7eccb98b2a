use Rattle.std.proofs.Common.{codes, refl, rules}
use Rattle.number_tables.proofs.SignedLemmas.{plain_signed}
use Rattle.umlauf_write.specs.Answers.{all_rows, part_columns, part_row, part_rows, part_table}
use Rattle.umlauf_write.proofs.Plain.{ok_plain}
use Rattle.umlauf_write.proofs.Rows.{all_full, signed_full}
use Rattle.umlauf_write.proofs.duties.part_table.Goals as goal

pub returns-clause-plain : goal.returns-clause-plain
returns-clause-plain c =
    let pieces = c.args.pieces.now in
    let duties = c.args.duties.now in
    ok_plain c.number_table.result (part_table pieces duties) (search rules)
    (plain_signed (codes "X_DIENST_STUECK") part_columns (all_rows (part_rows pieces) 1 duties) refl
    (all_full part_columns (part_rows pieces) (λ n duty. signed_full part_columns (part_row pieces n) (λ k item. refl) 1 duty.items)
    1 duties))
