use Rattle.std.proofs.Common.{◌++◌, codes, refl, rules}
use Rattle.std.specs.Prelude.{slice_index}
use Rattle.number_tables.proofs.SignedLemmas.{plain_signed}
use Rattle.cover_core.specs.declared.marks.Mark.{Mark}
use Rattle.plan_cert.specs.declared.cert.Pass.TheVariants.{DutyNumber, DutyCost}
use Rattle.plan_cert.specs.declared.fault.CertTable.TheVariants as which
use Rattle.plan_cert.specs.Names.{columns_of}
use Rattle.plan_cert.specs.Writing.{all_duty_rows, cert_table, duty_row, duty_rows}
use Rattle.plan_cert.proofs.TableRows.{full-both, full-map, ok-plain}
use Rattle.plan_cert.proofs.writing.duty_table.Goals as goal

pub returns-clause-plain : goal.returns-clause-plain
returns-clause-plain c =
    let groups = c.args.classes.now.groups in
    let three = c.args.three.now.cover.marks in
    let four = c.args.four.now.cover.marks in
    let columns = columns_of which.DutyMarks in
    let r3 = duty_rows DutyNumber groups three in
    let r4 = duty_rows DutyCost groups four in
    ok-plain c.number_table.result (cert_table which.DutyMarks (all_duty_rows c.args.classes.now c.args.three.now c.args.four.now))
    (search rules)
    (plain_signed (codes "X_MARKE") columns (r3 ++ r4) refl
    (full-both columns r3 r4 (full-map columns (λ (m : Mark). duty_row DutyNumber (slice_index groups m.class) m) three (λ m. refl))
    (full-map columns (λ (m : Mark). duty_row DutyCost (slice_index groups m.class) m) four (λ m. refl))))
