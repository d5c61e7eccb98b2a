use Rattle.std.proofs.Common.{◌++◌, codes, refl, rules}
use Rattle.number_tables.proofs.SignedLemmas.{plain_signed}
use Rattle.plan_cert.specs.declared.cert.Pass.TheVariants.{BlockNumber, BlockCost, DutyNumber, DutyCost}
use Rattle.plan_cert.specs.declared.fault.CertTable.TheVariants as which
use Rattle.plan_cert.specs.Names.{columns_of}
use Rattle.plan_cert.specs.Writing.{all_class_rows, cert_table, class_rows}
use Rattle.plan_cert.proofs.TableRows.{full-both, full-classes, ok-plain}
use Rattle.plan_cert.proofs.writing.class_table.Goals as goal

pub returns-clause-plain : goal.returns-clause-plain
returns-clause-plain c =
    let pools = c.args.classes.now.pools in
    let groups = c.args.classes.now.groups in
    let one = c.args.one.now.class_prices in
    let two = c.args.two.now.class_prices in
    let three = c.args.three.now.class_prices in
    let four = c.args.four.now.class_prices in
    let r1 = class_rows BlockNumber pools 0 one in
    let r2 = class_rows BlockCost pools 0 two in
    let r3 = class_rows DutyNumber groups 0 three in
    let r4 = class_rows DutyCost groups 0 four in
    let columns = columns_of which.ClassPrices in
    ok-plain c.number_table.result
    (cert_table which.ClassPrices (all_class_rows c.args.classes.now c.args.one.now c.args.two.now c.args.three.now c.args.four.now))
    (search rules)
    (plain_signed (codes "X_KLASSENPREIS") columns (((r1 ++ r2) ++ r3) ++ r4) refl
    (full-both columns ((r1 ++ r2) ++ r3) r4
    (full-both columns (r1 ++ r2) r3 (full-both columns r1 r2 (full-classes BlockNumber pools 0 one) (full-classes BlockCost pools 0 two))
    (full-classes DutyNumber groups 0 three)) (full-classes DutyCost groups 0 four)))
