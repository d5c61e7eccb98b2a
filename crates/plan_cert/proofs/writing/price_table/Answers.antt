use Rattle.std.proofs.Common.{◌++◌, codes, refl, rules}
use Rattle.number_tables.proofs.SignedLemmas.{plain_signed}
use Rattle.plan_cert.specs.declared.cert.Pass.TheVariants.{BlockNumber, BlockCost, DutyNumber, DutyCost}
use Rattle.plan_cert.specs.declared.fault.CertTable.TheVariants as which
use Rattle.plan_cert.specs.Names.{columns_of}
use Rattle.plan_cert.specs.Writing.{all_price_rows, cert_table, price_rows}
use Rattle.plan_cert.proofs.TableRows.{full-both, full-prices, ok-plain}
use Rattle.plan_cert.proofs.writing.price_table.Goals as goal

pub returns-clause-plain : goal.returns-clause-plain
returns-clause-plain c =
    let one = c.args.one.now.prices.items in
    let two = c.args.two.now.prices.items in
    let three = c.args.three.now.prices.items in
    let four = c.args.four.now.prices.items in
    let r1 = price_rows BlockNumber 0 one in
    let r2 = price_rows BlockCost 0 two in
    let r3 = price_rows DutyNumber 0 three in
    let r4 = price_rows DutyCost 0 four in
    let columns = columns_of which.Prices in
    ok-plain c.number_table.result (cert_table which.Prices (all_price_rows c.args.one.now c.args.two.now c.args.three.now c.args.four.now))
    (search rules)
    (plain_signed (codes "X_PREIS") columns (((r1 ++ r2) ++ r3) ++ r4) refl
    (full-both columns ((r1 ++ r2) ++ r3) r4
    (full-both columns (r1 ++ r2) r3 (full-both columns r1 r2 (full-prices BlockNumber 0 one) (full-prices BlockCost 0 two))
    (full-prices DutyNumber 0 three)) (full-prices DutyCost 0 four)))
