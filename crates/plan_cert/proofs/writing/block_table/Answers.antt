use Rattle.std.proofs.Common.{◌++◌, codes, refl, rules}
use Rattle.std.specs.Prelude.{slice_index}
use Rattle.number_tables.proofs.SignedLemmas.{plain_signed}
use Rattle.cover_core.specs.declared.marks.BlockMark.{BlockMark}
use Rattle.plan_cert.specs.declared.cert.Pass.TheVariants.{BlockNumber, BlockCost}
use Rattle.plan_cert.specs.declared.fault.CertTable.TheVariants as which
use Rattle.plan_cert.specs.Names.{columns_of}
use Rattle.plan_cert.specs.Writing.{all_block_rows, block_row, block_rows, cert_table}
use Rattle.plan_cert.proofs.TableRows.{full-both, full-map, ok-plain}
use Rattle.plan_cert.proofs.writing.block_table.Goals as goal

pub returns-clause-plain : goal.returns-clause-plain
returns-clause-plain c =
    let pools = c.args.classes.now.pools in
    let one = c.args.one.now.blocks.marks in
    let two = c.args.two.now.blocks.marks in
    let columns = columns_of which.BlockMarks in
    let r1 = block_rows BlockNumber pools one in
    let r2 = block_rows BlockCost pools two in
    ok-plain c.number_table.result (cert_table which.BlockMarks (all_block_rows c.args.classes.now c.args.one.now c.args.two.now))
    (search rules)
    (plain_signed (codes "X_UMARKE") columns (r1 ++ r2) refl
    (full-both columns r1 r2 (full-map columns (λ (m : BlockMark). block_row BlockNumber (slice_index pools m.class) m) one (λ m. refl))
    (full-map columns (λ (m : BlockMark). block_row BlockCost (slice_index pools m.class) m) two (λ m. refl))))
