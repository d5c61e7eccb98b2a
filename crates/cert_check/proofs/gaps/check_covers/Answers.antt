use Rattle.std.proofs.Common.{◌≤◌, All, List, length, sym, subst}
use Rattle.plan_core.specs.declared.types.Piece.{Piece}
use Rattle.block_cut.specs.Cuts.{IsShift}
use Rattle.plan_cert.specs.declared.cert.CertPart.{CertPart}
use Rattle.plan_cert.specs.Laws.{AreParts}
use Rattle.plan_cert.specs.Shapes.{shape_of}
use Rattle.cert_check.specs.Parts.{listed}
use Rattle.cert_check.specs.Reasons.{printed_pieces}
use Rattle.cert_check.specs.Steps.{HaveFewMarks}
use Rattle.cert_check.proofs.PartGaps.{cert-few, cut-shifts}
use Rattle.cert_check.proofs.gaps.check_covers.Goals as goal

pub gap_in-requires-clause-few_pieces : goal.gap_in-requires-clause-few_pieces
gap_in-requires-clause-few_pieces c = subst (λ (l : List Piece). length l ≤ 3000) (sym c.requires.pieces)
    c.requires.charged.has_cert.has_tables.fits.few

pub gap_in-requires-clause-shifts : goal.gap_in-requires-clause-shifts
gap_in-requires-clause-shifts c =
    let pieces = printed_pieces c.args.case.now c.args.blocks.now in
    subst (λ (l : List Piece). All IsShift l) (sym c.requires.pieces) (cut-shifts pieces c.requires.charged.has_cert.has_tables.fits.shifts)

pub gap_in-requires-clause-parts : goal.gap_in-requires-clause-parts
gap_in-requires-clause-parts c =
    let k = c.args.case.now in
    subst (λ (l : List Piece). AreParts (shape_of k.day (length l)) (listed c.four_parts.result)) (sym c.requires.pieces)
    (subst (λ (parts : List CertPart). AreParts (shape_of k.day (length (printed_pieces k c.args.blocks.now))) parts) c.four_parts.ensures
    c.requires.charged.has_cert.parts)

pub gap_in-requires-clause-few : goal.gap_in-requires-clause-few
gap_in-requires-clause-few c =
    let k = c.args.case.now in
    subst HaveFewMarks c.four_parts.ensures (cert-few k (length (printed_pieces k c.args.blocks.now)) c.args.cert.now
    c.requires.case.cert_rows c.requires.charged.has_cert.said)
