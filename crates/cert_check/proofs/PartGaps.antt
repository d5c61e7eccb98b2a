-- What the searches for gaps ask of a part of a certificate: moderate prices, marks that are there, and fewer of them than 2^32.
use Rattle.std.proofs.Common.{◌≡◌, ℕ, ◌<◌, ◌^◌, Bool, List, [], ◌∷◌, All, length, subst}
use Rattle.std.proofs.lemmas.List.Elements.{All-head, All-tail, All-weaker}
use Rattle.std.proofs.lemmas.Option.{get_or_from_slice_get, slice_get_within}
use Rattle.std.specs.Prelude.{Some, Ok, slice_get}
use Rattle.plan_core.specs.declared.Price.{Price}
use Rattle.plan_core.specs.declared.types.Piece.{Piece}
use Rattle.vdv451_text.specs.declared.table.Table.{Table}
use Rattle.cover_core.specs.declared.marks.BlockMark.{BlockMark}
use Rattle.cover_core.specs.FirstLeast.{AllWithin}
use Rattle.mark_cover.specs.Searches.{AreThere}
use Rattle.day_model.specs.Facts.{DayFacts}
use Rattle.block_cut.specs.Cuts.{IsShift}
use Rattle.depot_network.specs.BlockMarks.{block_marking}
use Rattle.duty_network.specs.Ranges.{IsShift as IsDutyShift}
use Rattle.plan_cert.specs.declared.cert.Cert.{Cert}
use Rattle.plan_cert.specs.declared.cert.CertPart.{CertPart}
use Rattle.plan_cert.specs.Laws.{HaveMarksBelow, IsBlockMarkOf, IsModerate}
use Rattle.plan_cert.specs.Shapes.{shape_of}
use Rattle.plan_cert.proofs.MarkCounts.{few-marks}
use Rattle.cert_check.specs.Judging.{Case, cert_in}
use Rattle.cert_check.specs.Steps.{HaveFewMarks}

-- prices from -3 * 10^15 to 3 * 10^15
pub moderate-within : (prices : List Price) → All IsModerate prices → AllWithin 3000000000000000 prices
moderate-within [] all = tt
moderate-within (p ∷ ps) all =
    let here : IsModerate p = All-head IsModerate p ps all in
    (here.0, here.1, moderate-within ps (All-tail IsModerate p ps all))

-- what holds of each holds of the one at a place
all-at : {A : Type 0} (P : A → Type 0) (xs : List A) (k : ℕ) (a : A) → All P xs → slice_get xs k ≡ Some a → P a
all-at P xs k a all at = subst P (get_or_from_slice_get xs k a a at) (all k a (slice_get_within xs k a at))

-- The marks of a part are there: their classes and items are those of the day.
pub block-marks-there : (day : DayFacts) (counts : Bool) (prices : List Price) (marks : List BlockMark) →
    All (IsBlockMarkOf (length day.trips) (length day.params.pools)) marks →
    AreThere (block_marking day counts prices) marks
block-marks-there day counts prices marks all k a at =
    let is : IsBlockMarkOf (length day.trips) (length day.params.pools) a =
    all-at (IsBlockMarkOf (length day.trips) (length day.params.pools)) marks k a all at in
    (is.class, is.item)

-- few marks
marks-few : (parts : List CertPart) → HaveMarksBelow (2 ^ 32) parts → HaveFewMarks parts
marks-few [] few = tt
marks-few (part ∷ parts) (blocks, cover, rest) = (blocks, cover, marks-few parts rest)

-- A certificate that is read has fewer marks than 2^32, as its tables have fewer rows: each mark is that of a row of its own. It is the
-- lemma of the crate that reads certificates, for what was read earlier and is known by what its tables say alone.
pub cert-few : (c : Case) (pieces : ℕ) (cert : Cert) → All (λ (table : Table). length table.rows < 2 ^ 32) c.cert →
    cert_in c pieces ≡ Ok cert → HaveFewMarks cert.parts
cert-few c pieces cert rows said = marks-few cert.parts (few-marks (shape_of c.day pieces) (2 ^ 32) c.cert (Ok cert) rows said)

-- pieces begin, end and drive as shifts do, by either name
pub cut-shifts : (pieces : List Piece) → All IsDutyShift pieces → All IsShift pieces
cut-shifts pieces shifts = All-weaker IsDutyShift IsShift (λ p h. record
    { begins = h.begins; order = h.order; ends = h.ends; driving = h.driving }) pieces shifts
