-- Promise: the first reason against a plan and its certificate, or a yes.
use Rattle.std.specs.Prelude.{codes, zero, suc, ◌≡◌, ℕ, ℤ, pos, ◌+◌, ◌<◌, ◌≤◌, ◌≤ℤ◌, ◌<ℤ◌, ◌⊎◌, nat_eq, nat_lt, Bool, true, false, List, [], ◌∷◌, length, Option, Some, None, Result, Ok, Err, min, slice_get, slice_index, if◌then◌else◌}
use Rattle.plan_core.specs.declared.types.Piece.{Piece}
use Rattle.cover_core.specs.declared.Column.{Column}
use Rattle.cover_core.specs.declared.Plan.{Plan}
use Rattle.cover_core.specs.declared.marks.Gap.{Gap}
use Rattle.cover_core.specs.Cover.{Problem}
use Rattle.cover_core.specs.Plans.{IsPlan, bound_of, cost, number_at}
use Rattle.umlauf_write.specs.declared.text.PlanText.{PlanText}
use Rattle.umlauf_write.specs.declared.text.PlanFault.TheVariants as faults
use Rattle.umlauf_write.specs.Printed.{printed}
use Rattle.plan_cert.specs.declared.cert.Cert.{Cert}
use Rattle.plan_cert.specs.declared.cert.CertPart.{CertPart}
use Rattle.plan_cert.specs.Laws.{AreParts}
use Rattle.plan_cert.specs.Shapes.{shape_of}
use Rattle.plan_check.specs.declared.verdict.PlanVerdict.TheVariants as verdicts
use Rattle.plan_check.specs.Verdicts.{IsVerdict}
use Rattle.cert_check.specs.declared.reason.Answered.{Answered}
use Rattle.cert_check.specs.declared.reason.Answered.TheVariants.{Yes, No}
use Rattle.cert_check.specs.declared.reason.Reason.{Reason}
use Rattle.cert_check.specs.declared.reason.Reason.TheVariants as reasons
use Rattle.duty_network.specs.Ranges.{NetFits}
use Rattle.table_differences.specs.declared.difference.Difference.{Difference}
use Rattle.table_differences.specs.Differences.{first_difference}
use Rattle.vdv451_text.specs.declared.table.Table.{Table}
use Rattle.cert_check.specs.Judging.{Case, IsBlockGap, IsDutyGap, blocks_in, cert_in, duties_in, duties_over, duty_lists, fids_in, groups_in, made_in, pieces_in, pools_in, printed_duties, text_in}

-- the tables say a plan, and its blocks are one
pub record HasBlocks (c : Case) (text : PlanText) (blocks : Plan) : Type 0 where
  pub said : (text_in c) ≡ Ok text
  pub lawful : IsVerdict (blocks_in c false) text.blocks.columns (verdicts.Lawful blocks)

-- and so are its duties over the pieces of these blocks
pub record HasDuties (c : Case) (text : PlanText) (blocks duties : Plan) : Type 0 where
  pub has_blocks : HasBlocks c text blocks
  pub lawful : IsVerdict (duties_in c (pieces_in c blocks.columns) false) (duty_lists c blocks.columns text) (verdicts.Lawful duties)

-- the pieces of the blocks in printed order
abbrev pub printed_pieces : Case → Plan → List Piece
printed_pieces c blocks = pieces_in c (printed blocks.columns)

-- the duties in printed order, over these pieces
abbrev pub duties_again : Case → Plan → Plan → List Column
duties_again c blocks duties = printed_duties c blocks.columns duties.columns

-- the tables that blocks and duties in printed order make
abbrev pub tables_in : Case → PlanText → Plan → Plan → List Table
tables_in c text blocks duties = made_in c (printed blocks.columns) (duties_again c blocks duties) text.bounds

-- where the plan's tables first differ from these, the bounds in X_SCHRANKE aside
abbrev pub difference_in : Case → PlanText → Plan → Plan → Option Difference
difference_in c text blocks duties = first_difference (codes "X_SCHRANKE") (codes "SCHRANKE") c.plan (tables_in c text blocks duties)

-- the duties in printed order are a plan over the pieces of the blocks in printed order
abbrev pub ArePlanAgain : Case → Plan → Plan → Type 0
ArePlanAgain c blocks duties = IsPlan (duties_in c (printed_pieces c blocks) false) (duties_again c blocks duties)

-- and the tables are those of the blocks and duties in printed order
pub record HasTables (c : Case) (text : PlanText) (blocks duties : Plan) : Type 0 where
  pub has_duties : HasDuties c text blocks duties
  pub same : difference_in c text blocks duties ≡ None
  pub again : ArePlanAgain c blocks duties
  -- the pieces of the blocks in printed order have their ranges, as all pieces of blocks of a day have
  pub fits : NetFits (duties_over c (printed_pieces c blocks) false)

-- and the certificate's tables say one
pub record HasCert (c : Case) (text : PlanText) (blocks duties : Plan) (cert : Cert) : Type 0 where
  pub has_tables : HasTables c text blocks duties
  pub said : cert_in c (length (printed_pieces c blocks)) ≡ Ok cert
  -- so it has a price for each item and class of the four passes
  pub parts : AreParts (shape_of c.day (length (printed_pieces c blocks))) cert.parts

-- the class prices of a part are at least 0, those of the first classes below a bound
abbrev pub AreCharged : CertPart → ℕ → Type 0
AreCharged part bound = (class : ℕ) → class < bound → pos 0 ≤ℤ number_at part.class_prices class

-- the class prices of all parts are at least 0
abbrev pub AllCharged : List CertPart → Type 0
AllCharged [] = Unit {0}
AllCharged (part ∷ parts) = AreCharged part (length part.class_prices) × AllCharged parts

-- a class price of a part is below 0, the first by class
pub record IsNegative (part : CertPart) (class : ℕ) : Type 0 where
  pub there : class < length part.class_prices
  pub below : number_at part.class_prices class <ℤ pos 0
  pub first : AreCharged part class

-- the first class price below 0, by pass and class; the passes of parts are counted on from this one
abbrev pub IsFirstNegative : ℕ → List CertPart → ℕ → ℕ → Type 0
IsFirstNegative from [] pass class = ⊥
IsFirstNegative from (part ∷ parts) pass class =
    (AreCharged part (length part.class_prices) × IsFirstNegative (suc from) parts pass class) ⊎ ((pass ≡ from) × IsNegative part class)

pub record IsCharged (c : Case) (text : PlanText) (blocks duties : Plan) (cert : Cert) : Type 0 where
  pub has_cert : HasCert c text blocks duties cert
  pub charged : AllCharged cert.parts

-- the first gap of the cover of a pass, counted from 0, or that there is none
abbrev pub IsGapOf : Case → Plan → ℕ → CertPart → Option Gap → Type 0
IsGapOf c blocks zero part gap = IsBlockGap c true part gap
IsGapOf c blocks (suc zero) part gap = IsBlockGap c false part gap
IsGapOf c blocks (suc (suc zero)) part gap = IsDutyGap c (printed_pieces c blocks) true part gap
IsGapOf c blocks (suc (suc (suc pass))) part gap = IsDutyGap c (printed_pieces c blocks) false part gap

abbrev pub NoGaps : Case → Plan → ℕ → List CertPart → Type 0
NoGaps c blocks pass [] = Unit {0}
NoGaps c blocks pass (part ∷ parts) = IsGapOf c blocks pass part None × NoGaps c blocks (suc pass) parts

abbrev pub IsFirstUncovered : Case → Plan → ℕ → List CertPart → ℕ → Gap → Type 0
IsFirstUncovered c blocks from [] pass gap = ⊥
IsFirstUncovered c blocks from (part ∷ parts) pass gap =
    (IsGapOf c blocks from part None × IsFirstUncovered c blocks (suc from) parts pass gap) ⊎
    ((pass ≡ suc from) × IsGapOf c blocks from part (Some gap))

pub record IsCovered (c : Case) (text : PlanText) (blocks duties : Plan) (cert : Cert) : Type 0 where
  pub is_charged : IsCharged c text blocks duties cert
  pub covered : NoGaps c blocks zero cert.parts

-- the caps of a pass
abbrev pub caps_of : Case → Plan → ℕ → List ℕ
caps_of c blocks pass = if nat_lt pass 2 then (blocks_in c false).caps else (duties_in c (printed_pieces c blocks) false).caps

-- the bound that a part shows
abbrev pub shown_by : Case → Plan → ℕ → CertPart → ℕ
shown_by c blocks pass part = bound_of part.prices.items part.class_prices (caps_of c blocks pass)

abbrev pub AreShown : Case → Plan → List ℕ → ℕ → List CertPart → Type 0
AreShown c blocks bounds pass [] = Unit {0}
AreShown c blocks bounds pass (part ∷ parts) =
    (slice_index bounds pass ≤ shown_by c blocks pass part) × AreShown c blocks bounds (suc pass) parts

-- a printed bound is higher than the one that a part shows
pub record IsTooHigh (print show bound shown : ℕ) : Type 0 where
  pub print_is : print ≡ bound
  pub show_is : show ≡ shown
  pub higher : show < print

abbrev pub IsFirstTooHigh : Case → Plan → List ℕ → ℕ → List CertPart → ℕ → ℕ → ℕ → Type 0
IsFirstTooHigh c blocks bounds from [] pass print show = ⊥
IsFirstTooHigh c blocks bounds from (part ∷ parts) pass print show =
    ((slice_index bounds from ≤ shown_by c blocks from part) × IsFirstTooHigh c blocks bounds (suc from) parts pass print show) ⊎
    ((pass ≡ suc from) × IsTooHigh print show (slice_index bounds from) (shown_by c blocks from part))

pub record IsAccepted (c : Case) (text : PlanText) (blocks duties : Plan) (cert : Cert) : Type 0 where
  pub is_covered : IsCovered c text blocks duties cert
  pub shown : AreShown c blocks text.bounds zero cert.parts

-- a place is that of a difference; rows past the greatest number of 32 bits count as that one
abbrev pub IsPlaceOf : List Table → Difference → List ℕ → ℕ → Type 0
IsPlaceOf made d table row = (t : Table) × (slice_get made d.table ≡ Some t) × (table ≡ t.name) × (row ≡ min d.row 4294967295)

-- The first place where the plan's tables are not those of its blocks and duties in printed order. Were there none, and the duties in
-- printed order yet no plan over the pieces of the blocks in printed order, X_DIENST as a whole would not be theirs.
abbrev pub IsTableReason : Case → PlanText → Plan → Plan → List ℕ → ℕ → Type 0
IsTableReason c text blocks duties table row =
    ((d : Difference) × (difference_in c text blocks duties ≡ Some d) × IsPlaceOf (tables_in c text blocks duties) d table row) ⊎
    ((difference_in c text blocks duties ≡ None) × (ArePlanAgain c blocks duties → ⊥) × (table ≡ codes "X_DIENST") × (row ≡ 0))

-- What the checker answers: the first reason, or a yes with the plan's numbers.
abbrev pub IsReason : Case → Reason → Type 0
IsReason c (reasons.PlanForm table row) = (text_in c) ≡ Err (faults.Form table row)
IsReason c (reasons.TripTimes fid times) =
    (text : PlanText) × (text_in c ≡ Ok text) × (item : ℕ) × (slice_get (fids_in c) item ≡ Some fid)
    × IsVerdict (blocks_in c false) text.blocks.columns (verdicts.Times item times)
IsReason c (reasons.BlockUnlawful block) =
    (text : PlanText) × (text_in c ≡ Ok text) × (spot : ℕ) × (block ≡ spot + 1)
    × IsVerdict (blocks_in c false) text.blocks.columns (verdicts.Unlawful spot)
IsReason c (reasons.PoolOver pool used cap) =
    (text : PlanText) × (text_in c ≡ Ok text) × (class : ℕ) × (slice_get (pools_in c) class ≡ Some pool)
    × (cap ≡ slice_index (blocks_in c false).caps class) ×
    IsVerdict (blocks_in c false) text.blocks.columns (verdicts.Over class used)
IsReason c (reasons.PieceTimes block index times) =
    (text : PlanText) × (blocks : Plan) × HasBlocks c text blocks × (item : ℕ) × (piece : Piece)
    × (slice_get (pieces_in c blocks.columns) item ≡ Some piece) × (piece.block ≡ block) ×
    (piece.index ≡ index) × IsVerdict (duties_in c (pieces_in c blocks.columns) false) (duty_lists c blocks.columns text)
    (verdicts.Times item times)
IsReason c (reasons.DutyUnlawful duty) =
    (text : PlanText) × (blocks : Plan) × HasBlocks c text blocks × (spot : ℕ) × (duty ≡ spot + 1) ×
    IsVerdict (duties_in c (pieces_in c blocks.columns) false) (duty_lists c blocks.columns text) (verdicts.Unlawful spot)
IsReason c (reasons.GroupOver group used cap) =
    (text : PlanText) × (blocks : Plan) × HasBlocks c text blocks × (class : ℕ) × (slice_get (groups_in c) class ≡ Some group) ×
    (cap ≡ slice_index (duties_in c (pieces_in c blocks.columns) false).caps class) ×
    IsVerdict (duties_in c (pieces_in c blocks.columns) false) (duty_lists c blocks.columns text) (verdicts.Over class used)
IsReason c (reasons.PlanDiffers table row) =
    (text : PlanText) × (blocks : Plan) × (duties : Plan) × HasDuties c text blocks duties × IsTableReason c text blocks duties table row
IsReason c (reasons.CertForm at) =
    (text : PlanText) × (blocks : Plan) × (duties : Plan) × HasTables c text blocks duties
    × (cert_in c (length (printed_pieces c blocks)) ≡ Err at)
IsReason c (reasons.NegativeClassPrice pass class) =
    (text : PlanText) × (blocks : Plan) × (duties : Plan) × (cert : Cert) × HasCert c text blocks duties cert
    × IsFirstNegative 1 cert.parts pass class
IsReason c (reasons.Uncovered pass gap) =
    (text : PlanText) × (blocks : Plan) × (duties : Plan) × (cert : Cert) × IsCharged c text blocks duties cert ×
    IsFirstUncovered c blocks zero cert.parts pass gap
IsReason c (reasons.BoundTooHigh pass print show) =
    (text : PlanText) × (blocks : Plan) × (duties : Plan) × (cert : Cert) × IsCovered c text blocks duties cert ×
    IsFirstTooHigh c blocks text.bounds zero cert.parts pass print show

abbrev pub IsAnswer : Case → Answered → Type 0
IsAnswer c (Yes vehicles block_cost duty_count duty_cost) =
    (text : PlanText) × (blocks : Plan) × (duties : Plan) × (cert : Cert) × IsAccepted c text blocks duties cert
    × (vehicles ≡ length blocks.columns) ×
    (block_cost ≡ cost blocks.columns) × (duty_count ≡ length duties.columns) × (duty_cost ≡ cost duties.columns)
IsAnswer c (No reason) = IsReason c reason
