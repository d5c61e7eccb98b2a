-- An answer, step by step: what is said once the text, the blocks, the duties, the tables, the certificate, its class prices and its covers
-- are passed. Each step either ends with its reason or passes and leaves the rest to the next one.
use Rattle.std.proofs.Common.{◌≡◌, ℕ, ◌+◌, ◌⊎◌, inl, inr, false, List, length, zero, refl}
use Rattle.std.specs.Prelude.{None, Some, Ok, Err, slice_get, slice_index}
use Rattle.plan_core.specs.declared.types.Piece.{Piece}
use Rattle.cover_core.specs.declared.Plan.{Plan}
use Rattle.cover_core.specs.declared.marks.Gap.{Gap}
use Rattle.cover_core.specs.Plans.{cost}
use Rattle.umlauf_write.specs.declared.text.PlanText.{PlanText}
use Rattle.umlauf_write.specs.declared.text.PlanFault.TheVariants as faults
use Rattle.plan_cert.specs.declared.cert.Cert.{Cert}
use Rattle.plan_cert.specs.declared.fault.Place.{Place as CertPlace}
use Rattle.plan_check.specs.declared.verdict.PlanVerdict.{PlanVerdict}
use Rattle.plan_check.specs.declared.verdict.PlanVerdict.TheVariants as verdicts
use Rattle.plan_check.specs.Verdicts.{IsVerdict}
use Rattle.cert_check.specs.declared.reason.Answered.{Answered}
use Rattle.cert_check.specs.declared.reason.Answered.TheVariants.{Yes, No}
use Rattle.cert_check.specs.declared.reason.Reason.{Reason}
use Rattle.cert_check.specs.declared.reason.Reason.TheVariants as reasons
use Rattle.cert_check.specs.Judging.{Case, blocks_in, cert_in, duties_in, duty_lists, fids_in, groups_in, pieces_in, pools_in, text_in}
use Rattle.cert_check.specs.Reasons.{AllCharged, ArePlanAgain, AreShown, HasBlocks, HasCert, HasDuties, HasTables, IsAnswer, IsCharged, IsCovered, IsFirstNegative, IsFirstTooHigh, IsFirstUncovered, IsReason, IsTableReason, NoGaps, difference_in, printed_pieces}

-- the covers are passed
abbrev pub AfterCovers : Case → PlanText → Plan → Plan → Cert → Answered → Type 0
AfterCovers c text blocks duties cert a =
    ((pass : ℕ) × (print : ℕ) × (show : ℕ) × IsFirstTooHigh c blocks text.bounds zero cert.parts pass print show ×
    (a ≡ No (reasons.BoundTooHigh pass print show))) ⊎
    (AreShown c blocks text.bounds zero cert.parts ×
    (a ≡ Yes (length blocks.columns) (cost blocks.columns) (length duties.columns) (cost duties.columns)))

-- the class prices are passed
abbrev pub AfterCharges : Case → PlanText → Plan → Plan → Cert → Answered → Type 0
AfterCharges c text blocks duties cert a =
    ((pass : ℕ) × (gap : Gap) × IsFirstUncovered c blocks zero cert.parts pass gap × (a ≡ No (reasons.Uncovered pass gap))) ⊎
    (NoGaps c blocks zero cert.parts × AfterCovers c text blocks duties cert a)

-- the certificate is read
abbrev pub AfterCert : Case → PlanText → Plan → Plan → Cert → Answered → Type 0
AfterCert c text blocks duties cert a =
    ((pass : ℕ) × (class : ℕ) × IsFirstNegative 1 cert.parts pass class × (a ≡ No (reasons.NegativeClassPrice pass class))) ⊎
    (AllCharged cert.parts × AfterCharges c text blocks duties cert a)

-- the tables are passed
abbrev pub AfterTables : Case → PlanText → Plan → Plan → Answered → Type 0
AfterTables c text blocks duties a =
    ((at : CertPlace) × (cert_in c (length (printed_pieces c blocks)) ≡ Err at) × (a ≡ No (reasons.CertForm at))) ⊎
    ((cert : Cert) × (cert_in c (length (printed_pieces c blocks)) ≡ Ok cert) × AfterCert c text blocks duties cert a)

-- the duties are passed
abbrev pub AfterDuties : Case → PlanText → Plan → Plan → Answered → Type 0
AfterDuties c text blocks duties a =
    ((table : List ℕ) × (row : ℕ) × IsTableReason c text blocks duties table row × (a ≡ No (reasons.PlanDiffers table row))) ⊎
    ((difference_in c text blocks duties ≡ None) × ArePlanAgain c blocks duties × AfterTables c text blocks duties a)

-- there is a verdict on the duties
abbrev pub ByDuties : Case → PlanText → Plan → PlanVerdict → Answered → Type 0
ByDuties c text blocks (verdicts.Lawful duties) a = AfterDuties c text blocks duties a
ByDuties c text blocks (verdicts.Times item times) a =
    (piece : Piece) × (slice_get (pieces_in c blocks.columns) item ≡ Some piece) ×
    (a ≡ No (reasons.PieceTimes piece.block piece.index times))
ByDuties c text blocks (verdicts.Unlawful spot) a = a ≡ No (reasons.DutyUnlawful (spot + 1))
ByDuties c text blocks (verdicts.Over class used) a =
    (group : ℕ) × (slice_get (groups_in c) class ≡ Some group) ×
    (a ≡ No (reasons.GroupOver group used (slice_index (duties_in c (pieces_in c blocks.columns) false).caps class)))

-- the blocks are passed
abbrev pub AfterBlocks : Case → PlanText → Plan → Answered → Type 0
AfterBlocks c text blocks a =
    (v : PlanVerdict) × IsVerdict (duties_in c (pieces_in c blocks.columns) false) (duty_lists c blocks.columns text) v ×
    ByDuties c text blocks v a

-- there is a verdict on the blocks
abbrev pub ByBlocks : Case → PlanText → PlanVerdict → Answered → Type 0
ByBlocks c text (verdicts.Lawful blocks) a = AfterBlocks c text blocks a
ByBlocks c text (verdicts.Times item times) a =
    (fid : ℕ) × (slice_get (fids_in c) item ≡ Some fid) × (a ≡ No (reasons.TripTimes fid times))
ByBlocks c text (verdicts.Unlawful spot) a = a ≡ No (reasons.BlockUnlawful (spot + 1))
ByBlocks c text (verdicts.Over class used) a =
    (pool : ℕ) × (slice_get (pools_in c) class ≡ Some pool) ×
    (a ≡ No (reasons.PoolOver pool used (slice_index (blocks_in c false).caps class)))

-- the text is read
abbrev pub AfterText : Case → PlanText → Answered → Type 0
AfterText c text a = (v : PlanVerdict) × IsVerdict (blocks_in c false) text.blocks.columns v × ByBlocks c text v a

abbrev pub InSteps : Case → Answered → Type 0
InSteps c a =
    ((table : List ℕ) × (row : ℕ) × (text_in c ≡ Err (faults.Form table row)) × (a ≡ No (reasons.PlanForm table row))) ⊎
    ((text : PlanText) × (text_in c ≡ Ok text) × AfterText c text a)

-- what is said after a step that is passed is said in steps
at-blocks : (c : Case) (text : PlanText) (blocks : Plan) (a : Answered) → HasBlocks c text blocks → AfterBlocks c text blocks a →
    InSteps c a
at-blocks c text blocks a has rest = inr (text, has.said, (verdicts.Lawful blocks, has.lawful, rest))

at-duties : (c : Case) (text : PlanText) (blocks duties : Plan) (a : Answered) → HasDuties c text blocks duties →
    AfterDuties c text blocks duties a → InSteps c a
at-duties c text blocks duties a has rest = at-blocks c text blocks a has.has_blocks (verdicts.Lawful duties, has.lawful, rest)

at-tables : (c : Case) (text : PlanText) (blocks duties : Plan) (a : Answered) → HasTables c text blocks duties →
    AfterTables c text blocks duties a → InSteps c a
at-tables c text blocks duties a has rest = at-duties c text blocks duties a has.has_duties (inr (has.same, has.again, rest))

at-cert : (c : Case) (text : PlanText) (blocks duties : Plan) (cert : Cert) (a : Answered) → HasCert c text blocks duties cert →
    AfterCert c text blocks duties cert a → InSteps c a
at-cert c text blocks duties cert a has rest = at-tables c text blocks duties a has.has_tables (inr (cert, has.said, rest))

at-charges : (c : Case) (text : PlanText) (blocks duties : Plan) (cert : Cert) (a : Answered) → IsCharged c text blocks duties cert →
    AfterCharges c text blocks duties cert a → InSteps c a
at-charges c text blocks duties cert a has rest = at-cert c text blocks duties cert a has.has_cert (inr (has.charged, rest))

at-covers : (c : Case) (text : PlanText) (blocks duties : Plan) (cert : Cert) (a : Answered) → IsCovered c text blocks duties cert →
    AfterCovers c text blocks duties cert a → InSteps c a
at-covers c text blocks duties cert a has rest = at-charges c text blocks duties cert a has.is_charged (inr (has.covered, rest))

-- A reason comes with all that was passed before it, nested from the last step inward (`HasCert` has `HasTables`, and so on). Each
-- `at-` lemma puts one such layer in front as a step that is passed, so that two answers can be compared from the first step on, where
-- neither says yet whether it ends.
reason-steps : (c : Case) (reason : Reason) → IsReason c reason → InSteps c (No reason)
reason-steps c (reasons.PlanForm table row) is = inl (table, row, is, refl)
reason-steps c (reasons.TripTimes fid times) (text, said, item, at, verdict) =
    inr (text, said, (verdicts.Times item times, verdict, (fid, at, refl)))
reason-steps c (reasons.BlockUnlawful block) (text, said, spot, block_is, verdict) =
    inr (text, said, (verdicts.Unlawful spot, verdict, cc))
reason-steps c (reasons.PoolOver pool used cap) (text, said, class, at, cap_is, verdict) =
    inr (text, said, (verdicts.Over class used, verdict, (pool, at, cc)))
reason-steps c (reasons.PieceTimes block index times) (text, blocks, has, item, piece, at, block_is, index_is, verdict) =
    at-blocks c text blocks _ has (verdicts.Times item times, verdict, (piece, at, cc))
reason-steps c (reasons.DutyUnlawful duty) (text, blocks, has, spot, duty_is, verdict) =
    at-blocks c text blocks _ has (verdicts.Unlawful spot, verdict, cc)
reason-steps c (reasons.GroupOver group used cap) (text, blocks, has, class, at, cap_is, verdict) =
    at-blocks c text blocks _ has (verdicts.Over class used, verdict, (group, at, cc))
reason-steps c (reasons.PlanDiffers table row) (text, blocks, duties, has, is) =
    at-duties c text blocks duties _ has (inl (table, row, is, refl))
reason-steps c (reasons.CertForm at) (text, blocks, duties, has, said) = at-tables c text blocks duties _ has (inl (at, said, refl))
reason-steps c (reasons.NegativeClassPrice pass class) (text, blocks, duties, cert, has, is) =
    at-cert c text blocks duties cert _ has (inl (pass, class, is, refl))
reason-steps c (reasons.Uncovered pass gap) (text, blocks, duties, cert, has, is) =
    at-charges c text blocks duties cert _ has (inl (pass, gap, is, refl))
reason-steps c (reasons.BoundTooHigh pass print show) (text, blocks, duties, cert, has, is) =
    at-covers c text blocks duties cert _ has (inl (pass, print, show, is, refl))

-- Each answer is one in steps: what was passed before it is said along with it.
pub answer-steps : (c : Case) (a : Answered) → IsAnswer c a → InSteps c a
answer-steps c (No reason) is = reason-steps c reason is
answer-steps c (Yes vehicles block_cost duty_count duty_cost) (text, blocks, duties, cert, accepted, one, two, three, four) =
    at-covers c text blocks duties cert _ accepted.is_covered (inr (accepted.shown, cc))
