-- Promise: what the steps of the checker begin with and end with.
use Rattle.std.specs.Prelude.{◌≡◌, ◌⊎◌, ℕ, ℤ, pos, int_lt, ◌+◌, ◌<◌, ◌≤◌, ◌^◌, All, Bool, IsTrue, List, [], ◌∷◌, Option, Some, None, true, false, length, slice_index}
use Rattle.std.specs.List.{position_from}
use Rattle.plan_core.specs.Limits.{most_items, most_kept_price}
use Rattle.cover_core.specs.FirstLeast.{AllWithin}
use Rattle.cover_core.specs.Plans.{bound_of}
use Rattle.dual_bound.specs.Ranges.{AreAtLeast}
use Rattle.plan_cert.specs.declared.cert.CertPart.{CertPart}
use Rattle.plan_core.specs.declared.types.Piece.{Piece}
use Rattle.cert_check.specs.declared.bounds.TooHigh.{TooHigh}
use Rattle.cert_check.specs.declared.gaps.Uncovered.{Uncovered}
use Rattle.cert_check.specs.declared.parts.FourParts.{FourParts}
use Rattle.vdv451_text.specs.declared.table.Table.{Table}
use Rattle.vdv451_text.specs.Plain.{is_plain_table}
use Rattle.trip_times.specs.declared.trip.Trip.{Trip}
use Rattle.umlauf_write.specs.Trips.{HasOneRow}
use Rattle.cert_check.specs.declared.stop.Stop.{Stop}
use Rattle.cert_check.specs.declared.stop.Stop.TheVariants.{Against, Memory}
use Rattle.cert_check.specs.Judging.{Case, IsBlockGap, IsDutyGap}
use Rattle.cert_check.specs.declared.reason.Reason.{Reason}
use Rattle.cert_check.specs.declared.reason.Reason.TheVariants.{PlanDiffers}
use Rattle.table_differences.specs.declared.difference.Difference.{Difference}
use Rattle.cert_check.specs.Reasons.{IsPlaceOf, IsReason, IsTooHigh}

-- REC_FRT can be written and has exactly one row of the day's version for each trip of the day; no number of a trip is above 10^18; and the
-- tables of plan and certificate have fewer than 2^32 rows each, as tables of files have.
pub record IsCase (c : Case) : Type 0 where
  pub plain : IsTrue (is_plain_table c.rec_frt)
  pub one : All (λ (trip : Trip). HasOneRow c.rec_frt c.day.kind.version trip.fid) c.day.trips
  pub fids : All (λ (trip : Trip). trip.fid ≤ 10 ^ 18) c.day.trips
  pub plan_rows : All (λ (table : Table). length table.rows < 2 ^ 32) c.plan
  pub cert_rows : All (λ (table : Table). length table.rows < 2 ^ 32) c.cert

-- a step ends with a reason that holds, or for running out of memory
abbrev pub IsStop : Case → Stop → Type 0
IsStop c (Against reason) = IsReason c reason
IsStop c Memory = Unit {0}

-- a reason names the place of a difference
abbrev pub IsDifference : List Table → Difference → Reason → Type 0
IsDifference made d reason = (table : List ℕ) × (row : ℕ) × (reason ≡ PlanDiffers table row) × IsPlaceOf made d table row

-- the place of the first number below 0
abbrev pub is_below : ℤ → Bool
is_below z = int_lt z (pos 0)

abbrev pub first_negative : List ℤ → Option ℕ
first_negative prices = position_from is_below 0 prices

-- no part has more than 32 class prices
abbrev pub HaveFewClasses : List CertPart → Type 0
HaveFewClasses [] = Unit {0}
HaveFewClasses (part ∷ parts) = (length part.class_prices ≤ 32) × HaveFewClasses parts

-- a part has the numbers of which a bound can be made
pub record IsBounding (caps : List ℕ) (part : CertPart) : Type 0 where
  pub few : length part.prices.items ≤ most_items
  pub moderate : AllWithin most_kept_price part.prices.items
  pub classes : length caps ≤ 32
  pub one_each : length part.class_prices ≡ length caps
  pub charged : AreAtLeast (pos 0) part.class_prices

-- the parts over blocks with the pools' caps, those over duties with the groups'
pub record AreBounding (pools groups : List ℕ) (p : FourParts) : Type 0 where
  pub block_number : IsBounding pools p.block_number.now
  pub block_cost : IsBounding pools p.block_cost.now
  pub duty_number : IsBounding groups p.duty_number.now
  pub duty_cost : IsBounding groups p.duty_cost.now

-- the bound that a part shows
abbrev pub bound_by : List ℕ → CertPart → ℕ
bound_by caps part = bound_of part.prices.items part.class_prices caps

-- no bound of four is higher than the one that its part shows
abbrev pub AreLow : List ℕ → List ℕ → List ℕ → FourParts → Type 0
AreLow bounds pools groups p =
    (slice_index bounds 0 ≤ bound_by pools p.block_number.now) × (slice_index bounds 1 ≤ bound_by pools p.block_cost.now) ×
    (slice_index bounds 2 ≤ bound_by groups p.duty_number.now) × (slice_index bounds 3 ≤ bound_by groups p.duty_cost.now)

-- the bound of this pass is, and none before it
abbrev pub IsHigh : TooHigh → ℕ → ℕ → ℕ → Type 0
IsHigh found pass bound shown = (found.pass ≡ pass) × IsTooHigh found.printed found.shown bound shown

abbrev pub IsFirstHigh : List ℕ → List ℕ → List ℕ → FourParts → TooHigh → Type 0
IsFirstHigh bounds pools groups p found =
    IsHigh found 1 (slice_index bounds 0) (bound_by pools p.block_number.now) ⊎
    ((slice_index bounds 0 ≤ bound_by pools p.block_number.now) × (IsHigh found 2 (slice_index bounds 1) (bound_by pools p.block_cost.now) ⊎
    ((slice_index bounds 1 ≤ bound_by pools p.block_cost.now) × (IsHigh found 3 (slice_index bounds 2) (bound_by groups p.duty_number.now) ⊎
    ((slice_index bounds 2 ≤ bound_by groups p.duty_number.now)
    × IsHigh found 4 (slice_index bounds 3) (bound_by groups p.duty_cost.now))))))

-- no part has 2^32 marks
abbrev pub HaveFewMarks : List CertPart → Type 0
HaveFewMarks [] = Unit {0}
HaveFewMarks (part ∷ parts) = (length part.blocks.marks < 2 ^ 32) × (length part.cover.marks < 2 ^ 32) × HaveFewMarks parts

-- the first gap of four parts over the blocks of a day and the duties of pieces, or that there is none
abbrev pub IsFirstOfGaps : Case → List Piece → FourParts → Option Uncovered → Type 0
IsFirstOfGaps c pieces p None =
    IsBlockGap c true p.block_number.now None × IsBlockGap c false p.block_cost.now None ×
    IsDutyGap c pieces true p.duty_number.now None × IsDutyGap c pieces false p.duty_cost.now None
IsFirstOfGaps c pieces p (Some found) =
    ((found.pass ≡ 1) × IsBlockGap c true p.block_number.now (Some found.gap)) ⊎
    (IsBlockGap c true p.block_number.now None × (((found.pass ≡ 2) × IsBlockGap c false p.block_cost.now (Some found.gap)) ⊎
    (IsBlockGap c false p.block_cost.now None × (((found.pass ≡ 3) × IsDutyGap c pieces true p.duty_number.now (Some found.gap)) ⊎
    (IsDutyGap c pieces true p.duty_number.now None × (found.pass ≡ 4) × IsDutyGap c pieces false p.duty_cost.now (Some found.gap))))))
