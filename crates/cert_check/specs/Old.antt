-- Promise: whether the tables of an earlier plan are a plan of the day, whatever places there are.
use Rattle.std.specs.Prelude.{◌≡◌, ℕ, ◌+◌, ◌<◌, false, List, [], ◌∷◌, length, map, Option, Some, None, Ok, Err, slice_get}
use Rattle.plan_core.specs.declared.types.Piece.{Piece}
use Rattle.vdv451_text.specs.declared.table.Table.{Table}
use Rattle.cover_core.specs.declared.Column.{Column}
use Rattle.cover_core.specs.Cover.{AllBelow}
use Rattle.trip_times.specs.declared.trip.Trip.{Trip}
use Rattle.day_model.specs.Facts.{DayFacts}
use Rattle.depot_network.specs.Network.{blocks_of}
use Rattle.block_cut.specs.Cuts.{pieces_of_plan}
use Rattle.umlauf_write.specs.declared.text.PlanText.{PlanText}
use Rattle.umlauf_write.specs.declared.text.PlanFault.TheVariants as faults
use Rattle.umlauf_write.specs.Reading.{read_of}
use Rattle.plan_check.specs.Verdicts.{EachOnce, HaveWorths, IsFirstTimes, IsFirstUnlawful, StandOnce}
use Rattle.cert_check.specs.declared.old.OldPlan.{OldPlan}
use Rattle.cert_check.specs.declared.old.OldPlan.TheVariants.{Good, Bad}
use Rattle.cert_check.specs.declared.reason.Answered.{Answered}
use Rattle.cert_check.specs.declared.reason.Answered.TheVariants.{No}
use Rattle.cert_check.specs.declared.reason.Reason.{Reason}
use Rattle.cert_check.specs.declared.reason.Reason.TheVariants as reasons
use Rattle.cert_check.specs.Judging.{Case, duty_list}
use Rattle.cert_check.specs.Reasons.{IsAnswer}

-- the numbers of the trips
abbrev pub fids_of : DayFacts → List ℕ
fids_of day = map (λ (trip : Trip). trip.fid) day.trips

-- the pieces that the day's cutting rule gives for the blocks that tables say
abbrev pub old_pieces : DayFacts → PlanText → List Piece
old_pieces day text = pieces_of_plan day text.blocks.columns

-- the duties that they say, as lists of the numbers of these pieces
abbrev pub old_duties : DayFacts → PlanText → List Column
old_duties day text = map (duty_list day.params.groups (old_pieces day text)) text.duties

-- each trip of the day stands in exactly one block, once
abbrev pub HasTripsOnce : DayFacts → PlanText → Type 0
HasTripsOnce day text = StandOnce (blocks_of day false) text.blocks.columns

-- each block is a block of its pool
abbrev pub HasLawfulBlocks : DayFacts → PlanText → Type 0
HasLawfulBlocks day text = HaveWorths (blocks_of day false) text.blocks.columns (length text.blocks.columns)

-- each piece of the blocks stands in exactly one duty, once
abbrev pub HasPiecesOnce : DayFacts → PlanText → Type 0
HasPiecesOnce day text = EachOnce (length (old_pieces day text)) (old_duties day text)

-- what the tables say is a plan of the day, but for how many blocks and duties there are and for the rules of drivers
pub record IsOldPlan (day : DayFacts) (text : PlanText) : Type 0 where
  pub trips : HasTripsOnce day text
  pub blocks : HasLawfulBlocks day text
  pub pieces : HasPiecesOnce day text

-- The first reason against what the tables say, of three kinds: a trip, a block or a piece. Those of the kinds before it do not hold.
abbrev pub IsAgainst : DayFacts → PlanText → Reason → Type 0
IsAgainst day text (reasons.TripTimes fid times) =
    (item : ℕ) × (slice_get (fids_of day) item ≡ Some fid) × IsFirstTimes (length day.trips) text.blocks.columns item times
IsAgainst day text (reasons.BlockUnlawful block) =
    HasTripsOnce day text × ((spot : ℕ) × (block ≡ spot + 1) × IsFirstUnlawful (blocks_of day false) text.blocks.columns spot)
IsAgainst day text (reasons.PieceTimes block index times) =
    HasTripsOnce day text × HasLawfulBlocks day text ×
    ((item : ℕ) × (piece : Piece) × (slice_get (old_pieces day text) item ≡ Some piece) × (piece.block ≡ block) × (piece.index ≡ index) ×
    IsFirstTimes (length (old_pieces day text)) (old_duties day text) item times)
IsAgainst day text (reasons.PlanForm table row) = ⊥
IsAgainst day text (reasons.PoolOver pool used cap) = ⊥
IsAgainst day text (reasons.DutyUnlawful duty) = ⊥
IsAgainst day text (reasons.GroupOver group used cap) = ⊥
IsAgainst day text (reasons.PlanDiffers table row) = ⊥
IsAgainst day text (reasons.CertForm at) = ⊥
IsAgainst day text (reasons.NegativeClassPrice pass class) = ⊥
IsAgainst day text (reasons.Uncovered pass gap) = ⊥
IsAgainst day text (reasons.BoundTooHigh pass print show) = ⊥

-- What is answered of the tables of an earlier plan: what they say, where it is a plan of the day; or the first reason against them, their
-- form before all others.
abbrev pub IsOldAnswer : DayFacts → List Table → OldPlan → Type 0
IsOldAnswer day plan (Good text) = (read_of day plan ≡ Ok text) × IsOldPlan day text
IsOldAnswer day plan (Bad (reasons.PlanForm table row)) = read_of day plan ≡ Err (faults.Form table row)
IsOldAnswer day plan (Bad reason) = (text : PlanText) × (read_of day plan ≡ Ok text) × IsAgainst day text reason

-- a step finds a reason, or what it asks for holds
abbrev pub IsStepOf : DayFacts → PlanText → Type 0 → Option Reason → Type 0
IsStepOf day text passed None = passed
IsStepOf day text passed (Some reason) = IsAgainst day text reason

-- what is answered where the tables say this
abbrev pub IsTextAnswer : DayFacts → PlanText → OldPlan → Type 0
IsTextAnswer day text (Good said) = (text ≡ said) × IsOldPlan day text
IsTextAnswer day text (Bad reason) = IsAgainst day text reason

-- what holds of a plan that is good
abbrev pub IfGood : (PlanText → Type 0) → OldPlan → Type 0
IfGood P (Good text) = P text
IfGood P (Bad reason) = Unit {0}

-- each list is one of trips and pools of the day
abbrev pub AreOfDay : DayFacts → List Column → Type 0
AreOfDay day [] = Unit {0}
AreOfDay day (c ∷ cs) = ((c.class < length day.params.pools) × AllBelow (length day.trips) c.items) × AreOfDay day cs

-- the tables are those of a plan of the day
abbrev pub IsGood : Case → Type 0
IsGood c = (text : PlanText) × IsOldAnswer c.day c.plan (Good text)

-- What is answered of the tables of a plan by themselves, where the plan and its certificate have this answer: the same where they have no
-- form, or a trip, a block or a piece is against them; nothing is said where a pool has too many blocks; and else they are a plan of the
-- day.
abbrev pub IsOldOf : Case → Answered → Type 0
IsOldOf c (No (reasons.PlanForm table row)) = IsOldAnswer c.day c.plan (Bad (reasons.PlanForm table row))
IsOldOf c (No (reasons.TripTimes fid times)) = IsOldAnswer c.day c.plan (Bad (reasons.TripTimes fid times))
IsOldOf c (No (reasons.BlockUnlawful block)) = IsOldAnswer c.day c.plan (Bad (reasons.BlockUnlawful block))
IsOldOf c (No (reasons.PoolOver pool used cap)) = Unit {0}
IsOldOf c (No (reasons.PieceTimes block index times)) = IsOldAnswer c.day c.plan (Bad (reasons.PieceTimes block index times))
IsOldOf c answer = IsGood c

-- the answer on a plan and its certificate says what is answered of the plan by itself
abbrev pub AnswersSayOld : Case → Type 0
AnswersSayOld c = (answer : Answered) → IsAnswer c answer → IsOldOf c answer
