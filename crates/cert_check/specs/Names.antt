-- Promise: the number and the name of each reason against a plan and its certificate.
use Rattle.std.specs.Prelude.{ℕ, List, codes}
use Rattle.cert_check.specs.declared.reason.Reason.{Reason}
use Rattle.cert_check.specs.declared.reason.Reason.TheVariants as reasons

-- The number of a reason. There is no reason 11.
abbrev pub number_of : Reason → ℕ
number_of (reasons.PlanForm table row) = 1
number_of (reasons.TripTimes fid times) = 2
number_of (reasons.BlockUnlawful block) = 3
number_of (reasons.PoolOver pool used cap) = 4
number_of (reasons.PieceTimes block index times) = 5
number_of (reasons.DutyUnlawful duty) = 6
number_of (reasons.GroupOver group used cap) = 7
number_of (reasons.PlanDiffers table row) = 8
number_of (reasons.CertForm at) = 9
number_of (reasons.NegativeClassPrice pass class) = 10
number_of (reasons.Uncovered pass gap) = 12
number_of (reasons.BoundTooHigh pass print show) = 13

-- the name of a reason
abbrev pub name_of : Reason → List ℕ
name_of (reasons.PlanForm table row) = codes "PlanForm"
name_of (reasons.TripTimes fid times) = codes "TripTimes"
name_of (reasons.BlockUnlawful block) = codes "BlockUnlawful"
name_of (reasons.PoolOver pool used cap) = codes "PoolOver"
name_of (reasons.PieceTimes block index times) = codes "PieceTimes"
name_of (reasons.DutyUnlawful duty) = codes "DutyUnlawful"
name_of (reasons.GroupOver group used cap) = codes "GroupOver"
name_of (reasons.PlanDiffers table row) = codes "PlanDiffers"
name_of (reasons.CertForm at) = codes "CertForm"
name_of (reasons.NegativeClassPrice pass class) = codes "NegativeClassPrice"
name_of (reasons.Uncovered pass gap) = codes "Uncovered"
name_of (reasons.BoundTooHigh pass print show) = codes "BoundTooHigh"
