-- Promise: what the rows of a plan say.
use Rattle.std.specs.Prelude.{ℕ, ℤ, pos, negsuc, ◌+◌, ◌-◌, ◌*◌, ◌/◌, ◌==◌, nat_le, nat_lt, List, Option, Some, None, if◌then◌else◌, position, codes}
use Rattle.plan_core.specs.declared.types.LegKind.{LegKind}
use Rattle.plan_core.specs.declared.types.LegKind.TheVariants.{PullOut, Trip, Deadhead, Stand, PullIn}
use Rattle.plan_core.specs.declared.types.Point.{Point}
use Rattle.vdv451_text.specs.declared.table.Field.{Field}
use Rattle.vdv451_text.specs.declared.table.Head.{Head}
use Rattle.number_tables.specs.Outlines.{number_in, up_to, word}
use Rattle.plan_rows.specs.declared.rows.TripRow.{TripRow}
use Rattle.plan_rows.specs.declared.rows.VehicleRow.{VehicleRow}
use Rattle.plan_rows.specs.declared.rows.BlockRow.{BlockRow}
use Rattle.plan_rows.specs.declared.rows.Span.{Span}
use Rattle.plan_rows.specs.declared.rows.Ends.{Ends}
use Rattle.plan_rows.specs.declared.rows.Named.{Named}
use Rattle.plan_rows.specs.declared.rows.Work.{Work}
use Rattle.plan_rows.specs.declared.rows.LegRow.{LegRow}
use Rattle.plan_rows.specs.declared.rows.DutyRow.{DutyRow}
use Rattle.plan_rows.specs.declared.rows.PieceNumbers.{PieceNumbers}
use Rattle.plan_rows.specs.declared.rows.PieceRow.{PieceRow}
use Rattle.plan_rows.specs.declared.rows.Pass.{Pass}
use Rattle.plan_rows.specs.declared.rows.Pass.TheVariants.{BlockNumber, BlockCost, DutyNumber, DutyCost}
use Rattle.plan_rows.specs.declared.rows.BoundRow.{BoundRow}

-- what is made of a value that is there
infixl 10 ◌>>=◌
abbrev pub ◌>>=◌ : {A B : Type 0} → Option A → (A → Option B) → Option B
None >>= f = None
(Some x) >>= f = f x

-- a number of 32 bits in a column
abbrev pub word_in : List Head → List Field → List ℕ → Option ℕ
word_in heads row name = word (number_in heads row name)

-- a number or cost of at most 10^15
abbrev pub money : Option ℤ → Option ℕ
money number = up_to 1000000000000000 number

-- A moment within 1,000,000 seconds of the day's midnight, in seconds from 280 hours before it.
abbrev pub moment : Option ℤ → Option ℕ
moment None = None
moment (Some (pos n)) = if nat_le n 1000000 then Some (1008000 + n) else None
moment (Some (negsuc n)) = if nat_lt n 1000000 then Some (1007999 - n) else None

abbrev pub moment_in : List Head → List Field → List ℕ → Option ℕ
moment_in heads row name = moment (number_in heads row name)

-- BEGINN, ENDE: nothing ends before it begins
abbrev pub span_of : ℕ → ℕ → Option Span
span_of begin end = if nat_le begin end then Some (record { begin = begin; end = end }) else None

abbrev pub span_in : List Head → List Field → Option Span
span_in heads row = do
  begin ← moment_in heads row (codes "BEGINN")
  end ← moment_in heads row (codes "ENDE")
  span_of begin end

abbrev pub point_in : List Head → List Field → List ℕ → List ℕ → Option Point
point_in heads row typ_name nr_name = do
  typ ← word_in heads row typ_name
  nr ← word_in heads row nr_name
  Some (record { typ = typ; nr = nr })

-- VON_TYP, VON_NR, BEGINN, NACH_TYP, NACH_NR, ENDE
abbrev pub ends_in : List Head → List Field → Option Ends
ends_in heads row = do
  from ← point_in heads row (codes "VON_TYP") (codes "VON_NR")
  to ← point_in heads row (codes "NACH_TYP") (codes "NACH_NR")
  span ← span_in heads row
  Some (record { from = from; to = to; span = span })

-- REC_FRT
abbrev pub trip_of : List Head → List Field → Option TripRow
trip_of heads row = do
  fid ← up_to 1000000000000000000 (number_in heads row (codes "FRT_FID"))
  line ← word_in heads row (codes "LI_NR")
  Some (record { fid = fid; line = line })

-- REC_UMLAUF
abbrev pub vehicle_of : List Head → List Field → Option VehicleRow
vehicle_of heads row = do
  number ← word_in heads row (codes "UM_UID")
  typ ← word_in heads row (codes "FZG_TYP_NR")
  Some (record { number = number; typ = typ })

-- X_UMLAUF
abbrev pub block_of : List Head → List Field → Option BlockRow
block_of heads row = do
  number ← word_in heads row (codes "UM_UID")
  pool ← word_in heads row (codes "HOF_NR")
  cost ← money (number_in heads row (codes "KOSTEN"))
  Some (record { number = number; pool = pool; cost = cost })

-- the kinds of legs by their numbers (ART)
abbrev pub kind_of : ℕ → Option LegKind
kind_of number =
    if number == 1 then Some PullOut
    else if number == 2 then Some Trip
    else if number == 3 then Some Deadhead
    else if number == 4 then Some Stand
    else if number == 5 then Some PullIn
    else None

-- the first trip of a number
abbrev pub trip_place : List TripRow → ℕ → Option ℕ
trip_place trips fid = position (λ (trip : TripRow). trip.fid == fid) trips

abbrev pub ran : LegKind → Option ℕ → Work
ran kind trip = record { kind = kind; trip = trip }

-- what a vehicle does; a leg that is a trip names one of the trips
abbrev pub work_of : List TripRow → Option ℤ → LegKind → Option Work
work_of trips fid Trip = do
  number ← up_to 1000000000000000000 fid
  place ← trip_place trips number
  Some (ran Trip (Some place))
work_of trips fid PullOut = Some (ran PullOut None)
work_of trips fid Deadhead = Some (ran Deadhead None)
work_of trips fid Stand = Some (ran Stand None)
work_of trips fid PullIn = Some (ran PullIn None)

-- ART, FRT_FID
abbrev pub work_in : List TripRow → List Head → List Field → Option Work
work_in trips heads row = do
  number ← word_in heads row (codes "ART")
  kind ← kind_of number
  work_of trips (number_in heads row (codes "FRT_FID")) kind

-- the first block of the number in UM_UID
abbrev pub block_in : List BlockRow → List Head → List Field → Option Named
block_in blocks heads row = do
  number ← word_in heads row (codes "UM_UID")
  place ← position (λ (block : BlockRow). block.number == number) blocks
  Some (record { place = place; number = number })

-- X_UMLAUF_TEIL
abbrev pub leg_of : List TripRow → List BlockRow → List Head → List Field → Option LegRow
leg_of trips blocks heads row = do
  block ← block_in blocks heads row
  number ← word_in heads row (codes "TEIL_NR")
  work ← work_in trips heads row
  ends ← ends_in heads row
  Some (record { block = block; number = number; work = work; ends = ends })

-- X_DIENST: what the numbers of a duty say beside its span
abbrev pub duty_over : List Head → List Field → Span → Option DutyRow
duty_over heads row span = do
  number ← word_in heads row (codes "DIENST_NR")
  group ← word_in heads row (codes "GRUPPE_NR")
  driving ← word_in heads row (codes "LENKZEIT")
  cost ← money (number_in heads row (codes "KOSTEN"))
  Some (record { number = number; group = group; span = span; driving = driving; cost = cost })

abbrev pub duty_of : List Head → List Field → Option DutyRow
duty_of heads row = do
  span ← span_in heads row
  duty_over heads row span

-- the first duty of the number in DIENST_NR
abbrev pub duty_in : List DutyRow → List Head → List Field → Option Named
duty_in duties heads row = do
  number ← word_in heads row (codes "DIENST_NR")
  place ← position (λ (duty : DutyRow). duty.number == number) duties
  Some (record { place = place; number = number })

-- UM_UID, STUECK_NR, LENKZEIT
abbrev pub piece_numbers : List Head → List Field → Option PieceNumbers
piece_numbers heads row = do
  block ← word_in heads row (codes "UM_UID")
  index ← word_in heads row (codes "STUECK_NR")
  driving ← word_in heads row (codes "LENKZEIT")
  Some (record { block = block; index = index; driving = driving })

-- X_DIENST_STUECK
abbrev pub piece_of : List DutyRow → List Head → List Field → Option PieceRow
piece_of duties heads row = do
  duty ← duty_in duties heads row
  numbers ← piece_numbers heads row
  ends ← ends_in heads row
  Some (record { duty = duty; numbers = numbers; ends = ends })

-- the passes by their numbers (ART)
abbrev pub pass_of : ℕ → Option Pass
pass_of number =
    if number == 1 then Some BlockNumber
    else if number == 2 then Some BlockCost
    else if number == 3 then Some DutyNumber
    else if number == 4 then Some DutyCost
    else None

-- how far a value lies above a bound that is not 0, in thousandths of the bound
abbrev pub distance_of : ℕ → ℕ → Option ℕ
distance_of value bound = if bound == 0 then None else Some ((value - bound) * 1000 / bound)

-- X_SCHRANKE
abbrev pub bound_of : List Head → List Field → Option BoundRow
bound_of heads row = do
  number ← word_in heads row (codes "ART")
  pass ← pass_of number
  value ← money (number_in heads row (codes "WERT"))
  bound ← money (number_in heads row (codes "SCHRANKE"))
  Some (record { pass = pass; value = value; bound = bound; distance = distance_of value bound })
