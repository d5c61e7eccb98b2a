-- Promise: the tables of a whole answer: blocks with their legs, duties with their pieces, and bounds.
use Rattle.std.specs.Prelude.{false, ◌≡◌, ◌<◌, ◌≤◌, ◌^◌, ℕ, ℤ, pos, ◌+◌, ◌+ℤ◌, ◌-ℤ◌, ◌≤ℤ◌, All, List, [], ◌∷◌, ◌++◌, length, Option, Some, None, option_and_then, slice_get, slice_index_or, codes}
use Rattle.std.specs.Option.{option_map}
use Rattle.plan_core.specs.declared.types.Leg.{Leg}
use Rattle.plan_core.specs.declared.types.LegKind.{LegKind}
use Rattle.plan_core.specs.declared.types.LegKind.TheVariants.{PullOut, Trip, Deadhead, Stand, PullIn}
use Rattle.plan_core.specs.declared.types.Piece.{Piece}
use Rattle.plan_core.specs.declared.types.Point.{Point}
use Rattle.vdv451_text.specs.declared.table.Table.{Table}
use Rattle.cover_core.specs.declared.Column.{Column}
use Rattle.cover_core.specs.Plans.{cost}
use Rattle.trip_times.specs.declared.trip.Trip.{Trip as TheTrip}
use Rattle.plan_params.specs.declared.rows.group.Group.{Group}
use Rattle.plan_params.specs.LookUps.{way_in}
use Rattle.day_model.specs.Facts.{DayFacts}
use Rattle.number_tables.specs.Numbers.{number_table}
use Rattle.number_tables.specs.Signed.{signed_table}
use Rattle.umlauf_write.specs.declared.answer.Answer.{Answer}
use Rattle.umlauf_write.specs.Tables.{block_table, cost_table, numbered}
use Rattle.umlauf_write.specs.Trips.{found_table}

-- a whole number in a field
abbrev pub whole : ℕ → Option ℤ
whole n = Some (pos n)

-- X_UMLAUF_TEIL.
abbrev pub leg_columns : List (List ℕ)
leg_columns =
    codes "UM_UID" ∷ codes "TEIL_NR" ∷ codes "ART" ∷ codes "FRT_FID" ∷ codes "VON_TYP" ∷ codes "VON_NR" ∷ codes "BEGINN" ∷ codes "NACH_TYP"
    ∷ codes "NACH_NR" ∷ codes "ENDE" ∷ []

-- the kinds of legs by their numbers
abbrev pub kind_number : LegKind → ℕ
kind_number PullOut = 1
kind_number Trip = 2
kind_number Deadhead = 3
kind_number Stand = 4
kind_number PullIn = 5

-- the number FRT_FID of the trip of a leg, for a leg that is one
abbrev pub fid_of : List TheTrip → Option ℕ → Option ℕ
fid_of trips number = option_map (λ (trip : TheTrip). trip.fid) (option_and_then (slice_get trips) number)

-- the block, the leg's number in it from 1, its kind, its trip, from where and when, to where and when
abbrev pub leg_numbers : List TheTrip → ℕ → ℕ → Leg → List (Option ℤ)
leg_numbers trips block number leg =
    whole block ∷ whole number ∷ whole (kind_number leg.kind) ∷ option_map (λ fid. pos fid) (fid_of trips leg.trip) ∷
    whole leg.from.typ ∷ whole leg.from.nr ∷ Some leg.begin.0 ∷ whole leg.to.typ ∷ whole leg.to.nr ∷ Some leg.end.0 ∷ []

abbrev pub leg_rows : List TheTrip → ℕ → List Leg → List (List (Option ℤ))
leg_rows trips block legs = numbered (leg_numbers trips block) 1 legs

-- the rows of all lists, one list after another, where the lists are numbered from one on
abbrev pub all_rows : {A B : Type 0} → (ℕ → A → List B) → ℕ → List A → List B
all_rows rows number [] = []
all_rows rows number (item ∷ items) = rows number item ++ all_rows rows (number + 1) items

abbrev pub leg_table : DayFacts → List (List Leg) → Table
leg_table day legs = signed_table (codes "X_UMLAUF_TEIL") leg_columns (all_rows (leg_rows day.trips) 1 legs)

-- X_DIENST.
abbrev pub duty_columns : List (List ℕ)
duty_columns = codes "DIENST_NR" ∷ codes "GRUPPE_NR" ∷ codes "BEGINN" ∷ codes "ENDE" ∷ codes "LENKZEIT" ∷ codes "KOSTEN" ∷ []

abbrev pub no_piece : Piece
no_piece = record {
  block = 0;
  index = 0;
  from = record { typ = 0; nr = 0 };
  begin = record { 0 = pos 0 };
  to =
      record { typ = 0; nr = 0 };
  end = record { 0 = pos 0 };
  driving = 0;
}

abbrev pub piece_at : List Piece → ℕ → Piece
piece_at pieces place = slice_index_or pieces place no_piece

abbrev pub no_group : Group
no_group = record {
  number = 0;
  home = record { typ = 0; nr = 0 };
  cap = 0;
  fixed = 0;
  rate = 0;
  sign_on = 0;
  sign_off =
      0;
  ten = false;
  reduced = false;
}

-- the group of a class
abbrev pub group_of : DayFacts → ℕ → Group
group_of day class = slice_index_or day.params.groups class no_group

-- the start of the first piece less the way from home less the sign-on time, where that way is there
abbrev pub sign_on : DayFacts → Group → Piece → Option ℤ
sign_on day group first = option_map (λ way. first.begin.0 -ℤ pos way -ℤ pos group.sign_on) (way_in day.params group.home first.from)

-- the end of the last piece and the way home and the sign-off time, where that way is there
abbrev pub sign_off : DayFacts → Group → Piece → Option ℤ
sign_off day group last = option_map (λ way. last.end.0 +ℤ pos way +ℤ pos group.sign_off) (way_in day.params last.to group.home)

abbrev pub first_of : List ℕ → ℕ
first_of [] = 0
first_of (item ∷ items) = item

abbrev pub last_of : List ℕ → ℕ
last_of [] = 0
last_of (item ∷ []) = item
last_of (item ∷ next ∷ items) = last_of (next ∷ items)

-- the seconds driven on pieces
abbrev pub driving_of : List Piece → List ℕ → ℕ
driving_of pieces [] = 0
driving_of pieces (item ∷ items) = (piece_at pieces item).driving + driving_of pieces items

-- the duty's number, its group, sign-on and sign-off, the seconds driven, and its cost
abbrev pub duty_numbers : ℕ → Group → Option ℤ → Option ℤ → ℕ → ℕ → List (Option ℤ)
duty_numbers number group on off driving worth = whole number ∷ whole group.number ∷ on ∷ off ∷ whole driving ∷ whole worth ∷ []

abbrev pub duty_row : DayFacts → List Piece → ℕ → Column → List (Option ℤ)
duty_row day pieces number duty =
    let group = group_of day duty.class in
    duty_numbers number group (sign_on day group (piece_at pieces (first_of duty.items)))
    (sign_off day group (piece_at pieces (last_of duty.items))) (driving_of pieces duty.items) duty.worth

abbrev pub duty_table : DayFacts → List Piece → List Column → Table
duty_table day pieces duties = signed_table (codes "X_DIENST") duty_columns (numbered (duty_row day pieces) 1 duties)

-- X_DIENST_STUECK.
abbrev pub part_columns : List (List ℕ)
part_columns =
    codes "DIENST_NR" ∷ codes "LFD_NR" ∷ codes "UM_UID" ∷ codes "STUECK_NR" ∷ codes "VON_TYP" ∷ codes "VON_NR" ∷ codes "BEGINN"
    ∷ codes "NACH_TYP" ∷ codes "NACH_NR" ∷ codes "ENDE" ∷ codes "LENKZEIT" ∷ []

-- the duty, the piece's number in it from 1, its block and its index there, from where and when, to where and when, and the seconds driven
abbrev pub part_numbers : ℕ → ℕ → Piece → List (Option ℤ)
part_numbers duty number piece =
    whole duty ∷ whole number ∷ whole piece.block ∷ whole piece.index ∷ whole piece.from.typ ∷ whole piece.from.nr ∷ Some piece.begin.0 ∷
    whole piece.to.typ ∷ whole piece.to.nr ∷ Some piece.end.0 ∷ whole piece.driving ∷ []

abbrev pub part_row : List Piece → ℕ → ℕ → ℕ → List (Option ℤ)
part_row pieces duty number item = part_numbers duty number (piece_at pieces item)

abbrev pub part_rows : List Piece → ℕ → Column → List (List (Option ℤ))
part_rows pieces number duty = numbered (part_row pieces number) 1 duty.items

abbrev pub part_table : List Piece → List Column → Table
part_table pieces duties = signed_table (codes "X_DIENST_STUECK") part_columns (all_rows (part_rows pieces) 1 duties)

-- X_SCHRANKE.
abbrev pub bound_columns : List (List ℕ)
bound_columns = codes "ART" ∷ codes "WERT" ∷ codes "SCHRANKE" ∷ []

-- the pass, the number or the cost of its plan, and its bound
abbrev pub bound_row : ℕ → ℕ → ℕ → List (Option ℕ)
bound_row pass value bound = Some pass ∷ Some value ∷ Some bound ∷ []

-- a row for each bound, where passes are numbered from one on
abbrev pub bound_rows : ℕ → List ℕ → List ℕ → List (List (Option ℕ))
bound_rows pass [] bounds = []
bound_rows pass (value ∷ values) [] = []
bound_rows pass (value ∷ values) (bound ∷ bounds) = bound_row pass value bound ∷ bound_rows (pass + 1) values bounds

-- of blocks and of duties their number and their cost
abbrev pub values_of : List Column → List Column → List ℕ
values_of blocks duties = length blocks ∷ cost blocks ∷ length duties ∷ cost duties ∷ []

abbrev pub bound_table : List Column → List Column → List ℕ → Table
bound_table blocks duties bounds = number_table (codes "X_SCHRANKE") bound_columns (bound_rows 1 (values_of blocks duties) bounds)

-- The tables of an answer.
abbrev pub answer_tables : DayFacts → Table → Answer → List Table
answer_tables day table answer =
    block_table day answer.blocks.columns ∷
    found_table day table answer.blocks.columns ∷
    cost_table day answer.blocks.columns ∷
    leg_table day answer.legs ∷
    duty_table day answer.pieces answer.duties.columns ∷
    part_table answer.pieces answer.duties.columns ∷
    bound_table answer.blocks.columns answer.duties.columns answer.bounds ∷ []

-- a piece begins and ends within four days and is driven no longer
pub record IsPiece (piece : Piece) : Type 0 where
  pub begins : pos 0 ≤ℤ piece.begin.0
  pub order : piece.begin.0 ≤ℤ piece.end.0
  pub ends : piece.end.0 ≤ℤ pos 345600
  pub driving : piece.driving ≤ 345600
