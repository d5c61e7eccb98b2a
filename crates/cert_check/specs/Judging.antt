-- Promise: what the checker looks at, and what it makes of it.
use Rattle.std.specs.Prelude.{◌≡◌, ℕ, pos, ◌+◌, ◌-◌, ◌&&◌, Bool, true, false, nat_eq, List, [], ◌∷◌, length, map, Option, Some, None, Result, unwrap_or, slice_index_or, if◌then◌else◌}
use Rattle.std.specs.List.{list_all, position_from, zip}
use Rattle.plan_core.specs.declared.types.Piece.{Piece}
use Rattle.vdv451_text.specs.declared.table.Table.{Table}
use Rattle.cover_core.specs.declared.Column.{Column}
use Rattle.cover_core.specs.declared.marks.Gap.{Gap}
use Rattle.cover_core.specs.Cover.{Problem}
use Rattle.trip_times.specs.declared.trip.Trip.{Trip}
use Rattle.plan_params.specs.declared.rows.pool.Pool.{Pool}
use Rattle.plan_params.specs.declared.rows.group.Group.{Group}
use Rattle.day_model.specs.Facts.{DayFacts}
use Rattle.depot_network.specs.Network.{blocks_of}
use Rattle.depot_network.specs.BlockMarks.{block_marking}
use Rattle.block_cut.specs.Cuts.{pieces_of_plan}
use Rattle.block_cut.specs.Legs.{block_legs}
use Rattle.duty_network.specs.Duties.{DutyFacts, duties_of}
use Rattle.mark_cover.specs.Covers.{IsFirstGap, IsMarkCover}
use Rattle.label_cover.specs.Marked.{duty_marking}
use Rattle.umlauf_write.specs.declared.answer.Answer.{Answer}
use Rattle.umlauf_write.specs.declared.text.DutyRow.{DutyRow}
use Rattle.umlauf_write.specs.declared.text.PlanText.{PlanText}
use Rattle.umlauf_write.specs.declared.text.PlanFault.{PlanFault}
use Rattle.umlauf_write.specs.Answers.{answer_tables}
use Rattle.umlauf_write.specs.Printed.{printed, first_of_column}
use Rattle.umlauf_write.specs.Reading.{read_of as plan_read_of}
use Rattle.plan_cert.specs.declared.cert.Cert.{Cert}
use Rattle.plan_cert.specs.declared.cert.CertPart.{CertPart}
use Rattle.plan_cert.specs.declared.fault.Place.{Place as CertPlace}
use Rattle.plan_cert.specs.Certificates.{read_of as cert_read_of}
use Rattle.plan_cert.specs.Shapes.{shape_of}

-- What the checker is handed: the day, the table that its trips were read from, and the tables of a plan and of a certificate.
pub record Case : Type 0 where
  pub day : DayFacts
  pub rec_frt : Table
  pub plan : List Table
  pub cert : List Table

-- what the plan's tables say, or the first place where they say nothing
abbrev pub text_in : Case → Result PlanText PlanFault
text_in c = plan_read_of c.day c.plan

-- the numbers of the trips, pools and groups
abbrev pub fids_in : Case → List ℕ
fids_in c = map (λ (trip : Trip). trip.fid) c.day.trips

abbrev pub pools_in : Case → List ℕ
pools_in c = map (λ (pool : Pool). pool.number) c.day.params.pools

abbrev pub groups_in : Case → List ℕ
groups_in c = map (λ (group : Group). group.number) c.day.params.groups

-- the blocks of the day, counted or by cost
abbrev pub blocks_in : Case → Bool → Problem
blocks_in c counts = blocks_of c.day counts

-- the pieces of blocks, which are numbered by their places
abbrev pub pieces_in : Case → List Column → List Piece
pieces_in c blocks = pieces_of_plan c.day blocks

-- the duties over pieces, counted or by cost
abbrev pub duties_in : Case → List Piece → Bool → Problem
duties_in c pieces counts = duties_of c.day.params pieces counts

-- blocks with their legs and pieces, duties over these, and bounds
abbrev pub answer_in : Case → List Column → List Column → List ℕ → Answer
answer_in c blocks duties bounds = record {
  blocks = record { columns = blocks };
  legs = map (block_legs c.day) blocks;
  pieces = pieces_in c blocks;
  duties = record { columns = duties };
  bounds = bounds;
}

-- the tables of blocks, duties and bounds
abbrev pub made_in : Case → List Column → List Column → List ℕ → List Table
made_in c blocks duties bounds = answer_tables c.day c.rec_frt (answer_in c blocks duties bounds)

-- what the certificate's tables say for so many pieces, or the first place where they say nothing
abbrev pub cert_in : Case → ℕ → Result Cert CertPlace
cert_in c pieces = cert_read_of (shape_of c.day pieces) c.cert

-- the first gap of the marks of a part over blocks, or there is none: they are a cover
abbrev pub IsBlockGap : Case → Bool → CertPart → Option Gap → Type 0
IsBlockGap c counts part None = IsMarkCover (block_marking c.day counts part.prices.items) part.blocks.marks part.class_prices
IsBlockGap c counts part (Some gap) = IsFirstGap (block_marking c.day counts part.prices.items) part.blocks.marks part.class_prices gap

-- the same of a part over duties
abbrev pub duties_over : Case → List Piece → Bool → DutyFacts
duties_over c pieces counts = record { pieces = pieces; params = c.day.params; counts = counts }

abbrev pub IsDutyGap : Case → List Piece → Bool → CertPart → Option Gap → Type 0
IsDutyGap c pieces counts part None =
    IsMarkCover (duty_marking (duties_over c pieces counts) part.prices.items) part.cover.marks part.class_prices
IsDutyGap c pieces counts part (Some gap) =
    IsFirstGap (duty_marking (duties_over c pieces counts) part.prices.items) part.cover.marks part.class_prices gap

-- where the piece of a block and index stands, one past all where there is none
abbrev pub is_piece_of : ℕ → ℕ → Piece → Bool
is_piece_of block index p = nat_eq p.block block && nat_eq p.index index

abbrev pub piece_number : List Piece → ℕ → ℕ → ℕ
piece_number pieces block index = unwrap_or (position_from (is_piece_of block index) 0 pieces) (length pieces)

-- the number of a piece that is named by block and index
abbrev pub part_number : List Piece → ℕ × ℕ → ℕ
part_number pieces part = piece_number pieces part.0 part.1

-- the class of the group of a number, the first of several
abbrev pub has_number : ℕ → Group → Bool
has_number number group = nat_eq group.number number

abbrev pub class_of_group : List Group → ℕ → ℕ
class_of_group groups number = unwrap_or (position_from (has_number number) 0 groups) 0

-- the duties that the tables say, as lists of piece numbers
abbrev pub duty_list : List Group → List Piece → DutyRow → Column
duty_list groups pieces duty = record { class = class_of_group groups duty.group; worth = 0; items = map (part_number pieces) duty.parts }

abbrev pub duty_lists : Case → List Column → PlanText → List Column
duty_lists c blocks text = map (duty_list c.day.params.groups (pieces_in c blocks)) text.duties

abbrev no_column : Column
no_column = record { class = 0; worth = 0; items = [] }

-- the first trip of the block of a number, which are numbered from 1
abbrev pub first_of_block : List Column → ℕ → ℕ
first_of_block blocks number = first_of_column (slice_index_or blocks (number - 1) no_column)

-- the place of the first block that begins with a trip, from 0; all blocks stand before it where there is none
abbrev pub begins_with : ℕ → Column → Bool
begins_with trip block = nat_eq (first_of_column block) trip

abbrev pub place_of_first : List Column → ℕ → ℕ
place_of_first blocks trip = unwrap_or (position_from (begins_with trip) 0 blocks) (length blocks)

-- the number, from 1, that the block of a number has after all are put in printed order: it is found again by its first trip
abbrev pub new_number : List Column → ℕ → ℕ
new_number blocks number = place_of_first (printed blocks) (first_of_block blocks number) + 1

abbrev no_piece : Piece
no_piece = record {
  block = 0;
  index = 0;
  from = record { typ = 0; nr = 0 };
  begin = record { 0 = pos 0 };
  to =
      record { typ = 0; nr = 0 };
  end = record { 0 = pos 0 };
  driving = 0;
}

-- the number that a piece has after the blocks are put in printed order and cut anew
abbrev pub new_piece : List Column → List Piece → List Piece → ℕ → ℕ
new_piece blocks pieces anew item =
    let p = slice_index_or pieces item no_piece in
    piece_number anew (new_number blocks p.block) p.index

abbrev pub renumbered : List Column → List Piece → List Piece → Column → Column
renumbered blocks pieces anew duty =
    record { class = duty.class; worth = duty.worth; items = map (new_piece blocks pieces anew) duty.items }

-- duties in printed order, over the pieces of blocks in printed order
abbrev pub printed_duties : Case → List Column → List Column → List Column
printed_duties c blocks duties = printed (map (renumbered blocks (pieces_in c blocks) (pieces_in c (printed blocks))) duties)

-- columns have the worths of others, each at its place
abbrev pub same_worths : List Column → List Column → Bool
same_worths columns found = list_all (λ p. nat_eq p.0.worth p.1.worth) (zip columns found)
