-- Promise: the chart of the duties: from sign-on to sign-off with their pieces and pauses as bars, by group.
use Rattle.std.specs.Prelude.{ℕ, ◌==◌, ◌&&◌, nat_lt, List, [], ◌∷◌, ◌++◌, length, map, Option, Some, None, if◌then◌else◌}
use Rattle.std.specs.List.{flat_map, enumerate_from}
use Rattle.vdv451_text.specs.declared.table.Table.{Table}
use Rattle.chart_page.specs.declared.layout.Hours.{Hours}
use Rattle.chart_page.specs.declared.layout.Lane.{Lane}
use Rattle.chart_page.specs.declared.marks.Mark.TheVariants as marks
use Rattle.chart_page.specs.declared.parts.Bar.{Bar}
use Rattle.chart_page.specs.declared.parts.BarKind.{BarKind}
use Rattle.chart_page.specs.declared.parts.BarKind.TheVariants as kinds
use Rattle.chart_page.specs.declared.parts.Part.{Part}
use Rattle.chart_page.specs.declared.parts.Part.TheVariants.{Own, Number, Clock, Lasting, Shape}
use Rattle.plan_rows.specs.declared.rows.Span.{Span}
use Rattle.plan_rows.specs.declared.rows.DutyRow.{DutyRow}
use Rattle.plan_rows.specs.declared.rows.PieceRow.{PieceRow}
use Rattle.plan_rows.specs.declared.sheet.DutySheet.{DutySheet}
use Rattle.chart_page.specs.Frame.{ends_parts, frame_parts, label_open, length_of, scale_parts, share_parts}
use Rattle.chart_page.specs.Layout.{lane_at, lanes_by}
use Rattle.chart_page.specs.Parts.{written}

-- The bar of a duty: from its sign-on to its sign-off.
abbrev pub duty_bar : DutyRow → Lane → Bar
duty_bar duty lane = record { kind = kinds.Duty; left = duty.span.begin; right = duty.span.end; lane = lane.place }

-- a duty as one bar with its words
unfoldable pub duty_parts : DutyRow → Lane → List Part
duty_parts duty lane =
    Shape (duty_bar duty lane) ∷ Own marks.DutyTitle ∷ Number duty.number ∷ Own marks.OfGroup ∷ Number duty.group ∷ Own marks.SignOn ∷
    Clock duty.span.begin ∷ Own marks.SignOff ∷ Clock duty.span.end ∷ Own marks.Spread ∷ Lasting (length_of duty.span) ∷ Own marks.Driving ∷
    Lasting duty.driving ∷ Own marks.Cost ∷ Number duty.cost ∷ Own marks.TitleClose ∷ []

abbrev pub duty_at : List Lane → ℕ × DutyRow → List Part
duty_at lanes e = duty_parts e.1 (lane_at lanes e.0)

abbrev pub duties_text : Table → List Lane → List DutyRow → List ℕ
duties_text table lanes duties = flat_map (λ e. written table (duty_at lanes e)) (enumerate_from 0 duties)

-- a pause of 45 minutes or more is a full break
abbrev pub pause_kind : ℕ → BarKind
pause_kind seconds = if nat_lt seconds 2700 then kinds.Pause else kinds.Break

-- The bar of a pause: from the end of a piece to the start of the next.
abbrev pub pause_bar : Span → ℕ → Bar
pause_bar span lane = record { kind = pause_kind (length_of span); left = span.begin; right = span.end; lane = lane }

-- the time between a piece and the next row, where that is of the same duty and begins later
abbrev pub pause_between : PieceRow → PieceRow → Option Span
pause_between before piece =
    if (before.duty.place == piece.duty.place) && nat_lt before.ends.span.end piece.ends.span.begin
    then Some (record { begin = before.ends.span.end; end = piece.ends.span.begin })
    else None

abbrev pub span_parts : Span → ℕ → List Part
span_parts span lane =
    Shape (pause_bar span lane) ∷ Own marks.PauseTitle ∷ Lasting (length_of span) ∷ Own marks.Colon ∷ Clock span.begin ∷ Own marks.To ∷
    Clock span.end ∷ Own marks.TitleClose ∷ []

abbrev pub pause_by : ℕ → Option Span → List Part
pause_by lane None = []
pause_by lane (Some span) = span_parts span lane

abbrev pub pause_parts : List Lane → PieceRow → PieceRow → List Part
pause_parts lanes before piece = pause_by (lane_at lanes piece.duty.place).place (pause_between before piece)

-- the pauses behind a first piece, each between neighbouring rows
abbrev pub pauses : List Lane → PieceRow → List PieceRow → List Part
pauses lanes before [] = []
pauses lanes before (piece ∷ pieces) = pause_parts lanes before piece ++ pauses lanes piece pieces

abbrev pub pauses_text : Table → List Lane → PieceRow → List PieceRow → List ℕ
pauses_text table lanes first pieces = written table (pauses lanes first pieces)

abbrev pub all_pauses : List Lane → List PieceRow → List Part
all_pauses lanes [] = []
all_pauses lanes (first ∷ pieces) = pauses lanes first pieces

-- The bar of a piece: from its start to its end, in the lane of its duty.
abbrev pub piece_bar : List Lane → PieceRow → Bar
piece_bar lanes piece = record {
  kind = kinds.Piece;
  left = piece.ends.span.begin;
  right = piece.ends.span.end;
  lane = (lane_at lanes piece.duty.place).place;
}

abbrev pub piece_name : List Lane → PieceRow → List Part
piece_name lanes piece =
    Shape (piece_bar lanes piece) ∷ Own marks.PieceTitle ∷ Number piece.numbers.index ∷ Own marks.OfBlock ∷ Number piece.numbers.block ∷
    Own marks.OfDuty ∷ Number piece.duty.number ∷ Own marks.Colon ∷ []

abbrev pub piece_driving : PieceRow → List Part
piece_driving piece = Own marks.Driving ∷ Lasting piece.numbers.driving ∷ Own marks.TitleClose ∷ []

abbrev pub piece_label : PieceRow → List Part
piece_label piece = Number piece.numbers.block ∷ Own marks.Slash ∷ Number piece.numbers.index ∷ Own marks.LabelClose ∷ []

-- a piece as one bar with its words
abbrev pub piece_parts : List Lane → PieceRow → List Part
piece_parts lanes piece =
    piece_name lanes piece
    ++ (ends_parts piece.ends
    ++ (piece_driving piece ++ (label_open piece.ends.span (lane_at lanes piece.duty.place).place ++ piece_label piece)))

abbrev pub pieces_text : Table → List Lane → List PieceRow → List ℕ
pieces_text table lanes pieces = flat_map (λ piece. written table (piece_parts lanes piece)) pieces

-- the number of a group stands at its first duty
abbrev pub group_parts : DutyRow → Lane → List Part
group_parts duty lane = share_parts marks.GroupBegin duty.group lane

abbrev pub duty_name : DutyRow → Lane → List Part
duty_name duty lane =
    Own marks.NameOpen ∷ Number lane.place ∷ Own marks.DutyName ∷ Number duty.number ∷ Own marks.TextClose ∷ Own marks.NameOpen ∷
    Number lane.place ∷ Own marks.SpreadName ∷ Lasting (length_of duty.span) ∷ Own marks.Driving ∷ Lasting duty.driving ∷
    Own marks.TextClose ∷ []

-- the name of a duty beside its lane
abbrev pub lane_name : DutyRow → Lane → List Part
lane_name duty lane = group_parts duty lane ++ duty_name duty lane

abbrev pub name_at : List Lane → ℕ × DutyRow → List Part
name_at lanes e = lane_name e.1 (lane_at lanes e.0)

abbrev pub names_text : Table → List Lane → List DutyRow → List ℕ
names_text table lanes duties = flat_map (λ e. written table (name_at lanes e)) (enumerate_from 0 duties)

abbrev pub groups_of : List DutyRow → List ℕ
groups_of duties = map (λ (duty : DutyRow). duty.group) duties

abbrev pub bar_parts : DutySheet → List Lane → List Part
bar_parts sheet lanes =
    flat_map (duty_at lanes) (enumerate_from 0 sheet.duties) ++ (all_pauses lanes sheet.pieces ++ flat_map (piece_parts lanes) sheet.pieces)

abbrev pub inner_parts : DutySheet → List Lane → Hours → List ℕ → List Part
inner_parts sheet lanes hours starts =
    bar_parts sheet lanes ++ (scale_parts hours starts (length sheet.duties) ++ flat_map (name_at lanes) (enumerate_from 0 sheet.duties))

-- the chart of the duties
abbrev pub chart_parts : DutySheet → Hours → List ℕ → List Part
chart_parts sheet hours starts =
    frame_parts hours starts (length sheet.duties)
    ++ (inner_parts sheet (lanes_by (groups_of sheet.duties)) hours starts ++ Own marks.ChartClose ∷ [])
