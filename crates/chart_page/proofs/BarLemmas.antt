-- The bars among the parts of a page.
use Rattle.std.proofs.Common.{◌≡◌, ℕ, ◌+◌, List, [], ◌∷◌, ◌++◌, length, map, Option, Some, None, Ok, Bool, true, false, refl, ap, ◌∙◌}
use Rattle.std.specs.List.{flat_map, enumerate_from}
use Rattle.std.proofs.lemmas.List.{append-nil}
use Rattle.std.proofs.lemmas.List.Elements.{filter_map-append}
use Rattle.vdv451_text.specs.declared.table.Table.{Table}
use Rattle.plan_rows.specs.declared.fault.PlanTable.TheVariants as which
use Rattle.plan_rows.specs.Tables.{sheet_of, table_of}
use Rattle.chart_page.specs.declared.layout.Hours.{Hours}
use Rattle.chart_page.specs.declared.layout.Lane.{Lane}
use Rattle.chart_page.specs.declared.marks.Mark.{Mark}
use Rattle.chart_page.specs.declared.marks.Mark.TheVariants as marks
use Rattle.chart_page.specs.declared.parts.Bar.{Bar}
use Rattle.chart_page.specs.declared.parts.Part.{Part}
use Rattle.plan_rows.specs.declared.rows.TripRow.{TripRow}
use Rattle.plan_rows.specs.declared.rows.VehicleRow.{VehicleRow}
use Rattle.plan_rows.specs.declared.rows.BlockRow.{BlockRow}
use Rattle.plan_rows.specs.declared.rows.LegRow.{LegRow}
use Rattle.plan_rows.specs.declared.rows.DutyRow.{DutyRow}
use Rattle.plan_rows.specs.declared.rows.PieceRow.{PieceRow}
use Rattle.plan_rows.specs.declared.rows.BoundRow.{BoundRow}
use Rattle.plan_rows.specs.declared.rows.Span.{Span}
use Rattle.plan_rows.specs.declared.sheet.BlockSheet.{BlockSheet}
use Rattle.plan_rows.specs.declared.sheet.DutySheet.{DutySheet}
use Rattle.plan_rows.specs.declared.sheet.Sheet.{Sheet}
use Rattle.chart_page.specs.Parts.{bar_in, bars_in, written}
use Rattle.chart_page.specs.Frame as frame
use Rattle.chart_page.specs.Blocks as blocks
use Rattle.chart_page.specs.Duties as duties
use Rattle.chart_page.specs.Duties.{duty_parts}
use Rattle.chart_page.specs.Page as page
use Rattle.chart_page.specs.Layout.{hours_of, lane_at, lanes_by}
use Rattle.chart_page.specs.Bars.{IsDrawn, duty_bar_at, duty_bars, leg_bars, pause_bar_by, pause_bars, pause_bars_from, pause_bars_of, piece_bars}

bars_append : (a b : List Part) → bars_in (a ++ b) ≡ bars_in a ++ bars_in b
bars_append a b = filter_map-append bar_in a b

-- parts without bars before others
none_before : (a b : List Part) → bars_in a ≡ [] → bars_in (a ++ b) ≡ bars_in b
none_before a b none = bars_append a b ∙ ap (λ (t : List Bar). t ++ bars_in b) none

-- parts without bars behind others
none_behind : (a b : List Part) → bars_in b ≡ [] → bars_in (a ++ b) ≡ bars_in a
none_behind a b none = bars_append a b ∙ ap (λ (t : List Bar). bars_in a ++ t) none ∙ append-nil (bars_in a)

-- items without bars
none_of : {X : Type 0} (f : X → List Part) → ((x : X) → bars_in (f x) ≡ []) → (xs : List X) → bars_in (flat_map f xs) ≡ []
none_of f none [] = refl
none_of f none (x ∷ xs) = none_before (f x) (flat_map f xs) (none x) ∙ none_of f none xs

-- Items with one bar each. With `none_of`, for items without bars, it splits a chart into stretches of parts: each has no bar, or one
-- for each row.
one_of : {X : Type 0} (f : X → List Part) (bar : X → Bar) → ((x : X) → bars_in (f x) ≡ bar x ∷ []) → (xs : List X) →
    bars_in (flat_map f xs) ≡ map bar xs
one_of f bar one [] = refl
one_of f bar one (x ∷ xs) =
    bars_append (f x) (flat_map f xs) ∙ ap (λ (t : List Bar). t ++ bars_in (flat_map f xs)) (one x)
    ∙ ap (λ (t : List Bar). bar x ∷ t) (one_of f bar one xs)

leg_name_none : (trips : List TripRow) (leg : LegRow) (trip : Option ℕ) → bars_in (blocks.work_name trips leg.work.kind trip) ≡ []
leg_name_none trips leg (Some place) = refl
leg_name_none trips leg None = refl

leg_label_none : (trips : List TripRow) (span : Span) (lane : ℕ) (trip : Option ℕ) →
    bars_in (blocks.work_label trips (frame.label_open span lane) trip) ≡ []
leg_label_none trips span lane (Some place) = refl
leg_label_none trips span lane None = refl

one_leg : (trips : List TripRow) (lanes : List Lane) (leg : LegRow) →
    bars_in (blocks.leg_parts trips lanes leg) ≡ blocks.leg_bar lanes leg ∷ []
one_leg trips lanes leg =
    ap (λ (t : List Bar). blocks.leg_bar lanes leg ∷ t)
    (none_before (blocks.leg_name trips leg) _ (leg_name_none trips leg leg.work.trip)
    ∙ leg_label_none trips leg.ends.span (lane_at lanes leg.block.place).place leg.work.trip)

grid_none : (rows : ℕ) (starts : List ℕ) → bars_in (flat_map (frame.grid_line rows) starts) ≡ []
grid_none rows starts = none_of (frame.grid_line rows) (λ hour. refl) starts

frame_none : (hours : Hours) (starts : List ℕ) (rows : ℕ) → bars_in (frame.frame_parts hours starts rows) ≡ []
frame_none hours starts rows = grid_none rows starts

scale_none : (hours : Hours) (starts : List ℕ) (rows : ℕ) → bars_in (frame.scale_parts hours starts rows) ≡ []
scale_none hours starts rows =
    none_before (flat_map (frame.hour_name hours.first) starts) (frame.names_open rows)
    (none_of (frame.hour_name hours.first) (λ hour. refl) starts)

share_none : (name : Mark) (number place : ℕ) (first : Bool) → bars_in (frame.share_by name number place first) ≡ []
share_none name number place true = refl
share_none name number place false = refl

typ_none : (typ : Option ℕ) → bar_in (blocks.typ_part typ) ≡ None
typ_none (Some typ) = refl
typ_none None = refl

block_name_none : (vehicles : List VehicleRow) (block : BlockRow) (lane : Lane) → bars_in (blocks.block_name vehicles block lane) ≡ []
block_name_none vehicles block lane = rw (typ_none (blocks.vehicle_of vehicles block.number)) refl

block_none : (vehicles : List VehicleRow) (lanes : List Lane) (e : ℕ × BlockRow) → bars_in (blocks.block_at vehicles lanes e) ≡ []
block_none vehicles lanes e =
    none_before (blocks.pool_parts e.1 (lane_at lanes e.0)) _ (share_none marks.PoolBegin e.1.pool (lane_at lanes e.0).place
    (lane_at lanes e.0).is_first)
    ∙ block_name_none vehicles e.1 (lane_at lanes e.0)

-- The chart of the blocks has one bar for each leg. It is put together of a frame, the legs, the scale and the names of the lanes. All
-- but the legs have no bar, so they may be taken away from before and behind, and the legs have one each.
pub block_chart_bars : (sheet : BlockSheet) (hours : Hours) (starts : List ℕ) →
    bars_in (blocks.chart_parts sheet hours starts) ≡ map (blocks.leg_bar (lanes_by (blocks.pools_of sheet.blocks))) sheet.legs
block_chart_bars sheet hours starts =
    let lanes = lanes_by (blocks.pools_of sheet.blocks) in
    let rows = length sheet.blocks in
    let inner = blocks.inner_parts sheet lanes hours starts in
    let names = flat_map (blocks.block_at sheet.vehicles lanes) (enumerate_from 0 sheet.blocks) in
    none_before (frame.frame_parts hours starts rows) _ (frame_none hours starts rows)
    ∙ none_behind inner _ refl
    ∙ none_behind (flat_map (blocks.leg_parts sheet.trips lanes) sheet.legs) (frame.scale_parts hours starts rows ++ names)
    (none_before (frame.scale_parts hours starts rows) names (scale_none hours starts rows)
    ∙ none_of (blocks.block_at sheet.vehicles lanes) (block_none sheet.vehicles lanes) (enumerate_from 0 sheet.blocks))
    ∙ one_of (blocks.leg_parts sheet.trips lanes) (blocks.leg_bar lanes) (one_leg sheet.trips lanes) sheet.legs

pause_one : (lane : ℕ) (between : Option Span) → bars_in (duties.pause_by lane between) ≡ pause_bar_by lane between
pause_one lane None = refl
pause_one lane (Some span) = refl

pauses_bars : (lanes : List Lane) (before : PieceRow) (pieces : List PieceRow) →
    bars_in (duties.pauses lanes before pieces) ≡ pause_bars_from lanes before pieces
pauses_bars lanes before [] = refl
pauses_bars lanes before (piece ∷ pieces) =
    bars_append (duties.pause_parts lanes before piece) (duties.pauses lanes piece pieces)
    ∙ ap (λ (t : List Bar). t ++ bars_in (duties.pauses lanes piece pieces))
    (pause_one (lane_at lanes piece.duty.place).place (duties.pause_between before piece))
    ∙ ap (λ (t : List Bar). pause_bar_by (lane_at lanes piece.duty.place).place (duties.pause_between before piece) ++ t)
    (pauses_bars lanes piece pieces)

all_pause_bars : (lanes : List Lane) (pieces : List PieceRow) → bars_in (duties.all_pauses lanes pieces) ≡ pause_bars_of lanes pieces
all_pause_bars lanes [] = refl
all_pause_bars lanes (first ∷ pieces) = pauses_bars lanes first pieces

name_none : (lanes : List Lane) (e : ℕ × DutyRow) → bars_in (duties.name_at lanes e) ≡ []
name_none lanes e = none_before
    (duties.group_parts e.1 (lane_at lanes e.0)) _ (share_none marks.GroupBegin e.1.group (lane_at lanes e.0).place
    (lane_at lanes e.0).is_first)

one_duty : (lanes : List Lane) (e : ℕ × DutyRow) → bars_in (duties.duty_at lanes e) ≡ duty_bar_at lanes e ∷ []
unfolding duty_parts
one_duty lanes e = refl

-- The chart of the duties has one bar for each duty, each pause and each piece. So it is here, but three stretches in the middle have
-- bars: the duties, the pauses and the pieces, in this order, so that what is later is drawn over what is earlier. A pause has a bar
-- where there is time between two pieces of one duty.
pub duty_chart_bars : (sheet : DutySheet) (hours : Hours) (starts : List ℕ) →
    bars_in (duties.chart_parts sheet hours starts) ≡ map (duty_bar_at (lanes_by (duties.groups_of sheet.duties)))
    (enumerate_from 0 sheet.duties)
    ++ (pause_bars_of (lanes_by (duties.groups_of sheet.duties)) sheet.pieces
    ++ map (duties.piece_bar (lanes_by (duties.groups_of sheet.duties))) sheet.pieces)
duty_chart_bars sheet hours starts =
    let lanes = lanes_by (duties.groups_of sheet.duties) in
    let rows = length sheet.duties in
    let inner = duties.inner_parts sheet lanes hours starts in
    let names = flat_map (duties.name_at lanes) (enumerate_from 0 sheet.duties) in
    let first = flat_map (duties.duty_at lanes) (enumerate_from 0 sheet.duties) in
    let last = flat_map (duties.piece_parts lanes) sheet.pieces in
    let pauses = duties.all_pauses lanes sheet.pieces in
    none_before (frame.frame_parts hours starts rows) _ (frame_none hours starts rows)
    ∙ none_behind inner _ refl
    ∙ none_behind (duties.bar_parts sheet lanes) (frame.scale_parts hours starts rows ++ names)
    (none_before (frame.scale_parts hours starts rows) names (scale_none hours starts rows)
    ∙ none_of (duties.name_at lanes) (name_none lanes) (enumerate_from 0 sheet.duties))
    ∙ bars_append first (pauses ++ last)
    ∙ ap (λ (t : List Bar). t ++ bars_in (pauses ++ last))
    (one_of (duties.duty_at lanes) (duty_bar_at lanes) (one_duty lanes) (enumerate_from 0 sheet.duties))
    ∙ ap (λ (t : List Bar). map (duty_bar_at lanes) (enumerate_from 0 sheet.duties) ++ t)
    (bars_append pauses last
    ∙ ap (λ (t : List Bar). t ++ bars_in last) (all_pause_bars lanes sheet.pieces)
    ∙ ap (λ (t : List Bar). pause_bars_of lanes sheet.pieces ++ t)
    (one_of (duties.piece_parts lanes) (duties.piece_bar lanes) (λ piece. refl) sheet.pieces))

distance_none : (distance : Option ℕ) → bars_in (page.distance_parts distance) ≡ []
distance_none (Some n) = refl
distance_none None = refl

bound_none : (row : BoundRow) → bars_in (page.bound_parts row) ≡ []
bound_none row = distance_none row.distance

head_none : (sheet : Sheet) → bars_in (page.head_parts sheet) ≡ []
head_none sheet = none_behind (flat_map page.bound_parts sheet.duties.bounds) _ refl
    ∙ none_of page.bound_parts bound_none sheet.duties.bounds

-- Each part that can be a bar stands in one chart, and there in the text of one row: the head, the scales and the names have none, and
-- the text of a leg, a duty or a piece has one, at its start and end. So the bars of a page are those of its rows, one by one.
pub page_bars : (sheet : Sheet) →
    bars_in (page.page_parts sheet) ≡ leg_bars sheet ++ (duty_bars sheet ++ (pause_bars sheet ++ piece_bars sheet))
page_bars sheet =
    let hours = hours_of sheet in
    let starts = frame.starts_of hours in
    let legs = blocks.chart_parts sheet.blocks hours starts in
    none_before (page.head_parts sheet) _ (head_none sheet)
    ∙ none_behind (page.charts_parts sheet hours starts) _ refl
    ∙ bars_append legs _
    ∙ ap (λ (t : List Bar). t ++ bars_in (duties.chart_parts sheet.duties hours starts)) (block_chart_bars sheet.blocks hours starts)
    ∙ ap (λ (t : List Bar). leg_bars sheet ++ t) (duty_chart_bars sheet.duties hours starts)

pub drawn_of : (tables : List Table) (table : Table) (sheet : Sheet) (bytes : List ℕ) → table_of which.Trips 3000 tables ≡ Ok table →
    sheet_of tables ≡ Ok sheet → bytes ≡ written table (page.page_parts sheet) → IsDrawn tables bytes
drawn_of tables table sheet bytes found said is =
    record { table = table; sheet = sheet; parts = page.page_parts sheet; found = found; said = said; bytes = is; bars = page_bars sheet }
