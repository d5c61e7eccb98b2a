-- Promise: the chart of the blocks: their legs as bars, by pool.
use Rattle.std.specs.Prelude.{ℕ, ◌==◌, List, [], ◌∷◌, ◌++◌, length, map, find, Option, Some, None, unwrap_or, slice_get}
use Rattle.std.specs.List.{flat_map, enumerate_from}
use Rattle.std.specs.Option.{option_map}
use Rattle.plan_core.specs.declared.types.LegKind.{LegKind}
use Rattle.plan_core.specs.declared.types.LegKind.TheVariants as legs
use Rattle.vdv451_text.specs.declared.table.Table.{Table}
use Rattle.chart_page.specs.declared.layout.Hours.{Hours}
use Rattle.chart_page.specs.declared.layout.Lane.{Lane}
use Rattle.chart_page.specs.declared.marks.Mark.{Mark}
use Rattle.chart_page.specs.declared.marks.Mark.TheVariants as marks
use Rattle.chart_page.specs.declared.parts.Bar.{Bar}
use Rattle.chart_page.specs.declared.parts.BarKind.{BarKind}
use Rattle.chart_page.specs.declared.parts.BarKind.TheVariants as kinds
use Rattle.chart_page.specs.declared.parts.Part.{Part}
use Rattle.chart_page.specs.declared.parts.Part.TheVariants.{Own, Number, Shape, Variant}
use Rattle.plan_rows.specs.declared.rows.TripRow.{TripRow}
use Rattle.plan_rows.specs.declared.rows.VehicleRow.{VehicleRow}
use Rattle.plan_rows.specs.declared.rows.BlockRow.{BlockRow}
use Rattle.plan_rows.specs.declared.rows.LegRow.{LegRow}
use Rattle.plan_rows.specs.declared.sheet.BlockSheet.{BlockSheet}
use Rattle.chart_page.specs.Frame.{ends_parts, frame_parts, label_open, scale_parts, share_parts}
use Rattle.chart_page.specs.Layout.{lane_at, lanes_by}
use Rattle.chart_page.specs.Parts.{written}

abbrev pub bar_kind : LegKind → BarKind
bar_kind legs.PullOut = kinds.PullOut
bar_kind legs.Trip = kinds.Trip
bar_kind legs.Deadhead = kinds.Deadhead
bar_kind legs.Stand = kinds.Stand
bar_kind legs.PullIn = kinds.PullIn

abbrev pub kind_words : LegKind → Mark
kind_words legs.PullOut = marks.PullOutTitle
kind_words legs.Trip = marks.TripTitle
kind_words legs.Deadhead = marks.DeadheadTitle
kind_words legs.Stand = marks.StandTitle
kind_words legs.PullIn = marks.PullInTitle

-- The bar of a leg: from its start to its end, in the lane of its block.
abbrev pub leg_bar : List Lane → LegRow → Bar
leg_bar lanes leg = record {
  kind = bar_kind leg.work.kind;
  left = leg.ends.span.begin;
  right = leg.ends.span.end;
  lane = (lane_at lanes leg.block.place).place;
}

-- the trip at a place
abbrev pub trip_at : List TripRow → ℕ → TripRow
trip_at trips place = unwrap_or (slice_get trips place) (record { fid = 0; line = 0 })

abbrev pub trip_name : TripRow → ℕ → List Part
trip_name trip place =
    Own marks.DataTrip ∷ Number trip.fid ∷ Own marks.TripTitle ∷ Number trip.fid ∷ Own marks.OfLine ∷ Number trip.line ∷ Own marks.Blank ∷
    Variant place ∷ Own marks.Colon ∷ []

-- what names a leg: a trip by its number, line and variant, any other by its kind
abbrev pub work_name : List TripRow → LegKind → Option ℕ → List Part
work_name trips kind (Some place) = trip_name (trip_at trips place) place
work_name trips kind None = Own (kind_words kind) ∷ Own marks.Colon ∷ []

abbrev pub leg_name : List TripRow → LegRow → List Part
leg_name trips leg = work_name trips leg.work.kind leg.work.trip

abbrev pub leg_place : LegRow → List Part
leg_place leg =
    Own marks.InBlock ∷ Number leg.block.number ∷ Own marks.LegNumber ∷ Number leg.number ∷ Own marks.TitleClose ∷ []

abbrev pub trip_label : TripRow → ℕ → List Part
trip_label trip place =
    Number trip.fid ∷ Own marks.LabelNext ∷ Number trip.line ∷ Own marks.Blank ∷ Variant place ∷ Own marks.LabelClose ∷ []

-- the numbers within a bar: those of a trip
abbrev pub work_label : List TripRow → List Part → Option ℕ → List Part
work_label trips before (Some place) = before ++ trip_label (trip_at trips place) place
work_label trips before None = []

abbrev pub leg_label : List TripRow → List Lane → LegRow → List Part
leg_label trips lanes leg = work_label trips (label_open leg.ends.span (lane_at lanes leg.block.place).place) leg.work.trip

-- a leg as one bar with its words
abbrev pub leg_parts : List TripRow → List Lane → LegRow → List Part
leg_parts trips lanes leg =
    Shape (leg_bar lanes leg) ∷ [] ++ (leg_name trips leg ++ (ends_parts leg.ends ++ (leg_place leg ++ leg_label trips lanes leg)))

abbrev pub legs_text : Table → List TripRow → List Lane → List LegRow → List ℕ
legs_text table trips lanes legs = flat_map (λ leg. written table (leg_parts trips lanes leg)) legs

-- the number of a pool stands at its first block
abbrev pub pool_parts : BlockRow → Lane → List Part
pool_parts block lane = share_parts marks.PoolBegin block.pool lane

abbrev pub vehicle_of : List VehicleRow → ℕ → Option ℕ
vehicle_of vehicles number =
    option_map (λ (vehicle : VehicleRow). vehicle.typ) (find (λ (vehicle : VehicleRow). vehicle.number == number) vehicles)

abbrev pub typ_part : Option ℕ → Part
typ_part (Some typ) = Number typ
typ_part None = Own marks.NoVehicle

abbrev pub block_name : List VehicleRow → BlockRow → Lane → List Part
block_name vehicles block lane =
    Own marks.NameOpen ∷ Number lane.place ∷ Own marks.BlockName ∷ Number block.number ∷ Own marks.Cost
    ∷ Number block.cost ∷ Own marks.TextClose ∷
    Own marks.NameOpen ∷ Number lane.place ∷ Own marks.VehicleName ∷ typ_part (vehicle_of vehicles block.number) ∷ Own marks.TextClose ∷ []

abbrev pub block_parts : List VehicleRow → BlockRow → Lane → List Part
block_parts vehicles block lane = pool_parts block lane ++ block_name vehicles block lane

-- the names of the blocks, each beside its lane
abbrev pub block_at : List VehicleRow → List Lane → ℕ × BlockRow → List Part
block_at vehicles lanes e = block_parts vehicles e.1 (lane_at lanes e.0)

abbrev pub blocks_text : Table → List VehicleRow → List Lane → List BlockRow → List ℕ
blocks_text table vehicles lanes blocks = flat_map (λ e. written table (block_at vehicles lanes e)) (enumerate_from 0 blocks)

abbrev pub pools_of : List BlockRow → List ℕ
pools_of blocks = map (λ (block : BlockRow). block.pool) blocks

abbrev pub inner_parts : BlockSheet → List Lane → Hours → List ℕ → List Part
inner_parts sheet lanes hours starts =
    flat_map (leg_parts sheet.trips lanes) sheet.legs
    ++ (scale_parts hours starts (length sheet.blocks) ++ flat_map (block_at sheet.vehicles lanes) (enumerate_from 0 sheet.blocks))

-- the chart of the blocks
abbrev pub chart_parts : BlockSheet → Hours → List ℕ → List Part
chart_parts sheet hours starts =
    frame_parts hours starts (length sheet.blocks)
    ++ (inner_parts sheet (lanes_by (pools_of sheet.blocks)) hours starts ++ Own marks.ChartClose ∷ [])
