-- Promise: what the two charts share: their frame, their hours, and the words for ends, labels, pools and groups.
use Rattle.std.specs.Prelude.{ℕ, ◌+◌, ◌-◌, ◌*◌, min, Bool, true, false, List, [], ◌∷◌, ◌++◌}
use Rattle.std.specs.List.{flat_map, range_with_len}
use Rattle.plan_core.specs.Limits.{most_items}
use Rattle.vdv451_text.specs.declared.table.Table.{Table}
use Rattle.chart_page.specs.declared.layout.Hours.{Hours}
use Rattle.chart_page.specs.declared.layout.Lane.{Lane}
use Rattle.chart_page.specs.declared.marks.Mark.{Mark}
use Rattle.chart_page.specs.declared.marks.Mark.TheVariants as marks
use Rattle.chart_page.specs.declared.parts.Part.{Part}
use Rattle.chart_page.specs.declared.parts.Part.TheVariants.{Own, Number, Clock, Lasting}
use Rattle.plan_rows.specs.declared.rows.Span.{Span}
use Rattle.plan_rows.specs.declared.rows.Ends.{Ends}
use Rattle.chart_page.specs.Parts.{written}

-- how long a span lasts
abbrev pub length_of : Span → ℕ
length_of span = span.end - span.begin

-- the lanes for which a chart of so many rows has room
abbrev pub room_of : ℕ → ℕ
room_of rows = min rows most_items

-- an hour is 90 pixels wide, a lane 26 high
abbrev pub wide_of : Hours → ℕ
wide_of hours = 90 * hours.count

-- the starts of the hours of a chart, and the end of the last
abbrev pub starts_of : Hours → List ℕ
starts_of hours = range_with_len hours.first (hours.count + 1)

abbrev pub open_parts : Hours → ℕ → List Part
open_parts hours rows =
    Own marks.ChartOpen ∷ Number (240 + wide_of hours) ∷ Own marks.Blank ∷ Number (30 + 26 * room_of rows) ∷ Own marks.WidthIs ∷
    Number (240 + wide_of hours) ∷ Own marks.HeightIs ∷ Number (30 + 26 * room_of rows) ∷ []

-- the field of the bars: a unit along is a second, a unit down is a lane
abbrev pub lanes_parts : Hours → ℕ → List Part
lanes_parts hours rows =
    Own marks.LanesOpen ∷ Number (wide_of hours) ∷ Own marks.HeightIs ∷ Number (26 * room_of rows) ∷ Own marks.ViewIs ∷
    Number (3600 * hours.first) ∷ Own marks.ZeroTop ∷ Number (3600 * hours.count) ∷ Own marks.Blank ∷ Number (room_of rows) ∷
    Own marks.LanesBegin ∷ []

abbrev pub grid_line : ℕ → ℕ → List Part
grid_line rows hour = Own marks.GridOpen ∷ Number (3600 * hour) ∷ Own marks.GridTo ∷ Number (room_of rows) ∷ Own marks.ShapeClose ∷ []

abbrev pub grid_text : Table → List ℕ → ℕ → List ℕ
grid_text table hours rows = flat_map (λ hour. written table (grid_line rows hour)) hours

abbrev pub hour_name : ℕ → ℕ → List Part
hour_name first hour =
    Own marks.HourOpen ∷ Number (240 + 90 * (hour - first)) ∷ Own marks.HourBegin ∷ Clock (min hour 1000000 * 3600)
    ∷ Own marks.TextClose ∷ []

abbrev pub hours_text : Table → List ℕ → ℕ → List ℕ
hours_text table hours first = flat_map (λ hour. written table (hour_name first hour)) hours

abbrev pub hours_open : Hours → List Part
hours_open hours = Own marks.HoursOpen ∷ Number (240 + wide_of hours) ∷ Own marks.HoursBegin ∷ []

abbrev pub names_open : ℕ → List Part
names_open rows =
    Own marks.NamesOpen ∷ Number (30 + 26 * room_of rows) ∷ Own marks.NamesLanes ∷ Number (26 * room_of rows) ∷ Own marks.NamesView ∷
    Number (room_of rows) ∷ Own marks.LanesBegin ∷ []

-- from when to when and from where to where
abbrev pub ends_parts : Ends → List Part
ends_parts ends =
    Clock ends.span.begin ∷ Own marks.To ∷ Clock ends.span.end ∷ Own marks.FromPoint ∷ Number ends.from.nr ∷ Own marks.OfType ∷
    Number ends.from.typ ∷ Own marks.ToPoint ∷ Number ends.to.nr ∷ Own marks.OfType ∷ Number ends.to.typ ∷ []

abbrev pub label_open : Span → ℕ → List Part
label_open span lane =
    Own marks.LabelOpen ∷ Number span.begin ∷ Own marks.WidthIs ∷ Number (length_of span) ∷ Own marks.LabelTop ∷ Number lane ∷
    Own marks.LabelBegin ∷ []

-- the line and the number of a pool or a group, whose name a constant of the page holds
abbrev pub share_name : Mark → ℕ → ℕ → List Part
share_name name number place =
    Own marks.ShareOpen ∷ Number place ∷ Own marks.PoolOpen ∷ Number place ∷ Own name ∷ Number number ∷ Own marks.TextClose ∷ []

abbrev pub share_by : Mark → ℕ → ℕ → Bool → List Part
share_by name number place true = share_name name number place
share_by name number place false = []

-- they stand at the first lane of the pool or group
abbrev pub share_parts : Mark → ℕ → Lane → List Part
share_parts name number lane = share_by name number lane.place lane.is_first

-- the frame of a chart before its bars, over the starts of its hours
abbrev pub frame_parts : Hours → List ℕ → ℕ → List Part
frame_parts hours starts rows = open_parts hours rows ++ (lanes_parts hours rows ++ flat_map (grid_line rows) starts)

-- what stands between the bars of a chart and the names of its lanes
abbrev pub scale_parts : Hours → List ℕ → ℕ → List Part
scale_parts hours starts rows = hours_open hours ++ (flat_map (hour_name hours.first) starts ++ names_open rows)
