-- Promise: which bars a page has, and what escaped text is.
use Rattle.std.specs.Prelude.{◌≡◌, ℕ, Bool, not, ◌==◌, ◌||◌, List, [], ◌∷◌, ◌++◌, map, Option, Some, None, Ok}
use Rattle.std.specs.List.{enumerate_from}
use Rattle.plan_core.specs.Limits.{most_items}
use Rattle.vdv451_text.specs.declared.table.Table.{Table}
use Rattle.plan_rows.specs.declared.fault.PlanTable.TheVariants as which
use Rattle.chart_page.specs.declared.layout.Lane.{Lane}
use Rattle.chart_page.specs.declared.parts.Bar.{Bar}
use Rattle.chart_page.specs.declared.parts.Part.{Part}
use Rattle.plan_rows.specs.declared.rows.Span.{Span}
use Rattle.plan_rows.specs.declared.rows.DutyRow.{DutyRow}
use Rattle.plan_rows.specs.declared.rows.PieceRow.{PieceRow}
use Rattle.plan_rows.specs.declared.sheet.Sheet.{Sheet}
use Rattle.chart_page.specs.Blocks.{leg_bar, pools_of}
use Rattle.chart_page.specs.Duties.{duty_bar, groups_of, pause_bar, pause_between, piece_bar}
use Rattle.chart_page.specs.Layout.{lane_at, lanes_by}
use Rattle.chart_page.specs.Parts.{bars_in, written}
use Rattle.plan_rows.specs.Tables.{sheet_of, table_of}

-- the lanes of the blocks, by pool, and of the duties, by group
abbrev pub block_lanes : Sheet → List Lane
block_lanes sheet = lanes_by (pools_of sheet.blocks.blocks)

abbrev pub duty_lanes : Sheet → List Lane
duty_lanes sheet = lanes_by (groups_of sheet.duties.duties)

-- one bar for each leg, in the order of their rows
abbrev pub leg_bars : Sheet → List Bar
leg_bars sheet = map (leg_bar (block_lanes sheet)) sheet.blocks.legs

-- one bar for each duty
abbrev pub duty_bar_at : List Lane → ℕ × DutyRow → Bar
duty_bar_at lanes e = duty_bar e.1 (lane_at lanes e.0)

abbrev pub duty_bars : Sheet → List Bar
duty_bars sheet = map (duty_bar_at (duty_lanes sheet)) (enumerate_from 0 sheet.duties.duties)

-- one bar for each piece, in the order of their rows
abbrev pub piece_bars : Sheet → List Bar
piece_bars sheet = map (piece_bar (duty_lanes sheet)) sheet.duties.pieces

-- one bar for each pause between neighbouring pieces
abbrev pub pause_bar_by : ℕ → Option Span → List Bar
pause_bar_by lane None = []
pause_bar_by lane (Some span) = pause_bar span lane ∷ []

abbrev pub pause_bars_from : List Lane → PieceRow → List PieceRow → List Bar
pause_bars_from lanes before [] = []
pause_bars_from lanes before (piece ∷ pieces) =
    pause_bar_by (lane_at lanes piece.duty.place).place (pause_between before piece) ++ pause_bars_from lanes piece pieces

abbrev pub pause_bars_of : List Lane → List PieceRow → List Bar
pause_bars_of lanes [] = []
pause_bars_of lanes (first ∷ pieces) = pause_bars_from lanes first pieces

abbrev pub pause_bars : Sheet → List Bar
pause_bars sheet = pause_bars_of (duty_lanes sheet) sheet.duties.pieces

-- The page is made of parts, and the bars among them are those of the legs, the duties, the pauses and the pieces, each once.
pub record IsDrawn (tables : List Table) (page : List ℕ) : Type 0 where
  pub table : Table
  pub sheet : Sheet
  pub parts : List Part
  pub found : table_of which.Trips most_items tables ≡ Ok table
  pub said : sheet_of tables ≡ Ok sheet
  pub bytes : page ≡ written table parts
  pub bars : bars_in parts ≡ leg_bars sheet ++ (duty_bars sheet ++ (pause_bars sheet ++ piece_bars sheet))

-- a byte that can begin or end markup, or an attribute's value
abbrev pub is_markup : ℕ → Bool
is_markup b = (b == 60) || ((b == 62) || ((b == 34) || (b == 39)))
