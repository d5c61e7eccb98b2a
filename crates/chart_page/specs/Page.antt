-- Promise: the page: the values with their bounds, the chart of the blocks and the chart of the duties.
use Rattle.std.specs.Prelude.{◌≡◌, ℕ, ◌/◌, ◌%◌, List, [], ◌∷◌, ◌++◌, Option, Some, None, Result, Ok}
use Rattle.std.specs.List.{flat_map}
use Rattle.plan_core.specs.Limits.{most_items}
use Rattle.vdv451_text.specs.declared.table.Table.{Table}
use Rattle.plan_rows.specs.declared.fault.Place.{Place}
use Rattle.plan_rows.specs.declared.fault.PlanTable.TheVariants as which
use Rattle.chart_page.specs.declared.layout.Hours.{Hours}
use Rattle.chart_page.specs.declared.marks.Mark.{Mark}
use Rattle.chart_page.specs.declared.marks.Mark.TheVariants as marks
use Rattle.chart_page.specs.declared.parts.Part.{Part}
use Rattle.chart_page.specs.declared.parts.Part.TheVariants.{Own, Number}
use Rattle.plan_rows.specs.declared.rows.Pass.{Pass}
use Rattle.plan_rows.specs.declared.rows.Pass.TheVariants as passes
use Rattle.plan_rows.specs.declared.rows.BoundRow.{BoundRow}
use Rattle.plan_rows.specs.declared.sheet.Sheet.{Sheet}
use Rattle.chart_page.specs.Blocks as blocks
use Rattle.chart_page.specs.Duties as duties
use Rattle.chart_page.specs.Frame.{starts_of}
use Rattle.chart_page.specs.Layout.{hours_of}
use Rattle.chart_page.specs.Parts.{written}
use Rattle.plan_rows.specs.Tables.{◌>>=◌, sheet_of, table_of}

abbrev pub pass_words : Pass → Mark
pass_words passes.BlockNumber = marks.BlockNumber
pass_words passes.BlockCost = marks.BlockCost
pass_words passes.DutyNumber = marks.DutyNumber
pass_words passes.DutyCost = marks.DutyCost

-- thousandths as per cent with one decimal; a dash where the bound is 0
abbrev pub distance_parts : Option ℕ → List Part
distance_parts (Some n) = Number (n / 10) ∷ Own marks.Dot ∷ Number (n % 10) ∷ Own marks.PerCent ∷ Own marks.RowClose ∷ []
distance_parts None = Own marks.Dash ∷ Own marks.RowClose ∷ []

abbrev pub value_parts : BoundRow → List Part
value_parts row =
    Own marks.RowOpen ∷ Own (pass_words row.pass) ∷ Own marks.ValueOpen ∷ Number row.value ∷ Own marks.NextCell ∷ Number row.bound ∷
    Own marks.NextCell ∷ []

-- a value with its bound and their distance
abbrev pub bound_parts : BoundRow → List Part
bound_parts row = value_parts row ++ distance_parts row.distance

abbrev pub bounds_text : Table → List BoundRow → List ℕ
bounds_text table bounds = flat_map (λ row. written table (bound_parts row)) bounds

abbrev pub head_parts : Sheet → List Part
head_parts sheet =
    Own marks.Head ∷ Own marks.Style ∷ Own marks.Body ∷ [] ++ (flat_map bound_parts sheet.duties.bounds ++ Own marks.Blocks ∷ [])

abbrev pub charts_parts : Sheet → Hours → List ℕ → List Part
charts_parts sheet hours starts =
    blocks.chart_parts sheet.blocks hours starts ++ (Own marks.Duties ∷ [] ++ duties.chart_parts sheet.duties hours starts)

-- the parts of a page, over the hours of its charts and their starts
abbrev pub page_over : Sheet → Hours → List ℕ → List Part
page_over sheet hours starts =
    head_parts sheet ++ (charts_parts sheet hours starts ++ Own marks.Tail ∷ Own marks.Script ∷ Own marks.End ∷ [])

-- the parts of the page of a plan
abbrev pub page_parts : Sheet → List Part
page_parts sheet = page_over sheet (hours_of sheet) (starts_of (hours_of sheet))

-- The page of a plan, from the tables of its text, or the first place that is not drawn.
abbrev pub chart_of : List Table → Result (List ℕ) Place
chart_of tables = do
  table ← table_of which.Trips most_items tables
  sheet ← sheet_of tables
  Ok (written table (page_parts sheet))
