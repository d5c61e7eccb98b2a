-- Promise: the short text of the plan of a day.
use Rattle.std.specs.Prelude.{◌≡◌, ℕ, List, [], ◌∷◌, length, Option, Some, codes}
use Rattle.vdv451_text.specs.declared.table.Table.{Table}
use Rattle.vdv451_text.specs.Plain.{text}
use Rattle.number_tables.specs.Numbers.{number_table}
use Rattle.day_method.specs.Method.{SidePlan}
use Rattle.day_model.specs.Facts.{DayFacts}
use Rattle.block_cut.specs.Cuts.{pieces_of_plan}
use Rattle.umlauf_write.specs.Answers.{bound_table}
use Rattle.plan_command.specs.Planning.{Asked, IsDayPlan}
use Rattle.plan_command.specs.PlanText.{four_bounds}

-- X_KURZ.
abbrev pub count_columns : List (List ℕ)
count_columns = codes "FAHRTEN" ∷ codes "UMLAEUFE" ∷ codes "STUECKE" ∷ codes "DIENSTE" ∷ []

-- how many trips, blocks, pieces and duties there are
abbrev pub count_row : ℕ → ℕ → ℕ → ℕ → List (Option ℕ)
count_row trips blocks pieces duties = Some trips ∷ Some blocks ∷ Some pieces ∷ Some duties ∷ []

abbrev pub count_table : ℕ → ℕ → ℕ → ℕ → Table
count_table trips blocks pieces duties = number_table (codes "X_KURZ") count_columns (count_row trips blocks pieces duties ∷ [])

-- the counts of a plan, and its bounds
abbrev pub short_tables : DayFacts → SidePlan → SidePlan → List Table
short_tables facts blocks duties =
    count_table (length facts.trips) (length blocks.columns) (length (pieces_of_plan facts blocks.columns)) (length duties.columns) ∷
    bound_table blocks.columns duties.columns (four_bounds blocks duties) ∷ []

-- The short text of the plan of a day: the counts and the bounds of the blocks and duties that the method ends with. No worker occurs in
-- it, and no table that the trips were read from.
pub record IsShortTextOver (facts : DayFacts) (asked : Asked) (bytes : List ℕ) : Type 0 where
  pub blocks : SidePlan
  pub duties : SidePlan
  pub plan : IsDayPlan facts asked blocks duties
  pub written : bytes ≡ text (short_tables facts blocks duties)
