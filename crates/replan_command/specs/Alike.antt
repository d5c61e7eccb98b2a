-- Promise: two days that are alike have the same texts and the same causes for a refusal, when they are planned anew.
use Rattle.std.specs.Prelude.{ℕ, List}
use Rattle.vdv451_text.specs.declared.table.Table.{Table}
use Rattle.cover_plan.specs.Endings.{Numbers}
use Rattle.day_model.specs.Facts.{DayFacts}
use Rattle.replan_command.specs.declared.fault.ReplanFault.{ReplanFault}
use Rattle.replan_command.specs.ReplanText.{IsReplanCauseOver, IsReplanTextOver}

-- a text of the one day is one of the other
abbrev pub HaveSameTexts : DayFacts → DayFacts → Type 0
HaveSameTexts one other =
    (old : List Table) (moment : ℕ) (numbers : Numbers) (table : Table) (bytes : List ℕ) →
    IsReplanTextOver one old moment numbers table bytes → IsReplanTextOver other old moment numbers table bytes

-- a cause for a refusal of the one day is one of the other
abbrev pub HaveSameCauses : DayFacts → DayFacts → Type 0
HaveSameCauses one other =
    (old : List Table) (moment : ℕ) (numbers : Numbers) (fault : ReplanFault) → IsReplanCauseOver one old moment numbers fault →
    IsReplanCauseOver other old moment numbers fault
