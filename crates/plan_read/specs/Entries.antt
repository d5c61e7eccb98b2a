-- Inner: what the rows of a plan's tables say.
use Rattle.std.specs.Prelude.{ℕ, ℤ, ◌+◌, ◌==◌, ◌&&◌, nat_lt, List, [], ◌∷◌, Option, Some, None, position, if◌then◌else◌}
use Rattle.std.specs.List.{list_any}
use Rattle.plan_params.specs.declared.rows.group.Group.{Group}
use Rattle.plan_params.specs.declared.rows.pool.Pool.{Pool}
use Rattle.day_model.specs.Facts.{DayFacts}
use Rattle.number_tables.specs.Outlines.{counted, word}
use Rattle.umlauf_write.specs.Reading.{Part, not_below, part, two}
use Rattle.plan_read.specs.declared.fault.PlanTable.{PlanTable}
use Rattle.plan_read.specs.declared.fault.PlanTable.TheVariants as tables
use Rattle.plan_read.specs.declared.fault.ReadFault.{ReadFault}
use Rattle.plan_read.specs.declared.own.Own.{Own}
use Rattle.plan_read.specs.declared.own.Own.TheVariants.{Blocks, Duties}
use Rattle.plan_read.specs.declared.rows.Counts.{Counts}
use Rattle.plan_read.specs.declared.told.Told.{Told}
use Rattle.plan_read.specs.Numbers.{is_own}
use Rattle.plan_read.specs.Places.{form_of}
use Rattle.plan_read.specs.Told.{◌>>=◌, trip_in}

-- the fault of a row, which is counted from 0
abbrev pub row_form : PlanTable → ℕ → ReadFault
row_form table row = form_of table (row + 1)

-- the first trip of a FRT_FID
abbrev pub trip_among : List Told → Option ℤ → Option ℕ
trip_among told number = do
  fid ← not_below number
  trip_in told fid

-- FRT_FID, UM_UID: the trip, and its block from 0
abbrev pub trip_entry : List Told → Counts → List (Option ℤ) → Option (ℕ × ℕ)
trip_entry told counts (fid ∷ uid ∷ []) = do
  trip ← trip_among told fid
  block ← counted counts.blocks uid
  Some (two trip block)
trip_entry told counts _ = None

-- the class of the first pool of a number
abbrev pub pool_class : List Pool → Option ℤ → Option ℕ
pool_class pools number = do
  n ← not_below number
  position (λ (pool : Pool). pool.number == n) pools

-- a number of 32 bits that is one of a group
abbrev pub group_number : List Group → Option ℤ → Option ℕ
group_number groups number = do
  n ← word number
  if list_any (λ (group : Group). group.number == n) groups then Some n else None

-- the table of the rows that stand each at the place of its number
abbrev pub table_for : Own → PlanTable
table_for Blocks = tables.Blocks
table_for Duties = tables.Duties

-- what such a row names: the class of a block's pool, or the number of a duty's group
abbrev pub own_value : Own → DayFacts → Option ℤ → Option ℕ
own_value Blocks day number = pool_class day.params.pools number
own_value Duties day number = group_number day.params.groups number

abbrev pub own_entry : Own → DayFacts → ℕ → List (Option ℤ) → Option ℕ
own_entry own day row (number ∷ value ∷ []) = if is_own row number then own_value own day value else None
own_entry own day row _ = None

-- UM_UID, HOF_NR: the class of the block's pool
abbrev pub block_entry : DayFacts → ℕ → List (Option ℤ) → Option ℕ
block_entry = own_entry Blocks

-- DIENST_NR, GRUPPE_NR: the number of the duty's group
abbrev pub duty_entry : DayFacts → ℕ → List (Option ℤ) → Option ℕ
duty_entry = own_entry Duties

-- DIENST_NR, UM_UID, STUECK_NR: the duty from 0, the block from 1 and the index
abbrev pub part_entry : Counts → List (Option ℤ) → Option Part
part_entry counts (duty ∷ uid ∷ index ∷ []) = do
  d ← counted counts.duties duty
  b ← counted counts.blocks uid
  i ← word index
  Some (part d (b + 1) i)
part_entry counts _ = None

-- ART, SCHRANKE: the bound of the pass that the row's place gives
abbrev pub bound_entry : ℕ → List (Option ℤ) → Option ℕ
bound_entry row (art ∷ bound ∷ []) = if nat_lt row 4 && is_own row art then not_below bound else None
bound_entry row _ = None
