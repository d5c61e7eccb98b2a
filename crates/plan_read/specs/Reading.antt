-- Inner: what the rows of the five tables of a plan say.
use Rattle.std.specs.Prelude.{◌≡◌, ◌<◌, ◌^◌, ℕ, ℤ, nat_lt, List, [], ◌++◌, length, map, Option, Some, None, Result, Ok, Err}
use Rattle.vdv451_text.specs.declared.table.Table.{Table}
use Rattle.vdv452_rows.specs.Rows.{first, when}
use Rattle.number_tables.specs.Outlines.{Place, place, rows_of, whole_faults}
use Rattle.day_model.specs.Facts.{DayFacts}
use Rattle.umlauf_write.specs.declared.text.PlanText.{PlanText}
use Rattle.umlauf_write.specs.declared.text.PlanFault.{PlanFault}
use Rattle.umlauf_write.specs.declared.text.PlanFault.TheVariants as plan_faults
use Rattle.umlauf_write.specs.Reading as reading
use Rattle.plan_read.specs.declared.fault.PlanTable.TheVariants as tables
use Rattle.plan_read.specs.declared.fault.ReadFault.{ReadFault}
use Rattle.plan_read.specs.declared.fault.ReadFault.TheVariants.{Form, Memory}
use Rattle.plan_read.specs.declared.reading.PlanRows.{PlanRows}
use Rattle.plan_read.specs.declared.rows.Counts.{Counts}
use Rattle.plan_read.specs.Entries.{block_entry, bound_entry, duty_entry, part_entry, trip_entry}
use Rattle.plan_read.specs.Gathering.{blocks_said, duties_said}
use Rattle.plan_read.specs.Numbers.{pair_at, triple_at}
use Rattle.plan_read.specs.Places.{◌>>=◌, at, name_of, said, unless}
use Rattle.plan_read.specs.Told.{by_fid}

-- each table has fewer than 2^32 rows
pub record AreSized (rows : PlanRows) : Type 0 where
  pub trips : length rows.trips.rows.now < 2 ^ 32
  pub blocks : length rows.blocks.rows.now < 2 ^ 32
  pub duties : length rows.duties.rows.now < 2 ^ 32
  pub parts : length rows.parts.rows.now < 2 ^ 32
  pub bounds : length rows.bounds.rows.now < 2 ^ 32

-- a row of X_SCHRANKE may be missing
abbrev pub all_four : List ℕ → Result (Unit {0}) Place
all_four bounds = unless (when (nat_lt (length bounds) 4) (place (name_of tables.Bounds) 0)) tt

-- blocks and duties have a row each
abbrev pub counts_of : {A B : Type 0} → List A → List B → Counts
counts_of blocks duties = record { blocks = length blocks; duties = length duties }

-- the plan of the numbers of the rows of REC_FRT, X_UMLAUF, X_DIENST, X_DIENST_STUECK and X_SCHRANKE
abbrev pub numbers_said : DayFacts → Counts → List (List (Option ℤ)) → List (List (Option ℤ)) → List (List (Option ℤ)) →
    List (List (Option ℤ)) → List (List (Option ℤ)) → Result PlanText Place
numbers_said day counts trip_rows block_rows duty_rows part_rows bound_rows = do
  trips ← said (λ row. trip_entry (by_fid day.trips) counts) tables.Trips trip_rows
  classes ← said (block_entry day) tables.Blocks block_rows
  groups ← said (duty_entry day) tables.Duties duty_rows
  parts ← said (λ row. part_entry counts) tables.Parts part_rows
  bounds ← said bound_entry tables.Bounds bound_rows
  four ← all_four bounds
  Ok (record { blocks = record { columns = blocks_said trips classes }; duties = duties_said parts groups; bounds = bounds })

abbrev pub rows_said : DayFacts → PlanRows → Result PlanText Place
rows_said day rows =
    numbers_said day (counts_of rows.blocks.rows.now rows.duties.rows.now) (map (pair_at rows.trips.columns) rows.trips.rows.now)
    (map (pair_at rows.blocks.columns) rows.blocks.rows.now)
    (map (pair_at rows.duties.columns) rows.duties.rows.now) (map (triple_at rows.parts.columns) rows.parts.rows.now)
    (map (pair_at rows.bounds.columns) rows.bounds.rows.now)

-- the first of the five tables that is wrong as a whole
abbrev pub wholes : List Table → List Place
wholes tables =
    whole_faults reading.trips tables ++ whole_faults reading.blocks tables ++ whole_faults reading.duties tables
    ++ whole_faults reading.parts tables ++ whole_faults reading.bounds tables

-- no table is wrong as a whole, and the rows are those of the tables
pub record AreRows (rows : PlanRows) (tables : List Table) : Type 0 where
  pub sized : AreSized rows
  pub none : wholes tables ≡ []
  pub trips : rows_of reading.trips tables ≡ map (pair_at rows.trips.columns) rows.trips.rows.now
  pub blocks : rows_of reading.blocks tables ≡ map (pair_at rows.blocks.columns) rows.blocks.rows.now
  pub duties : rows_of reading.duties tables ≡ map (pair_at rows.duties.columns) rows.duties.rows.now
  pub parts : rows_of reading.parts tables ≡ map (triple_at rows.parts.columns) rows.parts.rows.now
  pub bounds : rows_of reading.bounds tables ≡ map (pair_at rows.bounds.columns) rows.bounds.rows.now

abbrev pub FindsRows : Result PlanRows ReadFault → List Table → Type 0
FindsRows (Ok rows) tables = AreRows rows tables
FindsRows (Err (Form p)) tables = first (wholes tables) ≡ Some (at p)
FindsRows (Err Memory) tables = Unit {0}

abbrev pub read_first : PlanText → Option Place → Result PlanText Place
read_first text None = Ok text
read_first text (Some p) = Err p

-- the plan of tables, or the first place where they are none
abbrev pub read_places : DayFacts → List Table → Result PlanText Place
read_places day tables = read_first (reading.said day tables) (first (reading.places_of day tables))

-- a fault with the name of its table, or running out of memory
abbrev pub IsNamed : ReadFault → PlanFault → Type 0
IsNamed (Form p) (plan_faults.Form table row) = (name_of p.table ≡ table) × (p.row ≡ row)
IsNamed Memory (plan_faults.Form table row) = ⊥
IsNamed fault plan_faults.Memory = Unit {0}
