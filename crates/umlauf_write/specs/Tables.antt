-- Promise: the tables of a plan of blocks.
use Rattle.std.specs.Prelude.{ℕ, ◌+◌, ◌==◌, pos, Bool, List, ◌∷◌, Option, Some, None, codes, decimal, slice_index_or, slice_set, if◌then◌else◌, []}
use Rattle.std.specs.List.{list_any}
use Rattle.vdv451_text.specs.declared.table.Field.{Field}
use Rattle.vdv451_text.specs.declared.table.Field.TheVariants.{Num, Raw}
use Rattle.vdv451_text.specs.declared.table.Head.{Head}
use Rattle.vdv451_text.specs.declared.table.Table.{Table}
use Rattle.vdv451_text.specs.Fields.{is_num_format}
use Rattle.cover_core.specs.declared.Column.{Column}
use Rattle.plan_params.specs.declared.rows.pool.Pool.{Pool}
use Rattle.day_model.specs.Facts.{DayFacts}
use Rattle.number_tables.specs.Numbers.{number_table}

-- a value for each item, where the items are numbered from one on
abbrev pub numbered : {A B : Type 0} → (ℕ → A → B) → ℕ → List A → List B
numbered value number [] = []
numbered value number (item ∷ items) = value number item ∷ numbered value (number + 1) items

abbrev no_pool : Pool
no_pool = record { number = 0; depot = record { typ = 0; nr = 0 }; typ = 0; cap = 0; fixed = 0; dead_rate = 0; stand_rate = 0 }

-- the pool of a class
abbrev pub pool_of : DayFacts → ℕ → Pool
pool_of day class = slice_index_or day.params.pools class no_pool

abbrev pub block_columns : List (List ℕ)
block_columns =
    codes "BASIS_VERSION" ∷ codes "TAGESART_NR" ∷ codes "UM_UID" ∷ codes "ANF_ORT" ∷ codes "ANF_ONR_TYP" ∷ codes "END_ORT"
    ∷ codes "END_ONR_TYP" ∷ codes "FZG_TYP_NR" ∷ []

-- the version and day type of the day, the number of the block, where it begins and ends: at its pool's depot, and the type of its vehicle
abbrev pub block_numbers : DayFacts → ℕ → Pool → List (Option ℕ)
block_numbers day number pool =
    Some day.kind.version ∷ Some day.kind.kind ∷ Some number ∷ Some pool.depot.nr ∷ Some pool.depot.typ ∷ Some pool.depot.nr
    ∷ Some pool.depot.typ ∷ Some pool.typ ∷ []

abbrev pub block_row : DayFacts → ℕ → Column → List (Option ℕ)
block_row day number block = block_numbers day number (pool_of day block.class)

abbrev pub block_table : DayFacts → List Column → Table
block_table day blocks = number_table (codes "REC_UMLAUF") block_columns (numbered (block_row day) 1 blocks)

abbrev pub cost_columns : List (List ℕ)
cost_columns = codes "UM_UID" ∷ codes "HOF_NR" ∷ codes "KOSTEN" ∷ []

-- the number of the block, its pool and its cost
abbrev pub cost_numbers : ℕ → Pool → ℕ → List (Option ℕ)
cost_numbers number pool cost = Some number ∷ Some pool.number ∷ Some cost ∷ []

abbrev pub cost_row : DayFacts → ℕ → Column → List (Option ℕ)
cost_row day number block = cost_numbers number (pool_of day block.class) block.worth

abbrev pub cost_table : DayFacts → List Column → Table
cost_table day blocks = number_table (codes "X_UMLAUF") cost_columns (numbered (cost_row day) 1 blocks)

-- whether a trip is one of a block
abbrev pub is_in : ℕ → Column → Bool
is_in trip block = list_any (λ item. item == trip) block.items

-- the number of the first block that has a trip, where they are numbered from one on; 0 where none has it
abbrev pub block_of : ℕ → List Column → ℕ → ℕ
block_of number [] trip = 0
block_of number (block ∷ blocks) trip = if is_in trip block then number else block_of (number + 1) blocks trip

-- a block's number in a column of a format: a number in a column of numbers, else its bare digits
abbrev pub uid_field : List ℕ → ℕ → Field
uid_field format number = if is_num_format format then Num (pos number) else Raw (decimal number)

-- the format of the column at a place
abbrev pub format_at : List Head → ℕ → List ℕ
format_at heads place = (slice_index_or heads place (record { name = []; format = [] })).format

-- a row with the number of its block in the column UM_UID, at this place among the columns
abbrev pub with_uid : List Head → Option ℕ → List Field → ℕ → List Field
with_uid heads None row number = row
with_uid heads (Some place) row number = slice_set row place (uid_field (format_at heads place) number)
