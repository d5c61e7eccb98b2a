-- Promise: what the tables of a plan say, or the first place where they say nothing.
use Rattle.std.specs.Prelude.{ℕ, ℤ, pos, negsuc, ◌+◌, nat_eq, nat_lt, List, [], ◌∷◌, ◌++◌, length, map, Option, Some, None, Result, Ok, Err, if◌then◌else◌, option_and_then, codes}
use Rattle.std.specs.Option.{option_map}
use Rattle.std.specs.List.{filter_map, range_with_len}
use Rattle.vdv451_text.specs.declared.table.Table.{Table}
use Rattle.vdv452_rows.specs.Rows.{when, first}
use Rattle.number_tables.specs.Outlines.{Outline, Place, place, rows_of, whole_faults, entry_faults, given_of, counted, up_to, word, class_among}
use Rattle.cover_core.specs.declared.Column.{Column}
use Rattle.trip_times.specs.declared.trip.Trip.{Trip}
use Rattle.plan_params.specs.declared.rows.group.Group.{Group}
use Rattle.plan_params.specs.declared.rows.pool.Pool.{Pool}
use Rattle.day_model.specs.Facts.{DayFacts}
use Rattle.umlauf_write.specs.declared.text.DutyRow.{DutyRow}
use Rattle.umlauf_write.specs.declared.text.PlanText.{PlanText}
use Rattle.umlauf_write.specs.declared.text.PlanFault.{PlanFault}
use Rattle.umlauf_write.specs.declared.text.PlanFault.TheVariants.{Form}

abbrev pub trips : Outline
trips = record { name = codes "REC_FRT"; columns = codes "FRT_FID" ∷ codes "UM_UID" ∷ [] }

abbrev pub blocks : Outline
blocks = record { name = codes "X_UMLAUF"; columns = codes "UM_UID" ∷ codes "HOF_NR" ∷ [] }

abbrev pub duties : Outline
duties = record { name = codes "X_DIENST"; columns = codes "DIENST_NR" ∷ codes "GRUPPE_NR" ∷ [] }

abbrev pub parts : Outline
parts = record { name = codes "X_DIENST_STUECK"; columns = codes "DIENST_NR" ∷ codes "UM_UID" ∷ codes "STUECK_NR" ∷ [] }

abbrev pub bounds : Outline
bounds = record { name = codes "X_SCHRANKE"; columns = codes "ART" ∷ codes "SCHRANKE" ∷ [] }

-- the numbers by which the rows of a plan name trips, pools and groups, and how many blocks and duties it has
pub record Numbers : Type 0 where
  pub fids : List ℕ
  pub pools : List ℕ
  pub groups : List ℕ
  pub blocks : ℕ
  pub duties : ℕ

abbrev pub numbers_of : DayFacts → List Table → Numbers
numbers_of day tables = record {
  fids = map (λ (trip : Trip). trip.fid) day.trips;
  pools = map (λ (pool : Pool). pool.number) day.params.pools;
  groups = map (λ (group : Group). group.number) day.params.groups;
  blocks = length (rows_of blocks tables);
  duties = length (rows_of duties tables);
}

-- two numbers
abbrev pub two : ℕ → ℕ → ℕ × ℕ
two a b = (a, b)

-- a duty, and a part by block and index
abbrev pub Part : Type 0
Part = ℕ × (ℕ × ℕ)

abbrev pub part : ℕ → ℕ → ℕ → Part
part duty block index = (duty, two block index)

-- FRT_FID, UM_UID: the trip, and its block from 0
abbrev pub trip_entry : Numbers → List (Option ℤ) → Option (ℕ × ℕ)
trip_entry n (fid ∷ uid ∷ []) =
    option_and_then (λ trip. option_map (λ block. two trip block) (counted n.blocks uid)) (class_among n.fids fid)
trip_entry n _ = None

-- whether a number is that of its row, which is counted from 0
abbrev pub own_number : ℕ → Option ℤ → Option ℕ
own_number row z = option_and_then (λ m. if nat_eq m row then Some m else None) (counted (row + 1) z)

-- UM_UID, HOF_NR: the class of the block's pool
abbrev pub block_entry : Numbers → ℕ → List (Option ℤ) → Option ℕ
block_entry n row (uid ∷ pool ∷ []) = option_and_then (λ own. class_among n.pools pool) (own_number row uid)
block_entry n row _ = None

-- a number of 32 bits that stands among others
abbrev pub number_among : List ℕ → Option ℤ → Option ℕ
number_among ms z = option_and_then (λ place. up_to 4294967295 z) (class_among ms z)

-- DIENST_NR, GRUPPE_NR: the number of the duty's group
abbrev pub duty_entry : Numbers → ℕ → List (Option ℤ) → Option ℕ
duty_entry n row (duty ∷ group ∷ []) = option_and_then (λ own. number_among n.groups group) (own_number row duty)
duty_entry n row _ = None

-- DIENST_NR, UM_UID, STUECK_NR: the duty from 0, the block from 1 and the index
abbrev pub part_entry : Numbers → List (Option ℤ) → Option Part
part_entry n (duty ∷ uid ∷ index ∷ []) =
    option_and_then (λ d. option_and_then (λ b. option_map (λ i. part d (b + 1) i) (word index)) (counted n.blocks uid))
    (counted n.duties duty)
part_entry n _ = None

-- a number that is not below 0
abbrev pub not_below : Option ℤ → Option ℕ
not_below None = None
not_below (Some (pos n)) = Some n
not_below (Some (negsuc n)) = None

-- ART, SCHRANKE: the bound of the pass that the row's place gives
abbrev pub bound_entry : ℕ → List (Option ℤ) → Option ℕ
bound_entry row (art ∷ bound ∷ []) = option_and_then (λ own. not_below bound) (if nat_lt row 4 then own_number row art else None)
bound_entry row _ = None

-- an entry for each row, which are counted on from this one
abbrev pub entries_from : {A B : Type 0} → (ℕ → A → B) → ℕ → List A → List B
entries_from entry row [] = []
entries_from entry row (x ∷ xs) = entry row x ∷ entries_from entry (row + 1) xs

abbrev pub trip_entries : Numbers → List Table → List (Option (ℕ × ℕ))
trip_entries n tables = map (trip_entry n) (rows_of trips tables)

abbrev pub block_entries : Numbers → List Table → List (Option ℕ)
block_entries n tables = entries_from (block_entry n) 0 (rows_of blocks tables)

abbrev pub duty_entries : Numbers → List Table → List (Option ℕ)
duty_entries n tables = entries_from (duty_entry n) 0 (rows_of duties tables)

abbrev pub part_entries : Numbers → List Table → List (Option Part)
part_entries n tables = map (part_entry n) (rows_of parts tables)

abbrev pub bound_entries : List Table → List (Option ℕ)
bound_entries tables = entries_from bound_entry 0 (rows_of bounds tables)

-- All places where tables are no plan: first the tables as wholes, then their rows, and at last a row of X_SCHRANKE that is missing.
abbrev pub places_of : DayFacts → List Table → List Place
places_of day tables =
    let n = numbers_of day tables in
    whole_faults trips tables ++ whole_faults blocks tables ++ whole_faults duties tables ++ whole_faults parts tables
    ++ whole_faults bounds tables ++
    entry_faults trips.name 1 (trip_entries n tables) ++ entry_faults blocks.name 1 (block_entries n tables)
    ++ entry_faults duties.name 1 (duty_entries n tables) ++
    entry_faults parts.name 1 (part_entries n tables) ++ entry_faults bounds.name 1 (bound_entries tables) ++
    when (nat_lt (length (rows_of bounds tables)) 4) (place bounds.name 0)

-- the trips of a block, in the order of their rows
abbrev pub trips_in : ℕ → List (ℕ × ℕ) → List ℕ
trips_in block entries = filter_map (λ e. if nat_eq e.1 block then Some e.0 else None) entries

-- the parts of a duty, in the order of their rows
abbrev pub parts_in : ℕ → List Part → List (ℕ × ℕ)
parts_in duty entries = filter_map (λ e. if nat_eq e.0 duty then Some e.1 else None) entries

-- the block of a row, with the worth 0
abbrev pub block_said : List (ℕ × ℕ) → ℕ → ℕ → Column
block_said entries block class = record { class = class; worth = 0; items = trips_in block entries }

abbrev pub duty_said : List Part → ℕ → ℕ → DutyRow
duty_said entries duty group = record { group = group; parts = parts_in duty entries }

-- what the tables say of blocks, duties and bounds
abbrev pub said : DayFacts → List Table → PlanText
said day tables =
    let n = numbers_of day tables in
    record {
      blocks = record { columns = entries_from (block_said (given_of (trip_entries n tables))) 0 (given_of (block_entries n tables)) };
      duties = entries_from (duty_said (given_of (part_entries n tables))) 0 (given_of (duty_entries n tables));
      bounds = given_of (bound_entries tables);
    }

abbrev pub read_or : PlanText → Option Place → Result PlanText PlanFault
read_or text None = Ok text
read_or text (Some p) = Err (Form p.0 p.1)

-- the plan that tables stand for, or the first place where they stand for none
abbrev pub read_of : DayFacts → List Table → Result PlanText PlanFault
read_of day tables = read_or (said day tables) (first (places_of day tables))
