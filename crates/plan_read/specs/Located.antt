-- Inner: the tables of a plan among others, and where their columns stand.
use Rattle.std.specs.Prelude.{◌≡◌, ◌<◌, ◌^◌, ℕ, ℤ, List, [], ◌∷◌, length, map, Option, Some, Result, Ok, Err}
use Rattle.vdv451_text.specs.declared.table.Field.{Field}
use Rattle.vdv451_text.specs.declared.table.Head.{Head}
use Rattle.vdv451_text.specs.declared.table.Table.{Table}
use Rattle.vdv452_rows.specs.Rows.{place_of}
use Rattle.number_tables.specs.Outlines.{Outline, rows_of, whole_faults}
use Rattle.number_tables.specs.Single.{single_in}
use Rattle.plan_read.specs.declared.fault.PlanTable.{PlanTable}
use Rattle.plan_read.specs.declared.fault.ReadFault.{ReadFault}
use Rattle.plan_read.specs.declared.fault.ReadFault.TheVariants.{Form, Memory}
use Rattle.plan_read.specs.declared.table.Pair.{Pair}
use Rattle.plan_read.specs.declared.table.PairRows.{PairRows}
use Rattle.plan_read.specs.declared.table.Triple.{Triple}
use Rattle.plan_read.specs.declared.table.TripleRows.{TripleRows}
use Rattle.plan_read.specs.Numbers.{pair_at, triple_at}
use Rattle.plan_read.specs.Places.{at, name_of}
use Rattle.plan_read.specs.Told.{◌>>=◌}

-- the table of a name, where it stands once
abbrev pub table_of : PlanTable → List Table → Option Table
table_of t tables = single_in (name_of t) tables

-- of two columns with one name the first counts
abbrev pub pair_of : List Head → List ℕ → List ℕ → Option Pair
pair_of heads one two = do
  first ← place_of one heads
  second ← place_of two heads
  Some (record { first = first; second = second })

abbrev pub triple_of : List Head → List ℕ → List ℕ → List ℕ → Option Triple
triple_of heads one two three = do
  first ← place_of one heads
  second ← place_of two heads
  third ← place_of three heads
  Some (record { first = first; second = second; third = third })

abbrev pub outline : PlanTable → List (List ℕ) → Outline
outline t columns = record { name = name_of t; columns = columns }

-- the table is wrong as a whole, or its rows have the numbers at the places of its columns
abbrev pub Finds : Outline → List Table → (List Field → List (Option ℤ)) → List (List Field) → Type 0
Finds o tables numbers rows = (whole_faults o tables ≡ []) × (rows_of o tables ≡ map numbers rows) × (length rows < 2 ^ 32)

abbrev pub FindsPair : Result PairRows ReadFault → PlanTable → List ℕ → List ℕ → List Table → Type 0
FindsPair (Ok found) t one two tables = Finds (outline t (one ∷ two ∷ [])) tables (pair_at found.columns) found.rows.now
FindsPair (Err (Form p)) t one two tables = whole_faults (outline t (one ∷ two ∷ [])) tables ≡ at p ∷ []
FindsPair (Err Memory) t one two tables = Unit {0}

abbrev pub FindsTriple : Result TripleRows ReadFault → PlanTable → List ℕ → List ℕ → List ℕ → List Table → Type 0
FindsTriple (Ok found) t one two three tables = Finds (outline t (one ∷ two ∷ three ∷ [])) tables (triple_at found.columns) found.rows.now
FindsTriple (Err (Form p)) t one two three tables = whole_faults (outline t (one ∷ two ∷ three ∷ [])) tables ≡ at p ∷ []
FindsTriple (Err Memory) t one two three tables = Unit {0}
