-- Promise: the tables that a plan is read from, and the first place where they are wrong.
use Rattle.std.specs.Prelude.{◌≡◌, ℕ, ◌+◌, List, [], ◌∷◌, ◌++◌, Option, Some, None, Result, Ok, Err, codes}
use Rattle.number_tables.specs.Outlines.{Place as At, place}
use Rattle.umlauf_write.specs.declared.text.PlanText.{PlanText}
use Rattle.umlauf_write.specs.declared.text.PlanFault.{PlanFault}
use Rattle.umlauf_write.specs.declared.text.PlanFault.TheVariants as plan_faults
use Rattle.plan_read.specs.declared.fault.PlanTable.{PlanTable}
use Rattle.plan_read.specs.declared.fault.PlanTable.TheVariants.{Trips, Blocks, Duties, Parts, Bounds}
use Rattle.plan_read.specs.declared.fault.Place.{Place}
use Rattle.plan_read.specs.declared.fault.ReadFault.{ReadFault}
use Rattle.plan_read.specs.declared.fault.ReadFault.TheVariants.{Form, Memory}

abbrev pub name_of : PlanTable → List ℕ
name_of Trips = codes "REC_FRT"
name_of Blocks = codes "X_UMLAUF"
name_of Duties = codes "X_DIENST"
name_of Parts = codes "X_DIENST_STUECK"
name_of Bounds = codes "X_SCHRANKE"

abbrev pub form_of : PlanTable → ℕ → ReadFault
form_of table row = Form (record { table = table; row = row })

-- the place by the table's name
abbrev pub at : Place → At
at p = place (name_of p.table) p.row

-- what is made of an answer
infixl 10 ◌>>=◌
abbrev pub ◌>>=◌ : {A B : Type 0} → Result A At → (A → Result B At) → Result B At
(Ok x) >>= f = f x
(Err e) >>= f = Err e

-- what a function answered is what reading gives, unless memory ran out
abbrev pub Gives : {A : Type 0} → Result A ReadFault → Result A At → Type 0
Gives (Ok x) read = read ≡ Ok x
Gives (Err (Form p)) read = read ≡ Err (at p)
Gives (Err Memory) read = Unit {0}

-- the plan that was read, or its first fault, unless memory ran out
abbrev pub IsReadOf : Result PlanText PlanFault → Result PlanText PlanFault → Type 0
IsReadOf read (Ok text) = read ≡ Ok text
IsReadOf read (Err (plan_faults.Form table row)) = read ≡ Err (plan_faults.Form table row)
IsReadOf read (Err plan_faults.Memory) = Unit {0}

-- a value that is there where no place is wrong
abbrev pub unless : {A : Type 0} → List At → A → Result A At
unless [] x = Ok x
unless (p ∷ ps) x = Err p

-- what the rows give that each give one, behind what the rows before gave; rows are counted from 0
abbrev pub said_on : {A B : Type 0} → (ℕ → B → Option A) → PlanTable → List A → ℕ → List B → Result (List A) At
said_on entry table given row [] = Ok given
said_on entry table given row (x ∷ xs) = elim (entry row x) [
  | None ↦ Err (place (name_of table) (row + 1))
  | Some m ↦ said_on entry table (given ++ m ∷ []) (row + 1) xs
]

abbrev pub said : {A B : Type 0} → (ℕ → B → Option A) → PlanTable → List B → Result (List A) At
said entry table rows = said_on entry table [] 0 rows
