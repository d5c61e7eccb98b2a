-- Promise: what a rounded pool is, and what a fault says of it.
use Rattle.std.specs.Prelude.{◌≡◌, ℕ, List}
use Rattle.plan_core.specs.declared.Price.{Price}
use Rattle.cover_core.specs.declared.Column.{Column}
use Rattle.cover_core.specs.Cover.{Problem}
use Rattle.column_pool.specs.Pools.{IsByValue}
use Rattle.plan_round.specs.declared.fault.RoundFault.{RoundFault}
use Rattle.plan_round.specs.declared.fault.RoundFault.TheVariants.{NotPlaced, Memory}
use Rattle.plan_round.specs.Rounding.{Rounded, left, rounded, picked}
use Rattle.plan_round.specs.Laws.{IsStuck}

-- rounding gives this where the pool's columns are gone through by value and place
pub record RoundsTo (p : Problem) (prices : List Price) (pool : List Column) (result : Rounded) : Type 0 where
  pub places : List ℕ
  pub by_value : IsByValue prices pool places
  pub is : rounded p (picked pool places) ≡ result

-- the item that rounding leaves, with the columns that it leaves it beside; these have no place for it
abbrev pub FaultIs : Problem → Rounded → RoundFault → Type 0
FaultIs p rounding (NotPlaced item partial) = (rounding ≡ left item partial.columns) × IsStuck p item partial.columns
FaultIs p rounding Memory = Unit {0}

-- the same of a pool
abbrev pub HasCause : Problem → List Price → List Column → RoundFault → Type 0
HasCause p prices pool (NotPlaced item partial) = RoundsTo p prices pool (left item partial.columns) × IsStuck p item partial.columns
HasCause p prices pool Memory = Unit {0}

-- there was no memory
abbrev pub IsMemory : RoundFault → Type 0
IsMemory fault = fault ≡ Memory
