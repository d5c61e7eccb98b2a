-- Promise: what an answer says of the faults.
use Rattle.std.specs.Prelude.{◌≡◌, List, Some}
use Rattle.vdv452_rows.specs.declared.fault.TableFault.{TableFault}
use Rattle.vdv452_rows.specs.declared.fault.Refusal.{Refusal}
use Rattle.vdv452_rows.specs.declared.fault.Refusal.TheVariants.{Memory, Fault}
use Rattle.vdv452_rows.specs.Rows.{first}

-- a step gives up for running out of memory, or at the first of these faults
abbrev pub IsRefusal : List TableFault → Refusal → Type 0
IsRefusal faults Memory = Unit {0}
IsRefusal faults (Fault fault) = first faults ≡ Some fault
