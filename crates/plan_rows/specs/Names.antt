-- Promise: the names of the tables of a plan.
use Rattle.std.specs.Prelude.{ℕ, List, codes}
use Rattle.plan_rows.specs.declared.fault.PlanTable.{PlanTable}
use Rattle.plan_rows.specs.declared.fault.PlanTable.TheVariants as which

abbrev pub name_of : PlanTable → List ℕ
name_of which.Trips = codes "REC_FRT"
name_of which.Vehicles = codes "REC_UMLAUF"
name_of which.Blocks = codes "X_UMLAUF"
name_of which.Legs = codes "X_UMLAUF_TEIL"
name_of which.Duties = codes "X_DIENST"
name_of which.Pieces = codes "X_DIENST_STUECK"
name_of which.Bounds = codes "X_SCHRANKE"
