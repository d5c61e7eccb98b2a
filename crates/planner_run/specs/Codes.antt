-- Promise: the number of each status.
use Rattle.std.specs.Prelude.{ℕ}
use Rattle.planner_run.specs.declared.status.Status.{Status}
use Rattle.planner_run.specs.declared.status.Status.TheVariants as statuses

abbrev pub code_of : Status → ℕ
code_of statuses.Ok = 0
code_of statuses.Usage = 2
code_of (statuses.Input fault) = 3
code_of (statuses.Day fault) = 4
code_of (statuses.NoPlan side bound places) = 5
code_of (statuses.NotPlaced side item name partial) = 6
code_of (statuses.ReadFault file) = 7
code_of statuses.WriteFault = 8
code_of (statuses.CheckNo reason) = 10
code_of (statuses.OldPlan reason) = 11
code_of statuses.Memory = 9
