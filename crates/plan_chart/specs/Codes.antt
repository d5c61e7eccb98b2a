-- Promise: the numbers of statuses.
use Rattle.std.specs.Prelude.{ℕ}
use Rattle.plan_chart.specs.declared.status.Status.{Status}
use Rattle.plan_chart.specs.declared.status.Status.TheVariants as statuses

abbrev pub code_of : Status → ℕ
code_of statuses.Ok = 0
code_of statuses.Usage = 2
code_of (statuses.Text fault) = 3
code_of (statuses.Form place) = 3
code_of statuses.ReadFault = 7
code_of statuses.WriteFault = 8
code_of statuses.Memory = 9
