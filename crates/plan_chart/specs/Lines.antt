-- Promise: the line on standard error that each refusal has.
use Rattle.std.specs.Prelude.{ℕ, List, [], ◌∷◌, codes, decimal}
use Rattle.vdv451_text.specs.Names.{name_of as text_kind}
use Rattle.plan_rows.specs.Names.{name_of as table_name}
use Rattle.plan_chart.specs.declared.status.Status.{Status}
use Rattle.plan_chart.specs.declared.status.Status.TheVariants as statuses
use Rattle.input_files.specs.Lines.{joined}

-- The line of a refusal.
abbrev pub line_of : Status → List ℕ
line_of statuses.Ok = []
line_of statuses.Usage = codes "usage: planner-chart PLAN\n"
line_of (statuses.Text fault) = joined (codes "file 1 line " ∷ decimal fault.line ∷ codes ": " ∷ text_kind fault.kind ∷ codes "\n" ∷ [])
line_of (statuses.Form place) =
    joined (codes "table " ∷ table_name place.table ∷ codes " row " ∷ decimal place.row ∷ codes ": not drawn\n" ∷ [])
line_of statuses.ReadFault = codes "read fault: file 1\n"
line_of statuses.WriteFault = codes "write fault\n"
line_of statuses.Memory = codes "out of memory\n"
