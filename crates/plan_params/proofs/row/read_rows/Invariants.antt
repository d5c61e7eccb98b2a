use Rattle.std.proofs.Common.{◌≡◌, ◌++◌, drop, map}
use Rattle.plan_params.proofs.row.read_rows.Given as goal

-- what is read and what is left to read are the whole
abbrev pub invariant-loop-row : goal.invariant-loop-row
invariant-loop-row g l = l.read.items ++ map g.T.TableRow.of_row (drop l.row-index l.rows) ≡ map g.T.TableRow.of_row l.rows
