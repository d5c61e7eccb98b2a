use Rattle.path_pricing.specs.Rows.{IsRowCopied}
use Rattle.path_pricing.proofs.rows.copy_row.Given as goal

-- the places that are passed are copied
abbrev pub invariant-loop-place : goal.invariant-loop-place
invariant-loop-place l = IsRowCopied l.initial.cells.items l.cells.items l.base l.width l.place
