use Rattle.std.proofs.Common.{◌≡◌, ◌++◌, drop, map}
use Rattle.vdv452_rows.specs.Outlines.{column_of}
use Rattle.vdv452_rows.proofs.schema.all_copied.Given as goal

-- what is copied and what is left to copy are the whole
abbrev pub invariant-loop-outline : goal.invariant-loop-outline
invariant-loop-outline l = l.columns.items ++ map column_of (drop l.outline-index l.outlines) ≡ map column_of l.outlines
