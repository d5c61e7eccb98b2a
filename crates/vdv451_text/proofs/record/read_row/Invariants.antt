use Rattle.std.proofs.Common.{◌≡◌, ◌++◌, drop}
use Rattle.std.specs.Option.{option_copied}
use Rattle.vdv451_text.specs.Lines.{fields_of}
use Rattle.vdv451_text.specs.RowView.{ok_map, row_of}
use Rattle.vdv451_text.proofs.record.read_row.Given as goal

-- the values so far stand before those of what is left
abbrev pub invariant-loop-column : goal.invariant-loop-column
invariant-loop-column l =
    row_of l.columns (fields_of (option_copied l.initial.rest))
    ≡ ok_map (λ more. l.row.items ++ more) (row_of (drop l.column-index l.columns) (fields_of (option_copied l.rest)))
