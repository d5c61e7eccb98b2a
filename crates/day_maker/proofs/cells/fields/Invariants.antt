use Rattle.std.proofs.Common.{◌≡◌, ◌++◌, drop}
use Rattle.day_maker.specs.Limits.{AreSmall}
use Rattle.day_maker.specs.Made.{fields_of}
use Rattle.day_maker.proofs.cells.fields.Given as goal

-- the fields so far and those of the cells left are the row
abbrev pub invariant-loop-cell : goal.invariant-loop-cell
invariant-loop-cell l = record {
  made : l.row ++ fields_of (drop l.cell-index l.cells) ≡ fields_of l.cells;
  small : AreSmall (drop l.cell-index l.cells);
}
