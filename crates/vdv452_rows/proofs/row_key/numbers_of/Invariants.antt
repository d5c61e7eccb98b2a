use Rattle.std.proofs.Common.{◌≡◌, ◌++◌, drop, length}
use Rattle.std.specs.Option.{option_map}
use Rattle.vdv452_rows.specs.RowKeys.{numbers_of as numbers_by}
use Rattle.vdv452_rows.proofs.row_key.numbers_of.Given as goal

-- the numbers so far stand before those of what is left
abbrev pub invariant-loop-cell : goal.invariant-loop-cell
invariant-loop-cell l = record {
  count : length l.numbers.items ≡ l.cell-index;
  numbers : numbers_by l.cells ≡ option_map (λ more. l.numbers.items ++ more) (numbers_by (drop l.cell-index l.cells));
}
