use Rattle.std.proofs.Common.{◌≡◌, ◌++◌, drop}
use Rattle.vdv452_rows.specs.Found.{found_faults, found_key}
use Rattle.vdv452_rows.proofs.table.read_key.Given as goal

-- what is read and what is left to read are the whole key, and nothing is wrong so far
abbrev pub invariant-loop-entry : goal.invariant-loop-entry
invariant-loop-entry l = record {
  key : l.key.items ++ found_key (drop l.entry-index l.found) l.row ≡ found_key l.found l.row;
  wrong : found_faults l.table l.number l.row (drop l.entry-index l.found) ≡ found_faults l.table l.number l.row l.found;
}
