use Rattle.vdv452_tables.proofs.indexing.moves_of.Goals as goal

pub returns : goal.returns
returns c = record {
  lengths = rw c.as_slice.ensures at c.in_ok-lengths.ensures;
  runs = rw c.as_slice-2.ensures at c.in_ok-runs.ensures;
}
