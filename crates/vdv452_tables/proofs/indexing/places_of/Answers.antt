use Rattle.vdv452_tables.proofs.indexing.places_of.Goals as goal

pub returns : goal.returns
returns c = record {
  kinds = rw c.as_slice.ensures at c.in_ok-kinds.ensures;
  points = rw c.as_slice-2.ensures at c.in_ok-points.ensures;
  types = rw c.as_slice-3.ensures at c.in_ok-types.ensures;
}
