use Rattle.vdv452_tables.proofs.indexing.indexes_of.Goals as goal

pub returns : goal.returns
returns c = record {
  places = c.in_ok-places.ensures;
  lines = c.in_ok-lines.ensures;
  moves = c.in_ok-moves.ensures;
  dwells =
      c.in_ok-dwells.ensures;
}
