use Rattle.vdv452_tables.proofs.indexing.dwells_of.Goals as goal

pub returns : goal.returns
returns c = record { groups = rw c.as_slice.ensures at c.in_ok-groups.ensures; trips = rw c.as_slice-2.ensures at c.in_ok-trips.ensures }
