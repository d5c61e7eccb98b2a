use Rattle.vdv452_tables.proofs.indexing.lines_of.Goals as goal

pub returns : goal.returns
returns c = record { areas = rw c.as_slice.ensures at c.in_ok-areas.ensures; courses = rw c.as_slice-2.ensures at c.in_ok-courses.ensures }
