use Rattle.plan_params.proofs.indexes.indexes_of.Goals as goal

pub returns : goal.returns
returns c = record {
  lines = rw c.as_slice.ensures at c.in_ok-lines.ensures;
  admissions = rw c.as_slice-2.ensures at c.in_ok-admissions.ensures;
  reliefs = rw c.as_slice-3.ensures at c.in_ok-reliefs.ensures;
  ways = rw c.as_slice-4.ensures at c.in_ok-ways.ensures;
}
