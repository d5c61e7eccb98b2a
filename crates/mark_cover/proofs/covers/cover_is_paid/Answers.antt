use Rattle.mark_cover.proofs.Paid.{cover-is-paid}
use Rattle.mark_cover.proofs.covers.cover_is_paid.Goals as goal

pub returns : goal.returns
returns g c = λ marks.
    let w = g.M.Marks in
    let laws = g.met.M.Marks in
    cover-is-paid (w.marking marks) (w.problem marks) (w.prices marks) (laws.ordered marks) (laws.placed marks) (laws.tied marks)
