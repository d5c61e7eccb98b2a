use Rattle.cover_plan.proofs.Once.{one_ending_by}
use Rattle.cover_plan.proofs.laws.ends_once.Goals as goal

pub returns : goal.returns
returns g c = λ counted costed numbers fixed known one other h k.
    one_ending_by (g.C.Columns.problem counted) (g.C.Columns.problem costed) numbers fixed known one other h k
