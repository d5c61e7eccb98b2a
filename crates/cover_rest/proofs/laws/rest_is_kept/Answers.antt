use Rattle.cover_rest.proofs.Kept.{rest-is-kept}
use Rattle.cover_rest.proofs.Rests.{kept-is-rest}
use Rattle.cover_rest.proofs.laws.rest_is_kept.Goals as goal

pub returns-clause-kept : goal.returns-clause-kept
returns-clause-kept g c = λ columns. rest-is-kept (g.C.Columns.problem columns)

pub returns-clause-all : goal.returns-clause-all
returns-clause-all g c = λ columns. kept-is-rest (g.C.Columns.problem columns) (g.met.C.Columns.listed columns)
