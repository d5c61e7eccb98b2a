use Rattle.std.proofs.Common.{Bool, List, length, ap, ◌∙◌}
use Rattle.std.proofs.lemmas.Result.{IfOk-weaker}
use Rattle.cover_rest.specs.Rest.{body_at}
use Rattle.rest_labels.specs.Labels.{is_set}
use Rattle.rest_labels.proofs.Marked.{starts-length, starts-start}
use Rattle.rest_labels.proofs.marks.starting_items.Goals as goal

pub returns-clause-each : goal.returns-clause-each
returns-clause-each c =
    IfOk-weaker c.listed_starts.result _ _ (λ starts is. ap (λ (l : List Bool). length l) is
    ∙ starts-length c.args.class c.args.heads.now c.args.free.now) c.listed_starts.ensures

pub returns-clause-starts : goal.returns-clause-starts
returns-clause-starts c = λ bs may x there same.
    IfOk-weaker c.listed_starts.result _ _ (λ starts is.
    ap (λ l. is_set l x) is ∙ starts-start c.args.class c.args.heads.now c.args.free.now may (body_at bs x) x there same)
    c.listed_starts.ensures
