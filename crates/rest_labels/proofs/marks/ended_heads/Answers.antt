use Rattle.std.proofs.Common.{Bool, List, length, ap, ◌∙◌}
use Rattle.std.proofs.lemmas.Result.{IfOk-weaker}
use Rattle.rest_labels.specs.Labels.{more_after}
use Rattle.rest_labels.proofs.Marked.{ends-follow, ends-length}
use Rattle.rest_labels.proofs.marks.ended_heads.Goals as goal

pub returns-clause-each : goal.returns-clause-each
returns-clause-each c =
    IfOk-weaker c.listed_ends.result _ _ (λ ended is. ap (λ (l : List Bool). length l) is ∙ ends-length c.args.heads.now)
    c.listed_ends.ensures

pub returns-clause-ended : goal.returns-clause-ended
returns-clause-ended c =
    IfOk-weaker c.listed_ends.result _ _ (λ ended is x. ap (λ l. more_after l x) is ∙ ends-follow c.args.heads.now x) c.listed_ends.ensures
