use Rattle.std.proofs.Common.{◌∙◌, rules}
use Rattle.duty_rest.proofs.Found.{heads-more}
use Rattle.duty_rest.proofs.earlier.by_first.Goals as goal

pub loop-first-preserved : goal.loop-first-preserved
loop-first-preserved c =
    heads-more c.args.rows.now c.args.count c.loop-first.first c.loop-first.heads c.add_heads_at.new.heads (search rules)
    c.in_ok-add_heads_at.ensures ∙ c.loop-first.invariant
