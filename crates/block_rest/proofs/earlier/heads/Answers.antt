use Rattle.std.proofs.Common.{◌∙◌, length, rules}
use Rattle.block_rest.proofs.Kept.{heads-more}
use Rattle.block_rest.proofs.earlier.heads.Goals as goal

pub loop-first-preserved : goal.loop-first-preserved
loop-first-preserved c =
    heads-more c.args.day.now c.args.moment c.as_slice-blocks.result.now (length c.args.day.now.trips) c.loop-first.first c.loop-first.heads
    c.add_heads_at.new.heads (search rules) c.in_ok-add_heads_at.ensures
    ∙ c.loop-first.invariant
