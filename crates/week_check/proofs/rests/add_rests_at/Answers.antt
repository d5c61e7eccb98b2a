use Rattle.std.proofs.lemmas.Result.{on_ok_weaker}
use Rattle.week_check.proofs.Adding.{adds_then}
use Rattle.week_check.proofs.rests.add_rests_at.Goals as goal

pub returns : goal.returns
returns c = on_ok_weaker c.add_reduced.result
    (λ second. adds_then c.args.out.now.items c.add_short.new.out.items c.add_reduced.new.out.items _ _ c.in_ok-add_short.ensures second)
    c.add_reduced.ensures
