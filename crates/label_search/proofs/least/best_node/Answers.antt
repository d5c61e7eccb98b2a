use Rattle.std.proofs.Common.{◌∙◌, arith, refl}
use Rattle.label_search.proofs.Bests.{best-step}
use Rattle.label_search.proofs.Sound.{AllSound-get}
use Rattle.label_search.proofs.least.best_node.Goals as goal

pub loop-place-preserved : goal.loop-place-preserved
loop-place-preserved g c = record {
  order = omega arith;
  best = c.better-best.ensures ∙
      best-step (g.W.Labels.close_of c.args.labels.now) c.loop-place.place c.loop-place.place c.args.stock.now.kept c.kept_at.result.now
      c.loop-place.best c.close-value.result
      (omega arith) c.kept_at.ensures refl c.close-value.ensures c.loop-place.invariant.best;
}

pub close-value-requires : goal.close-value-requires
close-value-requires g c =
    AllSound-get (g.W.Labels.sound c.args.labels.now) c.args.stock.now.kept c.loop-place.place c.kept_at.result.now c.requires.sound
    (omega arith) c.kept_at.ensures
