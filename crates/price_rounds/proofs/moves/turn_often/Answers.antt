use Rattle.std.proofs.Common.{List, length, ap, ◌∙◌, w64, to_z, of_z}
use Rattle.plan_core.specs.declared.Price.{Price}
use Rattle.price_rounds.proofs.Prices.{turned-length, turned_none, turned_more}
use Rattle.price_rounds.proofs.moves.turn_often.Goals as goal

pub loop-turn-init : goal.loop-turn-init
loop-turn-init g c = record {
  turned = turned_none c.args.pool.now (g.C.Columns.problem c.args.columns.now).caps (to_z w64 (of_z w64 c.args.size)) c.args.prices.items;
  ready = c.requires.prices;
}

pub loop-turn-preserved : goal.loop-turn-preserved
loop-turn-preserved g c = record {
  turned =
      turned_more c.loop-turn._turn c.args.pool.now c.as_slice.result.now (g.C.Columns.problem c.args.columns.now).caps c.args.caps.now
      (to_z w64 (of_z w64 c.args.size)) c.args.prices.items c.loop-turn.prices.items c.in_ok-prices.prices.items
      c.as_slice.ensures.value c.requires.caps c.loop-turn.invariant.turned c.in_ok-prices.ensures.turned;
  ready = (
    ap (λ (l : List Price). length l) c.in_ok-prices.ensures.turned
        ∙ (turned-length c.as_slice.result.now c.loop-turn.prices.items c.args.caps.now (to_z w64 (of_z w64 c.args.size))
        ∙ c.loop-turn.invariant.ready.0),
    c.in_ok-prices.ensures.moderate,
  );
}
