use Rattle.std.proofs.Common.{refl, ◌∙◌}
use Rattle.price_rounds.proofs.Passes.{lowering_done}
use Rattle.price_rounds.proofs.passing.lowering_round.Goals as goal

pub returns : goal.returns
returns g c =
    lowering_done (g.P.Columns.problem c.args.pricer.now) c.args.effort.now.rounds c.args.done c.args.progress
    (record { pool = c.args.progress.pool; prices = c.lower_all.new.prices; kept = c.next_offer.new.kept })
    c.as_slice.result.now c.requires.progress (c.as_slice.ensures ∙ c.in_ok-columns.ensures.columns) c.lower_all.ensures.lowered
    refl c.in_ok-columns.ensures.kept
    (record { prices = c.lower_all.ensures.ready; pool = c.requires.progress.ready.pool; kept = c.in_ok-columns.ensures.offer })
