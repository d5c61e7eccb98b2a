use Rattle.std.proofs.Common.{arith}
use Rattle.cover_core.proofs.Fits.{fit-at}
use Rattle.cover_master.proofs.turns.gains.Goals as goal

pub value-requires-clause-rises : goal.value-requires-clause-rises
value-requires-clause-rises c =
    (fit-at _ 32 c.args.pool.now c.loop-place.place c.index-pool-place.result (omega arith) c.index-pool-place.is c.requires.fit).rises

pub value-requires-clause-items : goal.value-requires-clause-items
value-requires-clause-items c =
    (fit-at _ 32 c.args.pool.now c.loop-place.place c.index-pool-place.result (omega arith) c.index-pool-place.is c.requires.fit).items

pub value-requires-clause-cheap : goal.value-requires-clause-cheap
value-requires-clause-cheap c =
    (fit-at _ 32 c.args.pool.now c.loop-place.place c.index-pool-place.result (omega arith) c.index-pool-place.is c.requires.fit).cheap
