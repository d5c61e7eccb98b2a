use Rattle.std.proofs.Common.{length, arith}
use Rattle.cover_core.proofs.Fits.{fit-at}
use Rattle.lagrangian_climb.proofs.playing.in_play.Goals as goal

pub is_in_play-requires-clause-items : goal.is_in_play-requires-clause-items
is_in_play-requires-clause-items c =
    (fit-at (length c.args.fixed.now) (length c.args.caps.now) c.args.pool.now c.loop-place.place c.index-pool-place.result (omega arith)
    c.index-pool-place.is c.requires.fit).items

pub is_in_play-requires-clause-class : goal.is_in_play-requires-clause-class
is_in_play-requires-clause-class c =
    (fit-at (length c.args.fixed.now) (length c.args.caps.now) c.args.pool.now c.loop-place.place c.index-pool-place.result (omega arith)
    c.index-pool-place.is c.requires.fit).class
