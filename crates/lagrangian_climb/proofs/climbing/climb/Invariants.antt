use Rattle.std.proofs.Common.{length}
use Rattle.lagrangian_climb.specs.Climbs.{IsAscent}
use Rattle.lagrangian_climb.proofs.climbing.climb.Given as goal

abbrev pub invariant-loop-turn : goal.invariant-loop-turn
invariant-loop-turn l = IsAscent (length l.rest.fixed) (length l.rest.caps) (length l.pool) l.ascent
