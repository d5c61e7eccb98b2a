use Rattle.std.proofs.Common.{length}
use Rattle.cover_core.proofs.Fits.{AreFit-wider}
use Rattle.lagrangian_climb.proofs.climbing.turn.Goals as goal

pub go_on-requires-clause-fit : goal.go_on-requires-clause-fit
go_on-requires-clause-fit c =
    AreFit-wider (length c.args.rest.now.fixed) (length c.args.rest.now.caps) 32 c.args.pool.now c.requires.classes c.requires.fit
