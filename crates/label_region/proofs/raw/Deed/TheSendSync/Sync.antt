use denote.RattleType.{RattleType}
use denote.Param.Send.{IsSync}
use Rattle.core.specs.declared.alloc.Allocator.{Ghosts}
use Rattle.label_region.proofs.Crossing.{deed_sync}
use Rattle.label_region.specs.contracts.raw.Deed.{the_row}

-- What `unsafe impl Sync for Deed` has to prove, of any labels and any allocator: a shared reference to a deed lends nothing, as
-- memory is given back only by the deed's owner. The proof is that of `deed_sync`.
pub sync : (R A : RattleType) (g : Ghosts A.Denot) → IsSync (the_row R A g)
sync = deed_sync
