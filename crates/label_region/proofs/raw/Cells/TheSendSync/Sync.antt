use denote.RattleType.{RattleType}
use denote.Param.Send.{IsSync}
use Rattle.label_region.proofs.Crossing.{cells_sync}
use Rattle.label_region.specs.contracts.raw.Cells.{the_row}

-- What `unsafe impl Sync for Cells` has to prove: where threads may share labels, they may share their owner, since a shared
-- reference to it lends labels and nothing else, and only reads them. The proof is that of `cells_sync`.
pub sync : (R : RattleType) → IsSync R → IsSync (the_row R)
sync = cells_sync
