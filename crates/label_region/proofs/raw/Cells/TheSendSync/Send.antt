use denote.RattleType.{RattleType}
use denote.Param.Send.{IsSend}
use Rattle.label_region.proofs.Crossing.{cells_send}
use Rattle.label_region.specs.contracts.raw.Cells.{the_row}

-- What `unsafe impl Send for Cells` has to prove: where labels may go to another thread, so may their owner, though its mark is made
-- of a raw pointer. `Cells` has no bytes of its own and owns just the row of labels, which is tied to no thread; the proof is that
-- of `cells_send`.
pub send : (R : RattleType) → IsSend R → IsSend (the_row R)
send = cells_send
