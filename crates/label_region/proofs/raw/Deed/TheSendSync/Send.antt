use denote.RattleType.{RattleType}
use denote.Param.Send.{IsSend, Frees}
use Rattle.core.specs.declared.alloc.Allocator.{Ghosts}
use Rattle.label_region.proofs.Crossing.{deed_send}
use Rattle.label_region.specs.contracts.raw.Deed.{the_row}

-- What `unsafe impl Send for Deed` has to prove: the right to free memory may go to another thread where the allocator takes its
-- memory back from any thread. A deed owns the allocator's token and no label, so nothing is asked of labels; the proof is that of
-- `deed_send`.
pub send : (R A : RattleType) (g : Ghosts A.Denot) → IsSend A → Frees g g.dealloc_token → IsSend (the_row R A g)
send R A g s = deed_send R A g
