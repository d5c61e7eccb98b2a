use Rattle.std.proofs.Common.{sym}
use Rattle.vdv451_text.proofs.HeadLemmas.{last_dropped, last_kept}
use Rattle.vdv451_text.proofs.heads.without_void.Goals as goal

pub returns-then-is_void : goal.returns-then-is_void
returns-then-is_void c =
    last_dropped c.args.pieces.now c.last-item.result c.in-len1-up.len_at_least c.last-item.is (sym c.if-is_void.ensures)

pub returns-else-is_void : goal.returns-else-is_void
returns-else-is_void c = last_kept c.args.pieces.now c.last-item.result c.in-len1-up.len_at_least c.last-item.is (sym c.if-is_void.ensures)
