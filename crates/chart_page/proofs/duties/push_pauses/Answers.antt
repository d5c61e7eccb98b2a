use Rattle.chart_page.proofs.PauseLemmas.{pause_next, pauses_end}
use Rattle.chart_page.proofs.duties.push_pauses.Goals as goal

pub loop-piece-preserved : goal.loop-piece-preserved
loop-piece-preserved c =
    pause_next c.args.table.now c.args.lanes.now c.loop-piece.out.items c.push_pause.new.out.items _ c.loop-piece.before _ c.args.pieces.now
    c.loop-piece.piece-index
    c.loop-piece-test.true c.in_ok-push_pause.ensures c.loop-piece.invariant

pub returns : goal.returns
returns c =
    pauses_end c.args.table.now c.args.lanes.now c.loop-piece.out.items _ c.loop-piece.before c.args.pieces.now
    c.loop-piece.piece-index c.loop-piece-test.false
    c.loop-piece.invariant
