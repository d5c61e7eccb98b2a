use Rattle.std.proofs.Common.{◌≡◌, ◌++◌, drop}
use Rattle.chart_page.specs.Parts.{written}
use Rattle.chart_page.specs.Duties.{pauses}
use Rattle.chart_page.proofs.duties.push_pauses.Given as goal

-- what is written so far and what is left to write are the whole
abbrev pub invariant-loop-piece : goal.invariant-loop-piece
invariant-loop-piece l = l.out.items ++ written l.table (pauses l.lanes l.before (drop l.piece-index l.pieces)) ≡ l.initial.out.items
    ++ written l.table (pauses l.lanes l.fn.first l.pieces)
