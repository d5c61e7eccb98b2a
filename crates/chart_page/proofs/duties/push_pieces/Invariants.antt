use Rattle.std.proofs.Common.{◌≡◌, ◌++◌, drop}
use Rattle.std.specs.List.{flat_map}
use Rattle.chart_page.specs.Parts.{written}
use Rattle.chart_page.specs.Duties.{piece_parts}
use Rattle.chart_page.proofs.duties.push_pieces.Given as goal

-- what is written so far and what is left to write are the whole
abbrev pub invariant-loop-piece : goal.invariant-loop-piece
invariant-loop-piece l = l.out.items ++ flat_map (λ piece. written l.table (piece_parts l.lanes piece)) (drop l.piece-index l.pieces)
    ≡ l.initial.out.items ++ flat_map (λ piece. written l.table (piece_parts l.lanes piece)) l.pieces
