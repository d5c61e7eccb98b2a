use Rattle.std.proofs.Common.{◌≡◌, ◌++◌, drop, map}
use Rattle.cert_check.specs.Judging.{new_piece as new_piece_of}
use Rattle.cert_check.proofs.printing.new_pieces.Given as goal

-- the numbers so far stand before those of the other pieces
abbrev pub invariant-loop-item : goal.invariant-loop-item
invariant-loop-item l =
    map (new_piece_of l.blocks l.pieces l.anew) l.items ≡ l.numbers.items
    ++ map (new_piece_of l.blocks l.pieces l.anew) (drop l.item-index l.items)
