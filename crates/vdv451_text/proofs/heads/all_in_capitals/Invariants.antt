use Rattle.std.proofs.Common.{◌≡◌, ◌++◌, drop, map}
use Rattle.vdv451_text.specs.Machine.{capital}
use Rattle.vdv451_text.proofs.heads.all_in_capitals.Given as goal

abbrev pub invariant-loop-piece : goal.invariant-loop-piece
invariant-loop-piece l = map capital l.pieces ≡ l.names.items ++ map capital (drop l.piece-index l.pieces)
