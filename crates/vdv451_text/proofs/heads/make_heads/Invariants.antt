use Rattle.std.proofs.Common.{◌≡◌, ◌++◌, drop, map}
use Rattle.vdv451_text.specs.Fields.{bytes_of}
use Rattle.vdv451_text.specs.Machine.{heads}
use Rattle.vdv451_text.proofs.heads.make_heads.Given as goal

abbrev pub invariant-loop-i : goal.invariant-loop-i
invariant-loop-i l = heads l.names (map bytes_of l.formats) ≡ l.columns.items
    ++ heads (drop l.i l.names) (map bytes_of (drop l.i l.formats))
