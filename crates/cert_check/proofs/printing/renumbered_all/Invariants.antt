use Rattle.std.proofs.Common.{◌≡◌, ◌++◌, drop, map}
use Rattle.cert_check.specs.Judging.{renumbered as renumbered_of}
use Rattle.cert_check.proofs.printing.renumbered_all.Given as goal

-- the duties so far stand before the others
abbrev pub invariant-loop-duty : goal.invariant-loop-duty
invariant-loop-duty l =
    map (renumbered_of l.blocks l.pieces l.anew) l.duties
    ≡ l.made ++ map (renumbered_of l.blocks l.pieces l.anew) (drop l.duty-index l.duties)
