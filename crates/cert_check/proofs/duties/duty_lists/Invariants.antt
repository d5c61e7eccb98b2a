use Rattle.std.proofs.Common.{◌≡◌, ◌++◌, map, drop}
use Rattle.cert_check.specs.Judging.{duty_list}
use Rattle.cert_check.proofs.duties.duty_lists.Given as goal

-- the lists so far, and those of the duties that are left
abbrev pub invariant-loop-duty : goal.invariant-loop-duty
invariant-loop-duty l = l.lists ++ map (duty_list l.groups l.pieces) (drop l.duty-index l.duties) ≡ map (duty_list l.groups l.pieces)
    l.duties
