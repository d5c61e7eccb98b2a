use Rattle.std.specs.Prelude.{◌≡◌, replicate}
use Rattle.path_cover.proofs.least.list_of_one_value.Given as goal

abbrev pub invariant-loop-i : goal.invariant-loop-i
invariant-loop-i g l = l.list.items ≡ replicate l.i l.value
