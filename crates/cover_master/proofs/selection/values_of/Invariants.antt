use Rattle.std.proofs.Common.{◌≡◌, ◌++◌, drop}
use Rattle.cover_master.specs.Candidates.{class_values}
use Rattle.cover_master.proofs.selection.values_of.Given as goal

abbrev pub invariant-loop-key : goal.invariant-loop-key
invariant-loop-key l = class_values l.class l.keys ≡ l.values.items ++ class_values l.class (drop l.key-index l.keys)
