use Rattle.std.proofs.Common.{◌≡◌, ◌++◌}
use Rattle.std.specs.Vec.Iter.{into_iter_items}
use Rattle.input_files.specs.Parts.{joined}
use Rattle.input_files.proofs.parts.join_tables.Given as goal

-- what is joined so far, and the tables of the files that are left, are those of all files
abbrev pub invariant-loop-part : goal.invariant-loop-part
invariant-loop-part l = l.tables.items ++ joined (into_iter_items l.part-iterator) ≡ joined l.fn.parts
