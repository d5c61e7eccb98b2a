use Rattle.std.proofs.Common.{◌≡◌}
use Rattle.std.specs.Option.{option_copied}
use Rattle.vdv451_text.specs.FewFields.{crowd_of}
use Rattle.vdv451_text.specs.FieldView.{size_left}
use Rattle.vdv451_text.specs.Lines.{fields_of}
use Rattle.vdv451_text.proofs.few.crowd_fault.Given as goal

-- what is wrong with all is what is wrong with what is left
abbrev pub invariant-loop-rest : goal.invariant-loop-rest
invariant-loop-rest l = crowd_of l.kind (fields_of (option_copied l.initial.rest)) ≡ crowd_of l.kind (fields_of (option_copied l.rest))

abbrev pub decreases-loop-rest : goal.decreases-loop-rest
decreases-loop-rest l = size_left (option_copied l.rest)
