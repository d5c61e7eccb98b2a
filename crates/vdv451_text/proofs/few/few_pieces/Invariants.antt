use Rattle.std.proofs.Common.{◌≡◌, ◌++◌, ◌≤◌, length}
use Rattle.std.specs.Option.{option_copied, option_map}
use Rattle.vdv451_text.specs.FieldView.{size_left}
use Rattle.vdv451_text.specs.Lines.{fields_of}
use Rattle.vdv451_text.proofs.few.few_pieces.Given as goal

-- the fields so far stand before those of what is left, and are few
abbrev pub invariant-loop-rest : goal.invariant-loop-rest
invariant-loop-rest l = record {
  whole : fields_of (option_copied l.initial.rest) ≡ option_map (λ more. l.pieces.items ++ more) (fields_of (option_copied l.rest));
  few : length l.pieces.items ≤ l.most;
}

abbrev pub decreases-loop-rest : goal.decreases-loop-rest
decreases-loop-rest l = size_left (option_copied l.rest)
