use Rattle.std.proofs.Common.{◌≡◌, ◌++◌, false, drop}
use Rattle.std.specs.Option.{option_map}
use Rattle.vdv451_text.specs.FieldView.{text_after}
use Rattle.vdv451_text.proofs.pieces.closed_text.Given as goal

-- the text so far stands before that of what is left
abbrev pub invariant-loop-byte : goal.invariant-loop-byte
invariant-loop-byte l =
    text_after false l.bytes ≡ option_map (λ more. l.text.items ++ more) (text_after l.is_behind_quote (drop l.byte-index l.bytes))
