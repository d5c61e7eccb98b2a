-- Inner: the fields of a line one after another.
use Rattle.std.specs.Prelude.{ℕ, ◌+◌, Bool, true, false, ◌==◌, List, [], ◌∷◌, length, Option, Some, None, Result, Ok, Err, if◌then◌else◌}
use Rattle.std.specs.Option.{option_map}
use Rattle.vdv451_text.specs.declared.fault.TextKind.{TextKind}
use Rattle.vdv451_text.specs.declared.fault.TextKind.TheVariants as kinds
use Rattle.vdv451_text.specs.Lines.{Piece}

-- how much is left to read
abbrev pub size_left : Option (List ℕ) → ℕ
size_left None = 0
size_left (Some bytes) = length bytes + 1

-- a field before further ones; one broken field breaks all
abbrev pub with_piece : Option Piece → Option (List Piece) → Option (List Piece)
with_piece None more = None
with_piece (Some piece) more = option_map (λ pieces. piece ∷ pieces) more

-- what is broken is a wrong field
abbrev pub field_or_fault : {A : Type 0} → Option A → Result A TextKind
field_or_fault None = Err kinds.Field
field_or_fault (Some x) = Ok x

-- the text of a quoted field byte by byte, by whether a quote stands right before
abbrev pub text_after : Bool → List ℕ → Option (List ℕ)
text_after false [] = None
text_after true [] = Some []
text_after false (b ∷ bytes) = if b == 34 then text_after true bytes else option_map (λ text. b ∷ text) (text_after false bytes)
text_after true (b ∷ bytes) = if b == 34 then option_map (λ text. b ∷ text) (text_after false bytes) else None
