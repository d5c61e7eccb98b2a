-- Inner: the fields of a line on which few may stand.
use Rattle.std.specs.Prelude.{ℕ, Bool, true, nat_le, ◌||◌, ◌&&◌, List, [], ◌∷◌, length, Option, Some, None, Result, Ok, Err, if◌then◌else◌}
use Rattle.std.specs.List.{list_all}
use Rattle.vdv451_text.specs.declared.fault.TextKind.{TextKind}
use Rattle.vdv451_text.specs.declared.fault.TextKind.TheVariants as kinds
use Rattle.vdv451_text.specs.declared.few.FieldKind.{FieldKind}
use Rattle.vdv451_text.specs.declared.few.FieldKind.TheVariants as kind_of
use Rattle.vdv451_text.specs.Fields.{bytes_of, is_count, is_format, is_name, is_void}
use Rattle.vdv451_text.specs.Lines.{Piece}

-- a field of this kind is right
abbrev pub may_stand : FieldKind → Piece → Bool
may_stand kind_of.Name piece = is_name (bytes_of piece)
may_stand kind_of.ColumnName piece = is_name (bytes_of piece)
may_stand kind_of.Format piece = is_format (bytes_of piece)
may_stand kind_of.Count piece = is_count piece
may_stand kind_of.Value piece = true

-- the same of the last field, which may have nothing in it among column names
abbrev pub may_end : FieldKind → Piece → Bool
may_end kind_of.Name piece = is_name (bytes_of piece)
may_end kind_of.ColumnName piece = is_void piece || is_name (bytes_of piece)
may_end kind_of.Format piece = is_format (bytes_of piece)
may_end kind_of.Count piece = is_count piece
may_end kind_of.Value piece = true

abbrev pub all_right : FieldKind → List Piece → Bool
all_right kind [] = true
all_right kind (p ∷ []) = may_end kind p
all_right kind (p ∷ q ∷ ps) = may_stand kind p && all_right kind (q ∷ ps)

-- what is wrong with too many fields: one of them, or else their number
abbrev pub crowd_of : FieldKind → Option (List Piece) → TextKind
crowd_of kind None = kinds.Field
crowd_of kind (Some ps) = if all_right kind ps then kinds.Count else kinds.Field

abbrev pub fits : FieldKind → Bool → Piece → Bool
fits kind is_last p = if is_last then may_end kind p else may_stand kind p

-- one field of a line, the last one or another
abbrev pub checked : FieldKind → Bool → Option Piece → Result (Unit {0}) TextKind
checked kind is_last None = Err kinds.Field
checked kind is_last (Some p) = if fits kind is_last p then Ok tt else Err kinds.Field

-- what is wrong with too many fields, some of which stand before the others
abbrev pub crowd_behind : FieldKind → List Piece → Option (List Piece) → TextKind
crowd_behind kind before o = if list_all (may_stand kind) before then crowd_of kind o else kinds.Field

-- the fields, where there are at most so many
abbrev pub few_of : FieldKind → ℕ → Option (List Piece) → Result (List Piece) TextKind
few_of kind most None = Err kinds.Field
few_of kind most (Some ps) = if nat_le (length ps) most then Ok ps else Err (crowd_of kind (Some ps))
