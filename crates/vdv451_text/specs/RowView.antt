-- Inner: what the fields of a line give, one after another.
use Rattle.std.specs.Prelude.{ℕ, Bool, ◌==◌, not, List, [], ◌∷◌, length, Option, Some, None, Result, Ok, Err, if◌then◌else◌}
use Rattle.std.specs.List.{list_all}
use Rattle.vdv451_text.specs.declared.fault.TextKind.{TextKind}
use Rattle.vdv451_text.specs.declared.fault.TextKind.TheVariants as kinds
use Rattle.vdv451_text.specs.declared.table.Field.{Field}
use Rattle.vdv451_text.specs.declared.table.Head.{Head}
use Rattle.vdv451_text.specs.Faults.{if_wrong, stated}
use Rattle.vdv451_text.specs.Fields.{is_void, is_count, value_of}
use Rattle.vdv451_text.specs.Lines.{Keyword, Piece, place_among_keywords}
use Rattle.vdv451_text.specs.Machine.{outcome}

-- an answer, changed where it is right
abbrev pub ok_map : {A B : Type 0} → (A → B) → Result A TextKind → Result B TextKind
ok_map f (Ok x) = Ok (f x)
ok_map f (Err kind) = Err kind

-- behind the last column nothing is left but one field with nothing in it
abbrev pub row_end : Option (List Piece) → Result (Unit {0}) TextKind
row_end None = Err kinds.Field
row_end (Some []) = Ok tt
row_end (Some (p ∷ [])) = if is_void p then Ok tt else Err kinds.Count
row_end (Some (p ∷ q ∷ ps)) = Err kinds.Count

-- a value for each column
abbrev pub row_of : List Head → Option (List Piece) → Result (List Field) TextKind
row_of [] o = ok_map (λ _. []) (row_end o)
row_of (column ∷ columns) None = Err kinds.Field
row_of (column ∷ columns) (Some []) = Err kinds.Count
row_of (column ∷ columns) (Some (p ∷ ps)) = ok_map (λ row. value_of column.format p ∷ row) (row_of columns (Some ps))

-- one count, and whether it is this number
abbrev pub count_of : ℕ → Option (List Piece) → Result Bool TextKind
count_of number None = Err kinds.Field
count_of number (Some ps) =
    outcome (if_wrong (not (list_all is_count ps)) kinds.Field (if_wrong (not (length ps == 1)) kinds.Count None)) (stated ps == number)

-- why a line may not stand where the tables have begun
abbrev pub misplaced_kind : Keyword → TextKind
misplaced_kind keyword = if place_among_keywords keyword == 8 then kinds.Keyword else kinds.Order
