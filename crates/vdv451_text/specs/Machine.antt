-- Inner: a machine that reads a text line by line: where it stands, and what a line makes of it.
use Rattle.std.specs.Prelude.{ℕ, ◌+◌, nat_lt, Bool, true, false, ◌||◌, List, [], ◌∷◌, ◌++◌, length, map, unwrap_or, Option, Some, None, Result, Ok, Err, if◌then◌else◌}
use Rattle.std.specs.Str.{str_to_ascii_uppercase}
use Rattle.vdv451_text.specs.declared.table.Field.{Field}
use Rattle.vdv451_text.specs.declared.table.Head.{Head}
use Rattle.vdv451_text.specs.declared.table.Table.{Table}
use Rattle.vdv451_text.specs.declared.fault.TextKind.{TextKind}
use Rattle.vdv451_text.specs.declared.fault.TextKind.TheVariants as kinds
use Rattle.vdv451_text.specs.Lines.{Line, Tbl, Atr, Frm, Rec, End, Eof, Piece, line_of, lines_of, is_a}
use Rattle.vdv451_text.specs.Fields.{bytes_of, value_of, without_void, at_most_one_void}
use Rattle.vdv451_text.specs.Grammar.{counts, is_header}
use Rattle.vdv451_text.specs.Faults.{fault_by, pieces_of}
-- Where the reading stands, each with the tables read so far, as the code has it:
-- `Open b tables`: a table or `eof` may stand; before the first of them (b is false) also a header line;
-- `Named` behind `tbl`, with the name; `Columned` behind `atr`, with the columns' names;
-- `InRows` behind `frm` or a `rec`, with the columns and the rows so far; `Ended` behind `eof`.
pub use Rattle.vdv451_text.specs.declared.state.State.{State}
pub use Rattle.vdv451_text.specs.declared.state.State.TheVariants.{Open, Named, Columned, InRows, Ended}

abbrev pub begun : State → Bool
begun (Open b tables) = b
begun (Named tables name) = true
begun (Columned tables name names) = true
begun (InRows tables name columns rows) = true
begun (Ended tables) = true

-- a line of this kind may stand here
abbrev pub admits : State → Line → Bool
admits (Open false tables) line = is_header line || is_a Tbl line || is_a Eof line
admits (Open true tables) line = is_a Tbl line || is_a Eof line
admits (Named tables name) line = is_a Atr line
admits (Columned tables name names) line = is_a Frm line
admits (InRows tables name columns rows) line = is_a Rec line || is_a End line
admits (Ended tables) line = false

abbrev pub column_number : State → ℕ
column_number (Open b tables) = 0
column_number (Named tables name) = 0
column_number (Columned tables name names) = length names
column_number (InRows tables name columns rows) = length columns
column_number (Ended tables) = 0

abbrev pub row_number : State → ℕ
row_number (Open b tables) = 0
row_number (Named tables name) = 0
row_number (Columned tables name names) = 0
row_number (InRows tables name columns rows) = length rows
row_number (Ended tables) = 0

abbrev pub tables_of : State → List Table
tables_of (Open b tables) = tables
tables_of (Named tables name) = tables
tables_of (Columned tables name names) = tables
tables_of (InRows tables name columns rows) = tables
tables_of (Ended tables) = tables

-- what is wrong with a line here
abbrev pub fault_in : State → Line → Option TextKind
fault_in s line = fault_by (begun s) (admits s line) (column_number s) (row_number s) (length (tables_of s)) line

-- What a right line says.
abbrev pub pieces_on : Line → List Piece
pieces_on line = unwrap_or (pieces_of line) []

abbrev pub capital : Piece → List ℕ
capital piece = str_to_ascii_uppercase (bytes_of piece)

abbrev first_name : List Piece → List ℕ
first_name [] = []
first_name (piece ∷ pieces) = capital piece

abbrev pub name_on : Line → List ℕ
name_on line = first_name (pieces_on line)

abbrev pub names_on : Line → List (List ℕ)
names_on line = map capital (without_void (pieces_on line))

abbrev pub formats_on : ℕ → Line → List (List ℕ)
formats_on columns line = map bytes_of (at_most_one_void columns (pieces_on line))

-- a column for each name
abbrev pub heads : List (List ℕ) → List (List ℕ) → List Head
heads [] formats = []
heads (name ∷ names) [] = record { name = name; format = [] } ∷ heads names []
heads (name ∷ names) (format ∷ formats) = record { name = name; format = format } ∷ heads names formats

abbrev pub values : List Head → List Piece → List Field
values [] pieces = []
values (column ∷ columns) [] = []
values (column ∷ columns) (piece ∷ pieces) = value_of column.format piece ∷ values columns pieces

abbrev pub row_on : List Head → Line → List Field
row_on columns line = values columns (at_most_one_void (length columns) (pieces_on line))

-- where a right line leads
abbrev pub next : State → Line → State
next (Open b tables) line = if is_a Tbl line then Named tables (name_on line) else if is_a Eof line then Ended tables else Open b tables
next (Named tables name) line = Columned tables name (names_on line)
next (Columned tables name names) line = InRows tables name (heads names (formats_on (length names) line)) []
next (InRows tables name columns rows) line =
    if is_a Rec line then InRows tables name columns (rows ++ row_on columns line ∷ [])
    else Open true (tables ++ record { name = name; columns = columns; rows = rows } ∷ [])
next (Ended tables) line = Ended tables

abbrev pub outcome : {A : Type 0} → Option TextKind → A → Result A TextKind
outcome None s = Ok s
outcome (Some kind) s = Err kind

-- one line: a blank line or a comment changes nothing
abbrev pub step : State → Line → Result State TextKind
step s line = if counts line then outcome (fault_in s line) (next s line) else Ok s

abbrev pub goes_on : Result State TextKind → (State → Result State TextKind) → Result State TextKind
goes_on (Ok s) rest = rest s
goes_on (Err kind) rest = Err kind

-- lines one after another
abbrev pub run : State → List Line → Result State TextKind
run s [] = Ok s
run s (line ∷ lines) = goes_on (step s line) (λ t. run t lines)

-- the text's lines, from its start
abbrev pub start : State
start = Open false []

abbrev pub run_lines : List (List ℕ) → Result State TextKind
run_lines lines = run start (map line_of lines)

-- The whole text: its tables, or the line of its first fault and the kind.
abbrev pub ended : ℕ → State → Result (List Table) (ℕ × TextKind)
ended place (Open b tables) = Err (place, kinds.Unended)
ended place (Named tables name) = Err (place, kinds.Unended)
ended place (Columned tables name names) = Err (place, kinds.Unended)
ended place (InRows tables name columns rows) = Err (place, kinds.Unended)
ended place (Ended tables) = Ok tables

abbrev pub go_on_at : ℕ → Result State TextKind → (State → Result (List Table) (ℕ × TextKind)) → Result (List Table) (ℕ × TextKind)
go_on_at place (Ok s) rest = rest s
go_on_at place (Err kind) rest = Err (place, kind)

abbrev pub read_from : ℕ → State → List (List ℕ) → Result (List Table) (ℕ × TextKind)
read_from place s [] = ended place s
read_from place s (line ∷ lines) = go_on_at place (step s (line_of line)) (λ t. read_from (place + 1) t lines)

-- what a text of which at most so many bytes are read gives
abbrev pub reading : ℕ → List ℕ → Result (List Table) (ℕ × TextKind)
reading most bytes = if nat_lt most (length bytes) then Err (0, kinds.TooLarge) else read_from 1 start (lines_of bytes)
