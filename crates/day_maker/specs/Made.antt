-- Promise: a day that is made from a number: its tables.
use Rattle.std.specs.Prelude.{ℕ, pos, zero, suc, ◌+◌, ◌-◌, ◌*◌, ◌/◌, ◌%◌, ◌^◌, ◌==◌, Bool, true, false, nat_le, List, [], ◌∷◌, ◌++◌, map, codes, if◌then◌else◌}
use Rattle.std.specs.Borrow.{Bor}
use Rattle.std.specs.Str.{bytes_eq}
use Rattle.vdv451_text.specs.declared.table.Field.{Field}
use Rattle.vdv451_text.specs.declared.table.Field.TheVariants.{Num, Text, Empty}
use Rattle.vdv451_text.specs.declared.table.Head.{Head}
use Rattle.vdv451_text.specs.declared.table.Table.{Table}
use Rattle.day_maker.specs.declared.cells.Cell.{Cell}
use Rattle.day_maker.specs.declared.cells.Cell.TheVariants.{Number, Variant, Nothing}
use Rattle.day_maker.specs.declared.parts.Part.{Part}
use Rattle.day_maker.specs.declared.parts.Part.TheVariants.{Points, Lengths, Times, Dwells, Variants, Courses, Deadheads, Ways, Reliefs, Pools, Groups}

-- the variant that goes out, or the one that comes back
abbrev pub variant_name : Bool → List ℕ
variant_name true = codes "H"
variant_name false = codes "R"

abbrev pub field_of : Cell → Field
field_of (Number n) = Num (pos n)
field_of (Variant out) = Text (variant_name out)
field_of Nothing = Empty

abbrev pub fields_of : List Cell → List Field
fields_of cells = map field_of cells

abbrev pub rows_of : List (List Cell) → List (List Field)
rows_of rows = map fields_of rows

-- a column of names of variants holds words, every other one whole numbers
abbrev pub format_of : List ℕ → List ℕ
format_of name = if bytes_eq name (codes "STR_LI_VAR") then codes "char[6]" else codes "num[19.0]"

abbrev pub head_of : List ℕ → Head
head_of name = record { name = name; format = format_of name }

abbrev pub made_table : List ℕ → List (List ℕ) → List (List Cell) → Table
made_table name columns rows = record { name = name; columns = map head_of columns; rows = rows_of rows }

-- terminals have the numbers 1 to 8, inner points 11 to 17, depots 101 and 102
abbrev pub type_of : ℕ → ℕ
type_of nr = if nat_le nr 100 then 1 else 2

-- terminals lie one after another, the depots beside the second and the seventh
abbrev pub position_of : ℕ → ℕ
position_of nr = if nr == 101 then 2 else if nr == 102 then 7 else nr

abbrev pub apart : ℕ → ℕ → ℕ
apart p q = (p - q) + (q - p)

-- the seconds between two terminals or depots
abbrev pub way_seconds : ℕ → ℕ → ℕ
way_seconds from to = 300 * apart (position_of from) (position_of to)
    + (if nat_le from 100 then (if nat_le to 100 then 0 else 300) else 300)

-- one way, as the tables of deadheads and of ways have it
abbrev pub way_row : Bool → ℕ → ℕ → List Cell
way_row deadhead from to =
    if deadhead then
    Number 1 ∷ Number 1 ∷ Number 1 ∷ Number (type_of from) ∷ Number from ∷ Number (type_of to) ∷ Number to
    ∷ Number (way_seconds from to) ∷ []
    else Number (type_of from) ∷ Number from ∷ Number (type_of to) ∷ Number to ∷ Number (way_seconds from to) ∷ []

-- the ways from a point to each other one
abbrev pub way_rows : Bool → ℕ → List ℕ → List (List Cell)
way_rows deadhead from [] = []
way_rows deadhead from (to ∷ tos) = if from == to then way_rows deadhead from tos else way_row deadhead from to ∷ way_rows deadhead from tos

abbrev pub lines : List ℕ
lines = 1 ∷ 2 ∷ 3 ∷ 4 ∷ 5 ∷ 6 ∷ 7 ∷ []

abbrev pub terminals : List ℕ
terminals = 1 ∷ 2 ∷ 3 ∷ 4 ∷ 5 ∷ 6 ∷ 7 ∷ 8 ∷ []

abbrev pub points : List ℕ
points = 1 ∷ 2 ∷ 3 ∷ 4 ∷ 5 ∷ 6 ∷ 7 ∷ 8 ∷ 11 ∷ 12 ∷ 13 ∷ 14 ∷ 15 ∷ 16 ∷ 17 ∷ 101 ∷ 102 ∷ []

-- terminals and depots
abbrev pub places : List ℕ
places = 1 ∷ 2 ∷ 3 ∷ 4 ∷ 5 ∷ 6 ∷ 7 ∷ 8 ∷ 101 ∷ 102 ∷ []

-- pools, and groups of drivers: the first of each at the first depot, and the second at the second
abbrev pub shares : List ℕ
shares = 1 ∷ 2 ∷ []

-- a section of a line: 30,000 and 500 metres for each number, 2,400 and 60 seconds for each number
abbrev pub length_row : ℕ → ℕ → ℕ → List Cell
length_row line from to = Number 1 ∷ Number 1 ∷ Number 1 ∷ Number from ∷ Number to ∷ Number 1 ∷ Number (30000 + 500 * line) ∷ []

abbrev pub time_row : ℕ → ℕ → ℕ → List Cell
time_row line from to = Number 1 ∷ Number 1 ∷ Number 1 ∷ Number 1 ∷ Number from ∷ Number to ∷ Number 1 ∷ Number (2400 + 60 * line) ∷ []

-- one section of a line, as the tables of times and of lengths have it
abbrev pub link_row : Bool → ℕ → ℕ → ℕ → List Cell
link_row timed line from to = if timed then time_row line from to else length_row line from to

abbrev pub course_row : ℕ → Bool → ℕ → ℕ → List Cell
course_row line out place point = Number 1 ∷ Number place ∷ Number line ∷ Variant out ∷ Number 1 ∷ Number point ∷ []

abbrev pub pool_row : ℕ → ℕ → ℕ → List Cell
pool_row number depot trips = Number number ∷ Number 2 ∷ Number depot ∷ Number 1 ∷ Number trips ∷ Number 100000 ∷ Number 20 ∷ Number 5 ∷ []

abbrev pub group_row : ℕ → ℕ → ℕ → List Cell
group_row number home trips = Number number ∷ Number 2 ∷ Number home ∷ Number trips ∷ Number 20000 ∷ Number 5 ∷ Number 600 ∷ Number 300 ∷ []

-- the rows of a table that belong to a line or a point, a pool or a group; line l goes from terminal l over the inner point 10 + l to
-- terminal l + 1
abbrev pub part_rows : Part → ℕ → List (List Cell)
part_rows Points nr = (Number 1 ∷ Number (type_of nr) ∷ Number nr ∷ []) ∷ []
part_rows Lengths l = length_row l l (10 + l) ∷ length_row l (10 + l) (l + 1) ∷ length_row l (l + 1) (10 + l) ∷ length_row l (10 + l) l ∷ []
part_rows Times l = time_row l l (10 + l) ∷ time_row l (10 + l) (l + 1) ∷ time_row l (l + 1) (10 + l) ∷ time_row l (10 + l) l ∷ []
part_rows Dwells l = (Number 1 ∷ Number 1 ∷ Number 1 ∷ Number (10 + l) ∷ Number 60 ∷ []) ∷ []
part_rows Variants l = (Number 1 ∷ Number l ∷ Variant true ∷ Number 1 ∷ []) ∷ (Number 1 ∷ Number l ∷ Variant false ∷ Number 1 ∷ []) ∷ []
part_rows Courses l =
    course_row l true 1 l ∷ course_row l true 2 (10 + l) ∷ course_row l true 3 (l + 1) ∷
    course_row l false 1 (l + 1) ∷ course_row l false 2 (10 + l) ∷ course_row l false 3 l ∷ []
part_rows Deadheads nr = way_rows true nr places
part_rows Ways nr = way_rows false nr places
part_rows Reliefs nr = (Number 1 ∷ Number nr ∷ []) ∷ []
part_rows (Pools trips) nr = pool_row nr (100 + nr) trips ∷ []
part_rows (Groups trips) nr = group_row nr (100 + nr) trips ∷ []

-- the rows of some lines or points, pools or groups, one after another
abbrev pub rows_for : Part → List ℕ → List (List Cell)
rows_for part [] = []
rows_for part (n ∷ ns) = part_rows part n ++ rows_for part ns

-- Draws. The state of a seed, the next state, and what a state gives below a number.
abbrev pub first_state : ℕ → ℕ
first_state seed = 2 * seed + 1

abbrev pub next_state : ℕ → ℕ
next_state s = (s * 6364136223846793005 + 1442695040888963407) % 2 ^ 64

abbrev pub drawn : ℕ → ℕ → ℕ
drawn s m = s / 2 ^ 33 % m

-- a trip of a number, from the states of its three draws: its line, its variant and its departure
abbrev pub trip_row : ℕ → ℕ → ℕ → ℕ → List Cell
trip_row fid a b c =
    Number 1 ∷ Number fid ∷ Number (18000 + 60 * drawn c 960) ∷ Number (1 + drawn a 7) ∷ Number 1 ∷ Number 1 ∷ Number 1
    ∷ Variant (drawn b 2 == 0) ∷ Nothing ∷ []

-- so many trips from a number on, from a state on
abbrev pub trip_rows : ℕ → ℕ → ℕ → List (List Cell)
trip_rows zero fid s = []
trip_rows (suc n) fid s =
    trip_row fid (next_state s) (next_state (next_state s)) (next_state (next_state (next_state s)))
    ∷ trip_rows n (fid + 1) (next_state (next_state (next_state s)))

-- the texts that stand behind references
abbrev pub texts : List (Bor (List ℕ)) → List (List ℕ)
texts names = map (λ name. name.now) names

-- a table over rows of fields
abbrev pub table_over : List ℕ → List (List ℕ) → List (List Field) → Table
table_over name columns rows = record { name = name; columns = map head_of columns; rows = rows }

-- the name of the table of a part
abbrev pub part_name : Part → List ℕ
part_name Points = codes "REC_ORT"
part_name Lengths = codes "REC_SEL"
part_name Times = codes "SEL_FZT_FELD"
part_name Dwells = codes "ORT_HZTF"
part_name Variants = codes "REC_LID"
part_name Courses = codes "LID_VERLAUF"
part_name Deadheads = codes "UEB_FZT"
part_name Ways = codes "X_WEG"
part_name Reliefs = codes "X_ABLOESE"
part_name (Pools trips) = codes "X_HOF"
part_name (Groups trips) = codes "X_FAHRER"

-- its columns
abbrev pub part_columns : Part → List (List ℕ)
part_columns Points = codes "BASIS_VERSION" ∷ codes "ONR_TYP_NR" ∷ codes "ORT_NR" ∷ []
part_columns Lengths = codes "BASIS_VERSION" ∷ codes "BEREICH_NR" ∷ codes "ONR_TYP_NR" ∷ codes "ORT_NR" ∷ codes "SEL_ZIEL"
    ∷ codes "SEL_ZIEL_TYP" ∷ codes "SEL_LAENGE" ∷ []
part_columns Times = codes "BASIS_VERSION" ∷ codes "BEREICH_NR" ∷ codes "FGR_NR" ∷ codes "ONR_TYP_NR" ∷ codes "ORT_NR" ∷ codes "SEL_ZIEL"
    ∷ codes "SEL_ZIEL_TYP" ∷ codes "SEL_FZT" ∷ []
part_columns Dwells = codes "BASIS_VERSION" ∷ codes "FGR_NR" ∷ codes "ONR_TYP_NR" ∷ codes "ORT_NR" ∷ codes "HP_HZT" ∷ []
part_columns Variants = codes "BASIS_VERSION" ∷ codes "LI_NR" ∷ codes "STR_LI_VAR" ∷ codes "BEREICH_NR" ∷ []
part_columns Courses = codes "BASIS_VERSION" ∷ codes "LI_LFD_NR" ∷ codes "LI_NR" ∷ codes "STR_LI_VAR"
    ∷ codes "ONR_TYP_NR" ∷ codes "ORT_NR" ∷ []
part_columns Deadheads = codes "BASIS_VERSION" ∷ codes "BEREICH_NR" ∷ codes "FGR_NR" ∷ codes "ONR_TYP_NR" ∷ codes "ORT_NR"
    ∷ codes "UEB_ZIEL_TYP" ∷ codes "UEB_ZIEL" ∷ codes "UEB_FAHRZEIT" ∷ []
part_columns Ways = codes "ONR_TYP_NR" ∷ codes "ORT_NR" ∷ codes "ZIEL_TYP" ∷ codes "ZIEL_NR" ∷ codes "WEG_SEK" ∷ []
part_columns Reliefs = codes "ONR_TYP_NR" ∷ codes "ORT_NR" ∷ []
part_columns (Pools trips) = codes "HOF_NR" ∷ codes "ONR_TYP_NR" ∷ codes "ORT_NR" ∷ codes "FZG_TYP_NR" ∷ codes "ANZAHL" ∷ codes "FIX_KOSTEN"
    ∷ codes "LEER_SATZ" ∷ codes "STAND_SATZ" ∷ []
part_columns (Groups trips) = codes "GRUPPE_NR" ∷ codes "ONR_TYP_NR" ∷ codes "ORT_NR" ∷ codes "ANZAHL" ∷ codes "FIX_KOSTEN" ∷ codes "SATZ"
    ∷ codes "ANMELDE_SEK" ∷ codes "ABMELDE_SEK" ∷ []

-- the lines or points, pools or groups of which it tells
abbrev pub part_numbers : Part → List ℕ
part_numbers Points = points
part_numbers Lengths = lines
part_numbers Times = lines
part_numbers Dwells = lines
part_numbers Variants = lines
part_numbers Courses = lines
part_numbers Deadheads = places
part_numbers Ways = places
part_numbers Reliefs = terminals
part_numbers (Pools trips) = shares
part_numbers (Groups trips) = shares

-- the table of a part, with its rows
abbrev pub part_table : Part → Table
part_table part = made_table (part_name part) (part_columns part) (rows_for part (part_numbers part))

-- The tables, in their order.
abbrev pub version_table : Table
version_table = made_table (codes "BASIS_VER_GUELTIGKEIT") (codes "VER_GUELTIGKEIT" ∷ codes "BASIS_VERSION" ∷ [])
    ((Number 20260101 ∷ Number 1 ∷ []) ∷ [])

abbrev pub calendar_table : Table
calendar_table = made_table (codes "FIRMENKALENDER") (codes "BASIS_VERSION" ∷ codes "BETRIEBSTAG" ∷ codes "TAGESART_NR" ∷ [])
    ((Number 1 ∷ Number 20260302 ∷ Number 1 ∷ []) ∷ [])

abbrev pub trip_table : ℕ → ℕ → Table
trip_table seed trips =
    made_table (codes "REC_FRT") (codes "BASIS_VERSION" ∷ codes "FRT_FID" ∷ codes "FRT_START" ∷ codes "LI_NR" ∷ codes "TAGESART_NR"
    ∷ codes "FAHRTART_NR" ∷ codes "FGR_NR" ∷ codes "STR_LI_VAR" ∷ codes "UM_UID" ∷ []) (trip_rows trips 1 (first_state seed))

abbrev pub type_table : Table
type_table = made_table (codes "MENGE_FZG_TYP") (codes "BASIS_VERSION" ∷ codes "FZG_TYP_NR" ∷ []) ((Number 1 ∷ Number 1 ∷ []) ∷ [])

abbrev pub settings_table : Table
settings_table = made_table (codes "X_PLAN")
    (codes "UEB_BEREICH_NR" ∷ codes "UEB_FGR_NR" ∷ codes "WENDE_SEK" ∷ codes "MAX_WARTE_SEK" ∷ codes "UEBERGABE_SEK" ∷ [])
    ((Number 1 ∷ Number 1 ∷ Number 300 ∷ Number 7200 ∷ Number 300 ∷ []) ∷ [])

abbrev pub deadhead_table : Table
deadhead_table = part_table Deadheads

abbrev pub pool_table : ℕ → Table
pool_table trips = part_table (Pools trips)

abbrev pub relief_table : Table
relief_table = part_table Reliefs

abbrev pub way_table : Table
way_table = part_table Ways

abbrev pub group_table : ℕ → Table
group_table trips = part_table (Groups trips)

-- all tables of a day that is made from a seed, with so many trips
abbrev pub made_tables : ℕ → ℕ → List Table
made_tables seed trips =
    version_table ∷ calendar_table ∷ part_table Points ∷ part_table Lengths ∷ part_table Times ∷ part_table Dwells ∷ part_table Variants ∷
    part_table Courses ∷ trip_table seed trips ∷ part_table Deadheads ∷ type_table ∷ settings_table ∷ part_table (Pools trips) ∷
    part_table Reliefs ∷ part_table Ways ∷ part_table (Groups trips) ∷ []
