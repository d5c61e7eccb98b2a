-- A text of plain tables with numbers of 64 bits is spelled by these tables alone.
use Rattle.std.proofs.Common.{◌≡◌, ℕ, ◌≤◌, ◌<◌, ◌^◌, true, nat_lt, List, [], ◌∷◌, ◌++◌, length, refl, arith, length-append, map}
use Rattle.std.specs.Prelude.{codes, decimal}
use Rattle.std.specs.List.{AllByRecursion, list_all, flat_map}
use Rattle.std.proofs.lemmas.Bool.Decides.{nat_tests}
use Rattle.std.proofs.lemmas.Bool.{and_from}
use Rattle.vdv451_text.specs.declared.table.Field.{Field}
use Rattle.vdv451_text.specs.declared.table.Table.{Table}
use Rattle.vdv451_text.specs.Lines.{lines_of}
use Rattle.vdv451_text.specs.Grammar.{Spells}
use Rattle.vdv451_text.specs.Faults.{Gives}
use Rattle.vdv451_text.specs.Plain.{are_plain, are_sized, header_text, is_sized_row, is_sized_table, line_text, row_text, table_text, text}
use Rattle.vdv451_text.proofs.ReadBack.{text_back}
use Rattle.vdv451_text.proofs.Spelling.{spells_run}

-- each number in the rows of a table has 64 bits
abbrev pub HasWords : Table → Type 0
HasWords table = list_all is_sized_row table.rows ≡ true

abbrev pub HaveWords : List Table → Type 0
HaveWords tables = AllByRecursion HasWords tables

abbrev crlf : List ℕ
crlf = 13 ∷ 10 ∷ []

-- Each row and each table takes a byte at least, so a text has no more of either than bytes.
some_row : (row : List Field) → 1 ≤ length (row_text crlf row)
some_row row = omega arith

row_count : (rows : List (List Field)) → length rows ≤ length (flat_map (row_text crlf) rows)
row_count [] = omega arith
row_count (row ∷ rows) =
    omega (arith, length-append (row_text crlf row) (flat_map (row_text crlf) rows), row_count rows, some_row row)

within_five : (a b c r e : List ℕ) → length r ≤ length (a ++ b ++ c ++ r ++ e)
within_five a b c r e =
    omega (arith, length-append (a ++ b ++ c ++ r) e, length-append (a ++ b ++ c) r)

table_rows : (table : Table) → length table.rows ≤ length (table_text crlf table)
table_rows table =
    let many = within_five (line_text crlf (codes "tbl") (table.name ∷ []))
    (line_text crlf (codes "atr") (map (λ column. column.name) table.columns))
    (line_text crlf (codes "frm") (map (λ column. column.format) table.columns)) (flat_map (row_text crlf) table.rows)
    (line_text crlf (codes "end") (decimal (length table.rows) ∷ [])) in
    omega (arith, many, row_count table.rows)

some_table : (table : Table) → 1 ≤ length (table_text crlf table)
some_table table = omega arith

table_count : (tables : List Table) → length tables ≤ length (flat_map (table_text crlf) tables)
table_count [] = omega arith
table_count (table ∷ tables) =
    omega (arith, length-append (table_text crlf table) (flat_map (table_text crlf) tables), table_count tables, some_table table)

below : (n most : ℕ) → n < 10 ^ 18 → nat_lt n (10 ^ 18) ≡ true
below n most h = grind (arith, nat_tests, h)

each_sized : (most : ℕ) (tables : List Table) → most < 10 ^ 18 → length (flat_map (table_text crlf) tables) ≤ most → HaveWords tables →
    list_all is_sized_table tables ≡ true
each_sized most [] small few words = refl
each_sized most (table ∷ tables) small few words =
    let both = length-append (table_text crlf table) (flat_map (table_text crlf) tables) in
    and_from (is_sized_table table) (list_all is_sized_table tables)
    (and_from (nat_lt (length table.rows) (10 ^ 18)) (list_all is_sized_row table.rows)
    (below (length table.rows) most (omega (arith, both, few, small, table_rows table))) words.0)
    (each_sized most tables small (omega (arith, both, few)) words.1)

text_sized : (most : ℕ) (tables : List Table) → most < 10 ^ 18 → length (text tables) ≤ most → HaveWords tables → are_sized tables ≡ true
text_sized most tables small few words =
    let body : List ℕ = flat_map (table_text crlf) tables in
    let end : List ℕ = line_text crlf (codes "eof") (decimal (length tables) ∷ []) in
    let whole = length-append (header_text crlf) (body ++ end) in
    let parts = length-append body end in
    and_from (nat_lt (length tables) (10 ^ 18)) (list_all is_sized_table tables)
    (below (length tables) most (omega (arith, whole, parts, few, small, table_count tables)))
    (each_sized most tables small (omega (arith, whole, parts, few)) words)

-- A text is read back to its tables where these are plain and of a size that a text can say: numbers of 64 bits, and fewer than 10^18 rows
-- and tables. The second need not be known of the tables: each row and each table takes a byte, so a text within a limit of bytes is of
-- such a size by its length alone. That matters for a certificate, whose marks have no smaller count.
pub text_spells : (most : ℕ) (tables : List Table) → most < 10 ^ 18 → length (text tables) ≤ most →
    are_plain tables ≡ true → HaveWords tables →
    Gives most (text tables) tables
text_spells most tables small few plain words = (few, text_back tables plain (text_sized most tables small few words))

-- lines spell one list of tables
pub spelled_once : (lines : List (List ℕ)) (tables others : List Table) → Spells lines tables → Spells lines others → tables ≡ others
spelled_once lines tables others a b = let p = spells_run lines tables a in let q = spells_run lines others b in cc (p, q)

-- And it spells no others: lines spell at most one list of tables. So where the bytes of a written text are read as a file, what is read
-- are the tables that were written.
pub text_is : (most : ℕ) (tables others : List Table) → most < 10 ^ 18 → are_plain tables ≡ true → HaveWords tables →
    Gives most (text tables) others →
    others ≡ tables
text_is most tables others small plain words given =
    spelled_once (lines_of (text tables)) others tables given.1 (text_spells most tables small given.0 plain words).1
