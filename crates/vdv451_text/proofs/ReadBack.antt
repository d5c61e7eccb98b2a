-- The one spelling of plain tables is spelled by exactly these tables.
use Rattle.std.proofs.Common.{◌≡◌, ℕ, ◌^◌, suc, ◌≤◌, ◌<◌, Bool, true, false, ◌&&◌, not, ◌==◌, nat_le, nat_lt, IsTrue, OnOk, List, [], ◌∷◌, ◌++◌, length, map, refl, sym, ap, ◌∙◌, arith, append_assoc, Option, Some, Result, Ok, Err, if◌then◌else◌, subst}
use Rattle.std.specs.Prelude.{codes, IfOk}
use Rattle.std.specs.Fmt.{decimal}
use Rattle.std.specs.List.{list_all, flat_map, zip}
use Rattle.std.proofs.lemmas.List.{append-nil}
use Rattle.std.proofs.lemmas.Bool.Decides.{nat_tests}
use Rattle.std.proofs.lemmas.Bool.{and_parts, not-true}
use Rattle.vdv451_text.specs.declared.table.Head.{Head}
use Rattle.vdv451_text.specs.declared.table.Field.{Field}
use Rattle.vdv451_text.specs.declared.table.Table.{Table}
use Rattle.vdv451_text.specs.declared.fault.TextKind.{TextKind}
use Rattle.vdv451_text.specs.Lines.{Line, Says, Tbl, Atr, Frm, Rec, End, Eof, Piece, Bare, line_of, lines_of, cut_at_feeds, without_return, all_some}
use Rattle.vdv451_text.specs.Fields.{is_format, without_void, value_of}
use Rattle.vdv451_text.specs.Plain.{is_plain_name, is_plain_column, are_plain_columns, is_plain_field, is_plain_row, is_plain_table, are_plain, field_text, row_text, table_text, header_text, text, is_sized_field, is_sized_table, are_sized}
use Rattle.vdv451_text.specs.Grammar.{name_of, format_of, values_of, with_value, Names, NamesColumns, FormatsColumns, SpellsRow, SpellsRows, Counts, SpellsTable, Spells}
use Rattle.vdv451_text.specs.Machine.{State, Open, Ended, start, run, run_lines, goes_on}
use Rattle.vdv451_text.proofs.LineFields.{behind, spaced, AllRead, has_no_feed, fields_behind, no_feed_spaced, bare_reads, tbl_line, atr_line, frm_line, rec_line, end_line, eof_line}
use Rattle.vdv451_text.proofs.Decimals.{decimal_counts, decimal_bare}
use Rattle.vdv451_text.proofs.FieldsBack.{name_reads, format_reads, field_reads}
use Rattle.vdv451_text.proofs.Spelling.{run_append, run_table, eof_step, run_spells, spells_run}
use Rattle.vdv451_text.proofs.Good.{map_append, kept_all}

-- The lines of the text, as a list without line ends: those of the header, of each table, and `eof`. `text` is defined as one list
-- of bytes, while the grammar reads lines; this list stands between the two. The file shows that the text is these lines with CR LF
-- behind each (`text_ended`), that cutting the text gives them again (`cut_lines`), and that reading them ends with the tables
-- (`body_runs`); from these three follows `text_back`, the promise that what is written is read back.
abbrev header_lines : List (List ℕ)
header_lines =
    (codes "mod" ++ spaced (codes "DD.MM.YYYY" ∷ codes "HH:MM:SS" ∷ codes "free" ∷ []))
    ∷ (codes "src" ++ spaced (codes "\"planner\"" ∷ codes "\"01.01.2000\"" ∷ codes "\"00:00:00\"" ∷ []))
    ∷ (codes "chs" ++ spaced (codes "\"ISO8859-1\"" ∷ []))
    ∷ (codes "ver" ++ spaced (codes "\"1.4\"" ∷ []))
    ∷ (codes "ifv" ++ spaced (codes "\"1.4\"" ∷ []))
    ∷ (codes "dve" ++ spaced (codes "\"1.4\"" ∷ []))
    ∷ (codes "fft" ++ spaced (codes "\"\"" ∷ []))
    ∷ []

abbrev names_in : List Head → List (List ℕ)
names_in columns = map (λ column. column.name) columns

abbrev formats_in : List Head → List (List ℕ)
formats_in columns = map (λ column. column.format) columns

abbrev row_line : List Field → List ℕ
row_line row = codes "rec" ++ spaced (map field_text row)

abbrev tbl_bytes : Table → List ℕ
tbl_bytes table = codes "tbl" ++ spaced (table.name ∷ [])

abbrev atr_bytes : Table → List ℕ
atr_bytes table = codes "atr" ++ spaced (names_in table.columns)

abbrev frm_bytes : Table → List ℕ
frm_bytes table = codes "frm" ++ spaced (formats_in table.columns)

abbrev end_bytes : Table → List ℕ
end_bytes table = codes "end" ++ spaced (decimal (length table.rows) ∷ [])

abbrev table_lines : Table → List (List ℕ)
table_lines table = tbl_bytes table ∷ atr_bytes table ∷ frm_bytes table ∷ map row_line table.rows ++ end_bytes table ∷ []

abbrev tables_lines : List Table → List (List ℕ)
tables_lines [] = []
tables_lines (table ∷ tables) = table_lines table ++ tables_lines tables

abbrev eof_bytes : List Table → List ℕ
eof_bytes tables = codes "eof" ++ spaced (decimal (length tables) ∷ [])

abbrev text_lines : List Table → List (List ℕ)
text_lines tables = header_lines ++ (tables_lines tables ++ eof_bytes tables ∷ [])

abbrev crlf : List ℕ
crlf = 13 ∷ 10 ∷ []

abbrev ended_lines : List (List ℕ) → List ℕ
ended_lines [] = []
ended_lines (line ∷ lines) = line ++ (crlf ++ ended_lines lines)

ended_append : (xs ys : List (List ℕ)) → ended_lines (xs ++ ys) ≡ ended_lines xs ++ ended_lines ys
ended_append [] ys = refl
ended_append (x ∷ xs) ys =
    ap (λ (t : List ℕ). x ++ (crlf ++ t)) (ended_append xs ys) ∙ sym (append_assoc x (crlf ++ ended_lines xs) (ended_lines ys))

rows_ended : (rows : List (List Field)) → flat_map (row_text crlf) rows ≡ ended_lines (map row_line rows)
rows_ended [] = refl
rows_ended (row ∷ rows) =
    append_assoc (row_line row) crlf (flat_map (row_text crlf) rows) ∙ ap (λ (t : List ℕ). row_line row ++ (crlf ++ t)) (rows_ended rows)

table_ended : (table : Table) → table_text crlf table ≡ ended_lines (table_lines table)
table_ended table =
    let a = tbl_bytes table in
    let b = atr_bytes table in
    let c = frm_bytes table in
    let rows = map row_line table.rows in
    let e = end_bytes table in
    ap (λ (t : List ℕ). (a ++ crlf) ++ (b ++ crlf) ++ (c ++ crlf) ++ t ++ (e ++ crlf)) (rows_ended table.rows)
    ∙ joined a b c (ended_lines rows) e
    ∙ sym (ap (λ (t : List ℕ). a ++ (crlf ++ (b ++ (crlf ++ (c ++ (crlf ++ t)))))) (ended_append rows (e ∷ [])))
  where
    joined : (a b c r e : List ℕ) →
        (a ++ crlf) ++ (b ++ crlf) ++ (c ++ crlf) ++ r ++ (e ++ crlf) ≡ a ++ (crlf ++ (b ++ (crlf ++ (c ++ (crlf ++ (r ++ (e ++ crlf)))))))
    joined a b c r e = simp append_assoc

tables_ended : (tables : List Table) → flat_map (table_text crlf) tables ≡ ended_lines (tables_lines tables)
tables_ended [] = refl
tables_ended (table ∷ tables) = ap (λ (t : List ℕ). t ++ flat_map (table_text crlf) tables) (table_ended table)
    ∙ ap (λ (t : List ℕ). ended_lines (table_lines table) ++ t) (tables_ended tables)
    ∙ sym (ended_append (table_lines table) (tables_lines tables))

-- The bytes of the text are its lines, each with CR LF behind it. `text` sets the line ends row by row and table by table, so each
-- of the levels above is an induction on its own list, and `ended_append` puts the lines of one level before those of the next.
-- From here on it suffices to speak of lines.
text_ended : (tables : List Table) → text tables ≡ ended_lines (text_lines tables)
text_ended tables = ap (λ (t : List ℕ). header_text crlf ++ (t ++ (eof_bytes tables ++ crlf))) (tables_ended tables)
    ∙ sym (ap (λ (t : List ℕ). ended_lines header_lines ++ t) (ended_append (tables_lines tables) (eof_bytes tables ∷ [])))

-- Lines without a line end in them are cut again where they end: going through the bytes of a line no LF stops the cut before the
-- line's own (`cut_line`), and of what is cut the CR is the last byte, which goes (`return_goes`); a CR within a text stays. This
-- is where it counts that plain tables have no LF in any field, and why each lemma below also says that its line has none.
return_goes : (line : List ℕ) → without_return (line ++ 13 ∷ []) ≡ line
return_goes [] = refl
return_goes (b ∷ []) = refl
return_goes (b ∷ c ∷ line) = ap (λ t. b ∷ t) (return_goes (c ∷ line))

cut_line : (line rest : List ℕ) → has_no_feed line ≡ true → cut_at_feeds (line ++ (crlf ++ rest)) ≡ (line ++ 13 ∷ []) ∷ cut_at_feeds rest
cut_line [] rest h = refl
cut_line (b ∷ line) rest h =
    let w = and_parts (not (b == 10)) (has_no_feed line) h in
    rw (not-true (b == 10) w.0, cut_line line rest w.1) refl

cut_lines : (lines : List (List ℕ)) → list_all has_no_feed lines ≡ true → map without_return (cut_at_feeds (ended_lines lines)) ≡ lines
cut_lines [] h = refl
cut_lines (line ∷ lines) h =
    let w = and_parts (has_no_feed line) (list_all has_no_feed lines) h in
    ap (map without_return) (cut_line line (ended_lines lines) w.0)
    ∙ ap (λ (t : List ℕ). t ∷ map without_return (cut_at_feeds (ended_lines lines))) (return_goes line)
    ∙ ap (λ (t : List (List ℕ)). line ∷ t) (cut_lines lines w.1)

-- Each line of a table, written and read again. For each kind of line a lemma claims two things: that the line says of the table
-- what the grammar asks of such a line (`name_spelled`, `names_spelled`, `formats_spelled`, `row_spelled`), and that it has no line
-- end in it. `RightTable` holds both of a whole table, and the machine's run over all lines takes the one, the cut of the text the
-- other.
pub record RightTable (table : Table) : Type 0 where
  pub spells : SpellsTable (map line_of (table_lines table)) table
  pub no_feed : list_all has_no_feed (table_lines table) ≡ true

number_read : (n : ℕ) → n < 10 ^ 18 → AllRead (decimal n ∷ []) (Bare (decimal n) ∷ [])
number_read n h = (bare_reads (decimal n) (decimal_bare n (omega arith)), tt)

-- The names of plain columns, written and read: each is one bare field that gives the name, already in capitals, and reading drops
-- none of them. A last field with nothing in it would be dropped, and a plain name is not empty; as `without_void` looks at the
-- last field alone, the induction goes by one column and by two or more.
names_read : (columns : List Head) → list_all is_plain_column columns ≡ true →
    AllRead (names_in columns) (map (λ (c : Head). Bare c.name) columns)
    × (all_some (map name_of (map (λ (c : Head). Bare c.name) columns)) ≡ Some (names_in columns))
    × (without_void (map (λ (c : Head). Bare c.name) columns) ≡ map (λ (c : Head). Bare c.name) columns)
names_read [] h = (tt, refl, refl)
names_read (c ∷ []) h =
    let w = and_parts (is_plain_name c.name) (is_format c.format) (and_parts (is_plain_column c) true h).0 in
    let n = name_reads c.name w.0 in
    ((n.0, tt), ap (λ (o : Option (List ℕ)). all_some (o ∷ [])) n.1, ap (λ (t : Bool). if t then [] else Bare c.name ∷ []) n.2)
names_read (c ∷ d ∷ columns) h =
    let w = and_parts (is_plain_column c) (list_all is_plain_column (d ∷ columns)) h in
    let n = name_reads c.name (and_parts (is_plain_name c.name) (is_format c.format) w.0).0 in
    let ih = names_read (d ∷ columns) w.1 in (
      (n.0, ih.0),
      all_some_more (name_of (Bare c.name)) c.name (map name_of (map (λ (c : Head). Bare c.name) (d ∷ columns)))
          (names_in (d ∷ columns)) n.1 ih.1,
      ap (λ (t : List Piece). Bare c.name ∷ t) ih.2,
    )
  where
    all_some_more : (o : Option (List ℕ)) (x : List ℕ) (os : List (Option (List ℕ))) (xs : List (List ℕ)) → o ≡ Some x →
        all_some os ≡ Some xs → all_some (o ∷ os) ≡ Some (x ∷ xs)
    all_some_more o x os xs e h = rw (e, h) refl

-- The same of the formats, by induction on the columns one by one: each is one bare field that gives the format, as a format has no
-- blank at either end, no quote and no separator. There are as many fields as columns, so that none is one too many and reading
-- drops none; the third claim, on their number, is what `kept_all` asks for that.
formats_read : (columns : List Head) → list_all is_plain_column columns ≡ true →
    AllRead (formats_in columns) (map (λ (c : Head). Bare c.format) columns)
    × (all_some (map format_of (map (λ (c : Head). Bare c.format) columns)) ≡ Some (formats_in columns))
    × (length (map (λ (c : Head). Bare c.format) columns) ≡ length (formats_in columns))
formats_read [] h = (tt, refl, refl)
formats_read (c ∷ columns) h =
    let w = and_parts (is_plain_column c) (list_all is_plain_column columns) h in
    let n = format_reads c.format (and_parts (is_plain_name c.name) (is_format c.format) w.0).1 in
    let ih = formats_read columns w.1 in (
      (n.0, ih.0),
      all_some_more (format_of (Bare c.format)) c.format (map format_of (map (λ (c : Head). Bare c.format) columns))
          (formats_in columns) n.1 ih.1,
      ap suc ih.2,
    )
  where
    all_some_more : (o : Option (List ℕ)) (x : List ℕ) (os : List (Option (List ℕ))) (xs : List (List ℕ)) → o ≡ Some x →
        all_some os ≡ Some xs → all_some (o ∷ os) ≡ Some (x ∷ xs)
    all_some_more o x os xs e h = rw (e, h) refl

-- the pieces of a row
record RowRead (columns : List Head) (row : List Field) : Type 0 where
  pieces : List Piece
  read : AllRead (map field_text row) pieces
  values : values_of columns pieces ≡ Some row
  many : length pieces ≡ length columns

-- The fields of a plain row, written and read, are one piece for each column, and the value of each piece in its column is the
-- field (`field_reads`, which has the cases: number, text, raw bytes, empty). By induction on columns and fields together; the
-- number of pieces is kept in the statement because the grammar drops a void last field only where there is one more than columns.
row_read : (columns : List Head) (row : List Field) → length columns ≡ length row →
    list_all (λ pair. is_plain_field pair.0 pair.1) (zip columns row) ≡ true → list_all is_sized_field row ≡ true → RowRead columns row
row_read [] [] l h s = record { pieces = []; read = tt; values = refl; many = refl }
row_read [] (v ∷ row) l h s = absurd (omega arith)
row_read (c ∷ columns) [] l h s = absurd (omega arith)
row_read (c ∷ columns) (v ∷ row) l h s =
    let w = and_parts (is_plain_field c v) (list_all (λ pair. is_plain_field pair.0 pair.1) (zip columns row)) h in
    let z = and_parts (is_sized_field v) (list_all is_sized_field row) s in
    let f = field_reads c v w.0 z.0 in
    let ih = row_read columns row (omega arith) w.1 z.1 in
    record {
      pieces = f.0 ∷ ih.pieces;
      read = (f.1.reads, ih.read);
      values =
          ap (with_value (value_of c.format f.0)) ih.values ∙ ap (λ (t : Field). Some (t ∷ row)) f.1.value_is;
      many = ap suc ih.many;
    }

-- A row's line spells the row: `fields_behind` turns the pieces that fields are read as into the fields of the line, `rec_line`
-- gives the keyword back, and with as many pieces as columns none is dropped (`kept_all`). The line has no line end, since a field
-- that is read as a piece has none.
row_spelled : (columns : List Head) (row : List Field) → is_plain_row columns row ≡ true → list_all is_sized_field row ≡ true →
    SpellsRow columns (line_of (row_line row)) row × (has_no_feed (row_line row) ≡ true)
row_spelled columns row h s =
    let w = and_parts (length columns == length row) (list_all (λ pair. is_plain_field pair.0 pair.1) (zip columns row)) h in
    let same : length columns ≡ length row = grind (arith, nat_tests, w.0) in
    let r = row_read columns row same w.1 s in
    let fields = map field_text row in
    let here : SpellsRow columns (Says Rec (behind fields)) row = (
      r.pieces,
      (behind fields, refl, fields_behind fields r.pieces r.read),
      ap (values_of columns) (kept_all (length columns) r.pieces r.many) ∙ r.values,
    ) in
    (subst (λ l. SpellsRow columns l row) (sym (rec_line fields)) here, no_feed_spaced (codes "rec") fields r.pieces refl r.read)

rows_spelled : (columns : List Head) (rows : List (List Field)) → list_all (is_plain_row columns) rows ≡ true →
    list_all (λ row. list_all is_sized_field row) rows ≡ true → SpellsRows columns (map line_of (map row_line rows)) rows
    × (list_all has_no_feed (map row_line rows) ≡ true)
rows_spelled columns [] h s = (tt, refl)
rows_spelled columns (row ∷ rows) h s =
    let w = and_parts (is_plain_row columns row) (list_all (is_plain_row columns) rows) h in
    let z = and_parts (list_all is_sized_field row) (list_all (λ row. list_all is_sized_field row) rows) s in
    let r = row_spelled columns row w.0 z.0 in
    let ih = rows_spelled columns rows w.1 z.1 in
    ((r.0, ih.0), rw (r.1, ih.1) refl)

no_feed_append : (xs ys : List (List ℕ)) → list_all has_no_feed xs ≡ true → list_all has_no_feed ys ≡ true →
    list_all has_no_feed (xs ++ ys) ≡ true
no_feed_append [] ys h e = e
no_feed_append (x ∷ xs) ys h e = let w = and_parts (has_no_feed x) (list_all has_no_feed xs) h in rw (w.0, no_feed_append xs ys w.1 e) refl

length_names : (columns : List Head) → length (names_in columns) ≡ length columns
length_names [] = refl
length_names (c ∷ columns) = ap suc (length_names columns)

name_spelled : (name : List ℕ) → is_plain_name name ≡ true →
    Names (Says Tbl (behind (name ∷ []))) name × (has_no_feed (codes "tbl" ++ spaced (name ∷ [])) ≡ true)
name_spelled name h =
    let n = name_reads name h in (
      (Bare name, (behind (name ∷ []), refl, fields_behind (name ∷ []) (Bare name ∷ []) (n.0, tt)), n.1),
      no_feed_spaced (codes "tbl") (name ∷ []) (Bare name ∷ []) refl (n.0, tt),
    )

names_spelled : (columns : List Head) → are_plain_columns columns ≡ true →
    NamesColumns (Says Atr (behind (names_in columns))) (names_in columns) × (has_no_feed (codes "atr" ++ spaced (names_in columns)) ≡ true)
names_spelled columns h =
    let w = and_parts (not (length columns == 0)) (nat_le (length columns) 200 && list_all is_plain_column columns) h in
    let v = and_parts (nat_le (length columns) 200) (list_all is_plain_column columns) w.1 in
    let some : 1 ≤ length columns = grind (arith, nat_tests, w.0) in
    let few : length columns ≤ 200 = grind (arith, nat_tests, v.0) in
    let n = names_read columns v.1 in
    let pieces = map (λ (c : Head). Bare c.name) columns in (
      (
        pieces,
        (behind (names_in columns), refl, fields_behind (names_in columns) pieces n.0),
        ap (λ (t : List Piece). all_some (map name_of t)) n.2 ∙ n.1,
        omega (arith, length_names columns, some),
        omega (arith, length_names columns, few),
      ),
      no_feed_spaced (codes "atr") (names_in columns) pieces refl n.0,
    )

formats_spelled : (columns : List Head) → list_all is_plain_column columns ≡ true →
    FormatsColumns (Says Frm (behind (formats_in columns))) (formats_in columns)
    × (has_no_feed (codes "frm" ++ spaced (formats_in columns)) ≡ true)
formats_spelled columns h =
    let n = formats_read columns h in
    let pieces = map (λ (c : Head). Bare c.format) columns in (
      (
        pieces,
        (behind (formats_in columns), refl, fields_behind (formats_in columns) pieces n.0),
        ap (λ (t : List Piece). all_some (map format_of t)) (kept_all (length (formats_in columns)) pieces n.2) ∙ n.1,
      ),
      no_feed_spaced (codes "frm") (formats_in columns) pieces refl n.0,
    )

-- The lines of a plain table spell it, and none has a line end in it: `tbl`, `atr` and `frm` by the lemmas above, the rows one by
-- one, and `end` because the decimal digits of the number of rows are read as this number. There the size counts: a count is at
-- most 18 digits, so rows must be fewer than 10 ^ 18. All that the machine must know of a table it takes from here.
table_right : (table : Table) → is_plain_table table ≡ true → is_sized_table table ≡ true → RightTable table
table_right table h s =
    let w = and_parts (is_plain_name table.name) (are_plain_columns table.columns && list_all (is_plain_row table.columns) table.rows) h in
    let v = and_parts (are_plain_columns table.columns) (list_all (is_plain_row table.columns) table.rows) w.1 in
    let c = and_parts (not (length table.columns == 0)) (nat_le (length table.columns) 200 && list_all is_plain_column table.columns) v.0 in
    let plain = (and_parts (nat_le (length table.columns) 200) (list_all is_plain_column table.columns) c.1).1 in
    let z = and_parts (nat_lt (length table.rows) (10 ^ 18)) (list_all (λ row. list_all is_sized_field row) table.rows) s in
    let few : length table.rows < 10 ^ 18 = grind (arith, nat_tests, z.0) in
    let name = name_spelled table.name w.0 in
    let names = names_spelled table.columns v.0 in
    let formats = formats_spelled table.columns plain in
    let rows = rows_spelled table.columns table.rows v.1 z.1 in
    let number = decimal (length table.rows) ∷ [] in
    let counted = decimal_counts End (length table.rows) few in
    let end_clean = no_feed_spaced (codes "end") number (Bare (decimal (length table.rows)) ∷ []) refl
    (number_read (length table.rows) few) in
    record {
      spells = record {
        tbl = line_of (tbl_bytes table);
        atr = line_of (atr_bytes table);
        frm = line_of (frm_bytes table);
        recs = map line_of (map row_line table.rows);
        ended = line_of (end_bytes table);
        parts = ap (λ (t : List Line). line_of (tbl_bytes table) ∷ line_of (atr_bytes table) ∷ line_of (frm_bytes table) ∷ t)
            (map_append (map row_line table.rows) (end_bytes table ∷ []));
        name = subst (λ l. Names l table.name) (sym (tbl_line (table.name ∷ []))) name.0;
        columns = subst (λ l. NamesColumns l (names_in table.columns)) (sym (atr_line (names_in table.columns))) names.0;
        formats = subst (λ l. FormatsColumns l (formats_in table.columns)) (sym (frm_line (formats_in table.columns))) formats.0;
        rows = rows.0;
        count = subst (λ l. Counts l End (length table.rows)) (sym (end_line number)) counted;
      };
      no_feed = four_clean (tbl_bytes table) (atr_bytes table) (frm_bytes table) (map row_line table.rows ++ end_bytes table ∷ []) name.1
          names.1 formats.1 (no_feed_append (map row_line table.rows) (end_bytes table ∷ []) rows.1 (rw end_clean refl));
    }
  where
    four_clean : (a b c : List ℕ) (xs : List (List ℕ)) → has_no_feed a ≡ true → has_no_feed b ≡ true → has_no_feed c ≡ true →
        list_all has_no_feed xs ≡ true → list_all has_no_feed (a ∷ b ∷ c ∷ xs) ≡ true
    four_clean a b c xs p q r s = rw (p, q, r, s) refl

-- Where some tables have been read, reading the lines of further plain tables adds just these. The statement is about any tables
-- `ts` read before, since the induction moves each table read over to them; each step is `run_table`, by which the machine goes
-- through the lines that spell one table.
tables_run : (ts tables : List Table) → list_all is_plain_table tables ≡ true → list_all is_sized_table tables ≡ true →
    (run (Open true ts) (map line_of (tables_lines tables)) ≡ Ok (Open true (ts ++ tables)))
    × (list_all has_no_feed (tables_lines tables) ≡ true)
tables_run ts [] h s = (ap (λ (t : List Table). Ok (Open true t)) (sym (append-nil ts)), refl)
tables_run ts (t ∷ tables) h s =
    let w = and_parts (is_plain_table t) (list_all is_plain_table tables) h in
    let z = and_parts (is_sized_table t) (list_all is_sized_table tables) s in
    let r = table_right t w.0 z.0 in
    let ih = tables_run (ts ++ t ∷ []) tables w.1 z.1 in (
      ap (run (Open true ts)) (map_append (table_lines t) (tables_lines tables))
          ∙ run_append (Open true ts) (map line_of (table_lines t)) (map line_of (tables_lines tables))
          ∙ ap (λ (u : Result State TextKind). goes_on u (λ v. run v (map line_of (tables_lines tables))))
          (run_table true ts (map line_of (table_lines t)) t r.spells) ∙ ih.0
          ∙ ap (λ (u : List Table). Ok (Open true u)) (append_assoc ts (t ∷ []) tables),
      no_feed_append (table_lines t) (tables_lines tables) r.no_feed ih.1,
    )

-- The same from the start of a text. There the machine does not yet stand behind a table, and with no table at all it never does;
-- the truth value `b` says whether there was one, and for the `eof` behind it either will do. The first table is read from the
-- start itself, and the others by `tables_run`, with the first as the table read before.
all_run : (tables : List Table) → list_all is_plain_table tables ≡ true → list_all is_sized_table tables ≡ true →
    (b : Bool) × (run start (map line_of (tables_lines tables)) ≡ Ok (Open b tables)) × (list_all has_no_feed (tables_lines tables) ≡ true)
all_run [] h s = (false, refl, refl)
all_run (t ∷ tables) h s =
    let w = and_parts (is_plain_table t) (list_all is_plain_table tables) h in
    let z = and_parts (is_sized_table t) (list_all is_sized_table tables) s in
    let r = table_right t w.0 z.0 in
    let ih = tables_run (t ∷ []) tables w.1 z.1 in (
      true,
      ap (run start) (map_append (table_lines t) (tables_lines tables))
          ∙ run_append start (map line_of (table_lines t)) (map line_of (tables_lines tables))
          ∙ ap (λ (u : Result State TextKind). goes_on u (λ v. run v (map line_of (tables_lines tables))))
          (run_table false [] (map line_of (table_lines t)) t r.spells) ∙ ih.0,
      no_feed_append (table_lines t) (tables_lines tables) r.no_feed ih.1,
    )

header_runs : run start (map line_of header_lines) ≡ Ok start
header_runs = refl

-- All lines behind the header end with the tables: the tables' lines by `all_run`, and then `eof`, whose number is that of the
-- tables; for it to be a count they must be fewer than 10 ^ 18. That none of these lines has a line end is carried along, as
-- `lines_again` needs it for the cut.
body_runs : (tables : List Table) → are_plain tables ≡ true → are_sized tables ≡ true →
    (run start (map line_of (tables_lines tables ++ eof_bytes tables ∷ [])) ≡ Ok (Ended tables))
    × (list_all has_no_feed (tables_lines tables ++ eof_bytes tables ∷ []) ≡ true)
body_runs tables h s =
    let z = and_parts (nat_lt (length tables) (10 ^ 18)) (list_all is_sized_table tables) s in
    let few : length tables < 10 ^ 18 = grind (arith, nat_tests, z.0) in
    let number = decimal (length tables) ∷ [] in
    let w = all_run tables h z.1 in
    let eof : line_of (eof_bytes tables) ≡ Says Eof (behind number) = eof_line number in
    let clean : has_no_feed (eof_bytes tables) ≡ true =
    no_feed_spaced (codes "eof") number (Bare (decimal (length tables)) ∷ []) refl (number_read (length tables) few) in
    let last : run (Open w.0 tables) (map line_of (eof_bytes tables ∷ [])) ≡ Ok (Ended tables) =
    ap (λ (l : Line). run (Open w.0 tables) (l ∷ [])) eof
    ∙ ap (λ (r : Result State TextKind). goes_on r (λ v. Ok v))
    (eof_step w.0 tables (Says Eof (behind number)) (decimal_counts Eof (length tables) few)) in (
      ap (run start) (map_append (tables_lines tables) (eof_bytes tables ∷ []))
          ∙ run_append start (map line_of (tables_lines tables)) (map line_of (eof_bytes tables ∷ []))
          ∙ ap (λ (u : Result State TextKind). goes_on u (λ v. run v (map line_of (eof_bytes tables ∷ [])))) w.1 ∙ last,
      no_feed_append (tables_lines tables) (eof_bytes tables ∷ []) w.2 (rw clean refl),
    )

lines_again : (tables : List Table) → are_plain tables ≡ true → are_sized tables ≡ true → lines_of (text tables) ≡ text_lines tables
lines_again tables h s =
    ap (λ (t : List ℕ). map without_return (cut_at_feeds t)) (text_ended tables) ∙ cut_lines (text_lines tables) (body_runs tables h s).1

-- What is written is read back: the text of plain tables of a size that a text can say spells these tables, which is the clause
-- `back` of `write_tables`. The text is cut into its lines again (`lines_again`); the machine is at its start again behind the
-- header's lines (`header_runs`), and ends with the tables (`body_runs`); and what the machine ends with is spelled (`run_spells`).
-- It goes by the machine because that asks for one step of each line and no more: which lines count, and which are header lines,
-- need not be shown apart.
pub text_back : (tables : List Table) → are_plain tables ≡ true → are_sized tables ≡ true → Spells (lines_of (text tables)) tables
text_back tables h s =
    let body = tables_lines tables ++ eof_bytes tables ∷ [] in
    let runs : run_lines (text_lines tables) ≡ Ok (Ended tables) =
    ap (run start) (map_append header_lines body) ∙ run_append start (map line_of header_lines) (map line_of body)
    ∙ ap (λ (u : Result State TextKind). goes_on u (λ v. run v (map line_of body))) header_runs ∙ (body_runs tables h s).0 in
    subst (λ lines. Spells lines tables) (sym (lines_again tables h s)) (run_spells (text_lines tables) tables runs)

pub back_clause : {E : Type 0} (tables : List Table) (r : Result (List ℕ) E) → IfOk r (λ bytes. bytes ≡ text tables) →
    IsTrue (are_plain tables) → OnOk r (IsTrue (are_sized tables)) → IfOk r (λ bytes. Spells (lines_of bytes) tables)
back_clause tables (Ok bytes) e h s = subst (λ b. Spells (lines_of b) tables) (sym e) (text_back tables h s)
back_clause tables (Err x) e h s = tt

-- Lines spell at most one list of tables: whatever they spell, the machine ends with it (`spells_run`), and the machine has one
-- end. So the clauses `only` and `one` of `write_tables` follow from `back`: other tables that the bytes spell, or plain ones whose
-- text they are and which they therefore spell too, are the tables that were written.
spelled_once : (lines : List (List ℕ)) (tables others : List Table) → Spells lines tables → Spells lines others → others ≡ tables
spelled_once lines tables others a b = let p = spells_run lines tables a in let q = spells_run lines others b in cc (p, q)

pub only_clause : {E : Type 0} (tables others : List Table) (r : Result (List ℕ) E) → IfOk r (λ bytes. Spells (lines_of bytes) tables) →
    IfOk r (λ bytes. Spells (lines_of bytes) others → others ≡ tables)
only_clause tables others (Ok bytes) a = λ b. spelled_once (lines_of bytes) tables others a b
only_clause tables others (Err x) a = tt

pub one_clause : {E : Type 0} (tables others : List Table) (r : Result (List ℕ) E) → IsTrue (are_plain others) → IsTrue (are_sized others) →
    IfOk r (λ bytes. Spells (lines_of bytes) tables) → IfOk r (λ bytes. bytes ≡ text others → others ≡ tables)
one_clause tables others (Ok bytes) h s a =
    λ e. spelled_once (lines_of bytes) tables others a (subst (λ b. Spells (lines_of b) others) (sym e) (text_back others h s))
one_clause tables others (Err x) h s a = tt
