-- Tables that few bytes spell have few rows.
use Rattle.std.proofs.Common.{◌≡◌, ℕ, zero, suc, ◌+◌, ◌<◌, ◌≤◌, ◌^◌, Bool, true, false, cond, ◌==◌, List, [], ◌∷◌, ◌++◌, length, drop, map, filter, All, Result, Ok, Err, refl, ap, ◌∙◌, arith, length-append, length-drop, slice_index_or, nat_eq}
use Rattle.std.specs.Prelude.{IfOk}
use Rattle.std.specs.List.{starts_with}
use Rattle.std.proofs.lemmas.List.{length-map}
use Rattle.vdv451_text.specs.declared.table.Field.{Field}
use Rattle.vdv451_text.specs.declared.table.Head.{Head}
use Rattle.vdv451_text.specs.declared.table.Table.{Table}
use Rattle.vdv451_text.specs.declared.fault.TextFault.{TextFault}
use Rattle.vdv451_text.specs.Lines.{Line, cut_at_feeds, line_of, lines_of, onto_first, without_mark, without_return}
use Rattle.vdv451_text.specs.Grammar.{SpellsRows, SpellsTable, SpellsTables, counting, counts}
use Rattle.vdv451_text.specs.Faults.{Gives}

-- a byte more makes at most one line more
onto_first_size : (b : ℕ) (lines : List (List ℕ)) → length (onto_first b lines) ≤ length lines + 1
onto_first_size b [] = omega arith
onto_first_size b (line ∷ lines) = omega arith

cut_size : (bytes : List ℕ) → length (cut_at_feeds bytes) ≤ length bytes
cut_size [] = omega arith
cut_size (b ∷ bytes) =
    let Goal : Bool → Type 0 = λ t. length (cond t ([] ∷ cut_at_feeds bytes) (onto_first b (cut_at_feeds bytes))) ≤ length (b ∷ bytes) in
    let split : (t : Bool) → Goal t = λ t. elim t as Goal [
      | true ↦ omega (arith, cut_size bytes)
      | false ↦ omega (arith, cut_size bytes, onto_first_size b (cut_at_feeds bytes))
    ] in split (b == 10)

mark_size : (bytes : List ℕ) → length (without_mark bytes) ≤ length bytes
mark_size bytes =
    let Goal : Bool → Type 0 = λ t. length (cond t (drop 3 bytes) bytes) ≤ length bytes in
    let split : (t : Bool) → Goal t = λ t. elim t as Goal [
      | true ↦ omega (arith, length-drop 3 bytes)
      | false ↦ omega arith
    ] in split (starts_with nat_eq bytes (239 ∷ 187 ∷ 191 ∷ []))

kept_size : (p : Line → Bool) (lines : List Line) → length (filter p lines) ≤ length lines
kept_size p [] = omega arith
kept_size p (line ∷ lines) =
    let Goal : Bool → Type 0 = λ t. length (cond t (line ∷ filter p lines) (filter p lines)) ≤ length (line ∷ lines) in
    let split : (t : Bool) → Goal t = λ t. elim t as Goal [
      | true ↦ omega (arith, kept_size p lines)
      | false ↦ omega (arith, kept_size p lines)
    ] in split (p line)

counting_size : (bytes : List ℕ) → length (counting (lines_of bytes)) ≤ length bytes
counting_size bytes =
    omega (
      arith,
      kept_size counts (map line_of (lines_of bytes)),
      length-map (lines_of bytes) line_of,
      length-map (cut_at_feeds (without_mark bytes)) without_return,
      cut_size (without_mark bytes),
      mark_size bytes,
    )

-- a line for each row
rows_size : (columns : List Head) (lines : List Line) (rows : List (List Field)) → SpellsRows columns lines rows →
    length rows ≡ length lines
rows_size columns [] [] spelled = refl
rows_size columns (line ∷ lines) (row ∷ rows) spelled = omega (arith, rows_size columns lines rows spelled.1)
rows_size columns [] (row ∷ rows) spelled = absurd spelled
rows_size columns (line ∷ lines) [] spelled = absurd spelled

table_size : (lines : List Line) (table : Table) → SpellsTable lines table → length table.rows ≤ length lines
table_size lines table spelled =
    let all : length lines ≡ length (spelled.tbl ∷ spelled.atr ∷ spelled.frm ∷ spelled.recs ++ spelled.ended ∷ []) =
    ap (λ (ls : List Line). length ls) spelled.parts in
    omega (
      arith,
      all,
      length-append (spelled.tbl ∷ spelled.atr ∷ spelled.frm ∷ spelled.recs) (spelled.ended ∷ []),
      rows_size table.columns spelled.recs table.rows spelled.rows,
    )

tables_size : (most : ℕ) (lines : List Line) (tables : List Table) → length lines ≤ most → SpellsTables lines tables →
    All (λ table. length table.rows ≤ most) tables
tables_size most lines [] few spelled = λ k d within. absurd (omega (arith, within))
tables_size most lines (table ∷ tables) few (first, others, parts, one, more) =
    let all : length lines ≡ length first + length others = ap (λ (ls : List Line). length ls) parts ∙ length-append first others in
    let rest = tables_size most others tables (omega (arith, all, few)) more in
    let here : length table.rows ≤ most = omega (arith, table_size first table one, all, few) in
    λ k. elim k as (λ k. (d : Table) → k < length (table ∷ tables) → length (slice_index_or (table ∷ tables) k d).rows ≤ most) [
      | zero ↦ λ d within. here
      | suc j ↦ λ d within. rest j d (omega (arith, within))
    ]

-- Tables that are read from at most 4294967294 bytes have fewer than 2 ^ 32 rows: there are no more lines than bytes, those that
-- count are no more than the lines, and of these each row of a table has one of its own. It is the clause `sized` of `read_file`,
-- on which it rests in `vdv452_rows` that the numbers of rows fit in 32 bits.
pub given_sizes : (most : ℕ) (bytes : List ℕ) (tables : List Table) → most ≤ 4294967294 → Gives most bytes tables →
    All (λ table. length table.rows < 2 ^ 32) tables
given_sizes most bytes tables small (few, spelled) =
    let whole : length (counting (lines_of bytes)) ≡ length (spelled.header ++ spelled.body) + 1 =
    ap (λ (ls : List Line). length ls) spelled.parts ∙ length-append (spelled.header ++ spelled.body) (spelled.eof ∷ []) in
    let body : length spelled.body ≤ most = omega (arith, whole, length-append spelled.header spelled.body, counting_size bytes, few) in
    let all = tables_size most spelled.body tables body spelled.tables_lines in
    λ k d within. omega (arith, all k d within, small)

-- the same of the answer of reading a file
pub sized_clause : (most : ℕ) (bytes : List ℕ) (r : Result (List Table) TextFault) → most ≤ 4294967294 →
    IfOk r (λ tables. Gives most bytes tables) → IfOk r (λ tables. All (λ table. length table.rows < 2 ^ 32) tables)
sized_clause most bytes (Ok tables) small given = given_sizes most bytes tables small given
sized_clause most bytes (Err e) small given = tt
