-- The pauses behind a piece, row by row.
use Rattle.std.proofs.Common.{◌≡◌, ℕ, ◌+◌, ◌<◌, ◌≤◌, List, [], ◌∷◌, ◌++◌, drop, get_or, length, add-one, drop-cons, ap, sym, ◌∙◌}
use Rattle.std.proofs.lemmas.List.{append-nil, drop_all}
use Rattle.vdv451_text.specs.declared.table.Table.{Table}
use Rattle.plan_rows.specs.declared.rows.PieceRow.{PieceRow}
use Rattle.chart_page.specs.declared.layout.Lane.{Lane}
use Rattle.chart_page.specs.Duties.{pause_parts, pauses}
use Rattle.chart_page.specs.Parts.{written}
use Rattle.chart_page.proofs.PageLemmas.{parts_next, written_nil}

-- one pause more is written, and the next piece is the one before
pub pause_next : (table : Table) (lanes : List Lane) (out new whole : List ℕ) (before d : PieceRow) (pieces : List PieceRow) (i : ℕ) →
    i < length pieces
    → new ≡ out ++ written table (pause_parts lanes before (get_or pieces i d)) →
    out ++ written table (pauses lanes before (drop i pieces)) ≡ whole
    → new ++ written table (pauses lanes (get_or pieces i d) (drop (i + 1) pieces)) ≡ whole
pause_next table lanes out new whole before d pieces i inside more all =
    let here : drop i pieces ≡ get_or pieces i d ∷ drop (i + 1) pieces = rw add-one (drop-cons pieces i d inside) in
    let left : out ++ written table (pause_parts lanes before (get_or pieces i d) ++ pauses lanes (get_or pieces i d) (drop (i + 1) pieces))
    ≡ whole = rw here at all in
    parts_next table out new whole (pause_parts lanes before (get_or pieces i d))
    (pauses lanes (get_or pieces i d) (drop (i + 1) pieces)) more left

-- no piece is left
pub pauses_end : (table : Table) (lanes : List Lane) (out whole : List ℕ) (before : PieceRow) (pieces : List PieceRow) (i : ℕ) →
    length pieces ≤ i
    → out ++ written table (pauses lanes before (drop i pieces)) ≡ whole → out ≡ whole
pauses_end table lanes out whole before pieces i past all =
    let none : out ++ written table [] ≡ whole = rw (drop_all i pieces past) at all in
    sym (append-nil out) ∙ ap (λ (t : List ℕ). out ++ t) (sym (written_nil table)) ∙ none
