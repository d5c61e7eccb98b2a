use Rattle.std.proofs.Common.{◌≡◌, ◌++◌, ◌∷◌, [], Bool, not, refl, sym, ap, ◌∙◌}
use Rattle.std.specs.List.{list_any}
use Rattle.std.specs.Cmp.Lexicographic.{pointwise}
use Rattle.vdv452_rows.specs.declared.cell.Cell.{Cell}
use Rattle.vdv452_rows.specs.declared.cell.Cell.TheVariants.{Nothing, Number, Long, Word}
use Rattle.vdv452_rows.specs.Cells.{same_cell, same_cells}
use Rattle.vdv452_rows.specs.declared.row_key.RowKey.{RowKey}
use Rattle.vdv452_rows.specs.declared.row_key.RowKey.TheVariants.{Numbers, Trip, Cells}
use Rattle.vdv452_rows.specs.contracts.cell.CellPartialEq.TheImpl.{ghosts as cells}
use Rattle.vdv452_rows.specs.contracts.row_key.RowKeyPartialEq.TheImpl.{ghosts as keys}
use Rattle.vdv452_rows.proofs.RowKeyLemmas.{any_short, key_eq, one_more, still_short}
use Rattle.vdv452_rows.proofs.row_key.KeySet.insert.Goals as goal

-- the derived comparisons go by the variants
agree : (x y : Cell) → cells.eq x y ≡ same_cell x y
agree Nothing Nothing = refl
agree (Number m) (Number n) = refl
agree (Long m) (Long n) = refl
agree (Word v) (Word w) = refl
agree x y = refl

same : RowKey → RowKey → Bool
same = keys.eq

agrees : (x y : RowKey) → same x y ≡ key_eq x y
unfolding same
agrees (Numbers v) (Numbers w) = refl
agrees (Numbers v) (Trip version fid) = refl
agrees (Numbers v) (Cells b) = refl
agrees (Trip version fid) (Numbers w) = refl
agrees (Trip version fid) (Trip version' fid') = refl
agrees (Trip version fid) (Cells b) = refl
agrees (Cells a) (Numbers w) = refl
agrees (Cells a) (Trip version fid) = refl
agrees (Cells a) (Cells b) = λ i. pointwise (λ x y. agree x y i) a b

pub invariant_of-self-2 : goal.invariant_of-self-2
unfolding same
invariant_of-self-2 c =
    still_short same c.self.inside.keys.keys c.insert.new.self.keys c.short_key.result c.args.key c.short_key.ensures
    c.in_ok-insert.ensures.keys c.self.invariant

pub returns-clause-new : goal.returns-clause-new
unfolding same
returns-clause-new c =
    c.in_ok-insert.ensures.added
    ∙ ap not (
    ap (λ key. list_any (same key) c.self.inside.keys.keys) c.short_key.ensures
    ∙ any_short same agrees c.args.key c.self.inside.keys.keys c.self.invariant
    ∙ ap (list_any (same_cells c.args.key)) c.self.view_is)

pub returns-clause-noted : goal.returns-clause-noted
unfolding same
returns-clause-noted c = λ is_new.
    one_more same c.self.inside.keys.keys c.insert.new.self.keys c.short_key.result c.args.key c.short_key.ensures
    c.in_ok-insert.ensures.keys (sym c.in_ok-insert.ensures.added ∙ is_new)
    ∙ ap (λ before. before ++ c.args.key ∷ []) c.self.view_is
