use Rattle.std.proofs.Common.{◌∙◌, List, length, ap}
use Rattle.plan_core.specs.declared.types.Piece.{Piece}
use Rattle.duty_rest.proofs.Found.{parts-length}
use Rattle.duty_rest.proofs.earlier.duty_heads.Goals as goal

pub row_heads-requires : goal.row_heads-requires
row_heads-requires c =
    let same = c.as_slice-3.ensures ∙ c.in_ok-begun.ensures in
    let all = parts-length c.as_slice.result.now c.as_slice-2.result.now c.args.moment c.pieces-pieces.result.now in
    ap (λ l. length l) same ∙ all ∙ ap (λ (l : List Piece). length l) c.pieces-pieces.ensures.pieces
