use Rattle.std.proofs.Common.{◌≡◌, ◌-◌, ◌∙◌, ℕ, List, Some, length, ap, sym, slice_get}
use Rattle.duty_rest.proofs.Found.{below-at}
use Rattle.duty_rest.proofs.earlier.head_of.Goals as goal

pub is_off_before-off-requires-clause-piece : goal.is_off_before-off-requires-clause-piece
is_off_before-off-requires-clause-piece c =
    let ks : List ℕ = c.args.pieces in
    let is : slice_get ks (length ks - 1) ≡ Some c.in_ok-last.last =
    ap (λ (l : List ℕ). slice_get l (length l - 1)) (sym c.as_slice.ensures) ∙ sym c.last.ensures.value
    ∙ sym c.copied.ensures ∙ c.in_ok-last.was in
    below-at (length c.args.net.now.pieces) ks (length ks - 1) c.in_ok-last.last c.requires.pieces is
