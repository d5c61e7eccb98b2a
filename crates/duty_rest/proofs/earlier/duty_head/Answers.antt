use Rattle.std.proofs.Common.{ℕ, List, length, sym, subst, arith}
use Rattle.cover_core.specs.Cover.{AllBelow}
use Rattle.duty_rest.proofs.Found.{from-below}
use Rattle.duty_rest.proofs.earlier.duty_head.Goals as goal

pub head_of-requires-clause-pieces : goal.head_of-requires-clause-pieces
head_of-requires-clause-pieces c =
    let n : ℕ = length c.args.net.now.pieces in
    let P : List ℕ → Type 0 = AllBelow n in
    let same = c.requires in
    subst P (sym c.in_ok-pieces-in-Some.ensures.pieces) (from-below n c.args.begun.now c.as_slice-parts.result.now 0 (omega (arith, same)))
