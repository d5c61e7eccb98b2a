use Rattle.std.proofs.Common.{◌≡◌, ◌∙◌, ◌+◌, ◌≤ℤ◌, ℤ, pos, List, length, sym, ap, subst, arith}
use Rattle.std.specs.Prelude.{Some, None, nat_le}
use Rattle.plan_core.specs.declared.types.Piece.{Piece}
use Rattle.duty_pricing.specs.Bounds.{IsLow, IsLoweredBy, cell_at, low_of, row_at}
use Rattle.duty_pricing.proofs.Bounding.{chosen-rows}
use Rattle.duty_pricing.proofs.Looking.{by-direct, none-direct}
use Rattle.duty_pricing.proofs.bounds.lower_by_direct.Goals as goal

pub lower_by_piece-requires-clause-count : goal.lower_by_piece-requires-clause-count
lower_by_piece-requires-clause-count c =
    let n = length c.args.net.now.pieces in
    let P : List (List ℤ) → Type 0 = λ l. length l ≡ n in
    subst P (sym c.pick-table.ensures)
    (chosen-rows (nat_le c.args.long c.in-Some.time) n (c.args.item + 1) c.args.over.now c.args.rows.now
    c.requires.over c.requires.rows).count

pub lower_by_piece-requires-clause-low : goal.lower_by_piece-requires-clause-low
lower_by_piece-requires-clause-low c =
    let n = length c.args.net.now.pieces in
    let order = c.requires.order in
    let same = ap (λ (l : List Piece). length l) c.pieces.ensures.pieces in
    let there = c.if-direct-pieces.false in
    let P : List (List ℤ) → Type 0 = λ l. IsLow (low_of c.args.direct) (row_at l c.args.direct) in
    subst P (sym c.pick-table.ensures)
    ((chosen-rows (nat_le c.args.long c.in-Some.time) n (c.args.item + 1) c.args.over.now c.args.rows.now c.requires.over
    c.requires.rows).low c.args.direct (omega arith) (omega arith))

pub lower_by_piece-requires-clause-high : goal.lower_by_piece-requires-clause-high
lower_by_piece-requires-clause-high c = λ x.
    let n = length c.args.net.now.pieces in
    let P : List (List ℤ) → Type 0 = λ l. cell_at l c.args.direct x ≤ℤ pos 7000000000000 in
    subst P (sym c.pick-table.ensures)
    (((chosen-rows (nat_le c.args.long c.in-Some.time) n (c.args.item + 1) c.args.over.now c.args.rows.now c.requires.over
    c.requires.rows).falling c.args.direct).high x)

pub returns-then-direct-pieces : goal.returns-then-direct-pieces
returns-then-direct-pieces c =
    let same = ap (λ (l : List Piece). length l) c.pieces.ensures.pieces in
    let past = c.if-direct-pieces.true in
    none-direct c.args.net.now c.args.prices.now c.args.reach.now c.args.long c.args.rows.now c.args.over.now c.args.item c.args.direct
    c.args.row.now (λ time there is_time. omega arith)

pub returns-in-Some : goal.returns-in-Some
returns-in-Some c =
    let d = c.args.net.now in
    let P : List (List ℤ) → Type 0 =
    λ l. IsLoweredBy d c.args.prices.now c.args.reach.now l c.args.direct c.args.row.now c.lower_by_piece.new.row in
    by-direct d c.args.prices.now c.args.reach.now c.args.long c.in-Some.time c.args.rows.now c.args.over.now c.args.item c.args.direct
    c.args.row.now c.lower_by_piece.new.row c.requires.order
    (sym c.pause.ensures ∙ c.in-Some.is) (subst P c.pick-table.ensures c.lower_by_piece.ensures)

pub returns-in-None : goal.returns-in-None
returns-in-None c =
    none-direct c.args.net.now c.args.prices.now c.args.reach.now c.args.long c.args.rows.now c.args.over.now c.args.item
    c.args.direct c.args.row.now
    (λ time there is_time. absurd (let bad : None ≡ Some time = sym c.in-None.is ∙ c.pause.ensures ∙ is_time in cc))
