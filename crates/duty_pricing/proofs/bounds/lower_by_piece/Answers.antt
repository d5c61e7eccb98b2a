use Rattle.std.proofs.Common.{◌/◌, ℕ, ℤ, subst, arith, rules, w64}
use Rattle.std.proofs.lemmas.Int.{ints, to_z-of_z}
use Rattle.std.specs.Prelude.{FitsSigned}
use Rattle.cover_core.proofs.Values.{price_at-within}
use Rattle.duty_pricing.specs.Bounds.{IsRowLowered, row_at}
use Rattle.duty_pricing.proofs.Bounding.{lowered-by, not-lowered}
use Rattle.duty_pricing.proofs.Lowering.{row-get}
use Rattle.duty_pricing.proofs.bounds.lower_by_piece.Goals as goal
use Rattle.duty_pricing.proofs.bounds.lower_by_piece.Goals.{else-piece-reach-via-then-piece-reach+else-taken-reach, else-piece-reach-via-else-piece-reach}

pub lower_row-requires-clause-low : goal.lower_row-requires-clause-low
lower_row-requires-clause-low c = λ x less.
    let low = c.requires.low x less in
    rw (row-get c.args.rows.now c.args.next) (omega (arith, ints))

pub lower_row-requires-clause-high : goal.lower_row-requires-clause-high
lower_row-requires-clause-high c = λ x.
    let high = c.requires.high x in
    rw (row-get c.args.rows.now c.args.next) (omega (arith, ints))

pub lower_row-requires-clause-price_low : goal.lower_row-requires-clause-price_low
lower_row-requires-clause-price_low c =
    let fits : FitsSigned w64 c.price.result = search rules in
    let own = price_at-within 10000000000000 c.args.prices.now c.args.next c.requires.moderate in
    rw (to_z-of_z w64 _ fits, c.price.ensures) own.low

pub lower_row-requires-clause-price_high : goal.lower_row-requires-clause-price_high
lower_row-requires-clause-price_high c =
    let fits : FitsSigned w64 c.price.result = search rules in
    let own = price_at-within 10000000000000 c.args.prices.now c.args.next c.requires.moderate in
    rw (to_z-of_z w64 _ fits, c.price.ensures) own.high

pub returns-then-taken-reach : goal.returns-then-taken-reach
returns-then-taken-reach c =
    let rows = c.args.rows.now in
    let fits : FitsSigned w64 c.price.result = search rules in
    let lowered = rw (to_z-of_z w64 _ fits, row-get rows c.args.next) at c.lower_row.ensures in
    let P : ℤ → Type 0 = λ z. IsRowLowered c.args.row.now c.lower_row.new.row (row_at rows c.args.next)
    (c.piece-piece.result.now.driving / c.args.reach.now.unit) c.args.reach.now.width z in
    let S : ℕ → Type 0 = λ n. IsRowLowered c.args.row.now c.lower_row.new.row (row_at rows c.args.next) n
    c.args.reach.now.width c.price.result in
    lowered-by c.args.net.now c.args.prices.now c.args.reach.now rows c.args.next c.piece-piece.result.now c.args.row.now
    c.lower_row.new.row c.requires.reach c.piece-piece.ensures.piece
    c.requires.moderate c.requires.low (subst P c.price.ensures (subst S c.in_units-taken.ensures lowered))

pub returns-else-piece-reach : goal.returns-else-piece-reach
returns-else-piece-reach c =
    not-lowered c.args.net.now c.args.prices.now c.args.reach.now c.args.rows.now c.args.next c.piece-piece.result.now c.args.row.now
    c.piece-piece.ensures.piece
    (λ in_time few.
    elim c.else-piece-reach.branch [
      | else-piece-reach-via-then-piece-reach+else-taken-reach w ↦
          (let over = w.if-taken-reach.false in let units = c.in_units-taken.ensures in absurd (omega arith))
      | else-piece-reach-via-else-piece-reach w ↦ (let late = w.if-piece-reach.false in absurd (omega (arith, ints)))
    ])
