use Rattle.std.proofs.Common.{arith}
use Rattle.std.proofs.lemmas.Int.{ints}
use Rattle.duty_pricing.proofs.Looking.{one-lowered, one-missing}
use Rattle.duty_pricing.proofs.Lowering.{row-get}
use Rattle.duty_pricing.proofs.bounds.lower_by_one.Goals as goal

pub lower_row-requires-clause-low : goal.lower_row-requires-clause-low
lower_row-requires-clause-low c = λ x less.
    let low = c.requires.chain.low c.args.place (omega (arith, c.requires.order)) c.if-place-chain.true x less in
    rw (row-get c.args.chain.now c.args.place) (omega (arith, ints))

pub lower_row-requires-clause-high : goal.lower_row-requires-clause-high
lower_row-requires-clause-high c = λ x.
    let high = c.requires.chain.high c.args.place x in
    rw (row-get c.args.chain.now c.args.place) (omega (arith, ints))

pub returns-then-place-chain : goal.returns-then-place-chain
returns-then-place-chain c =
    let lowered = rw (row-get c.args.chain.now c.args.place) at c.lower_row.ensures in
    one-lowered c.args.reach.now c.args.chain.now c.args.item c.args.place c.args.row.now c.lower_row.new.row c.requires.reach
    c.requires.chain c.requires.order c.if-place-chain.true lowered

pub returns-else-place-chain : goal.returns-else-place-chain
returns-else-place-chain c =
    let past = c.if-place-chain.false in
    one-missing c.args.reach.now c.args.chain.now c.args.item c.args.place c.args.row.now (omega arith)
