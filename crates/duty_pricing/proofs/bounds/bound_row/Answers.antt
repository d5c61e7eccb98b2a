use Rattle.std.proofs.Common.{arith, rules, w64}
use Rattle.std.proofs.lemmas.Int.{to_z-of_z}
use Rattle.std.specs.Prelude.{FitsSigned}
use Rattle.duty_pricing.proofs.Looking.{bounded, bounded-falls, bounded-low, chain-in-reach}
use Rattle.duty_pricing.proofs.bounds.bound_row.Goals as goal

pub lower_by_all-requires-clause-chain : goal.lower_by_all-requires-clause-chain
lower_by_all-requires-clause-chain c =
    chain-in-reach c.args.net.now c.args.prices.now c.args.reach.now c.args.numbers.now c.args.rows.now _ c.args.chain.now c.requires.chain

pub lower_by_all-requires-2-clause-chain : goal.lower_by_all-requires-2-clause-chain
lower_by_all-requires-2-clause-chain c =
    chain-in-reach c.args.net.now c.args.prices.now c.args.reach.now c.args.numbers.now c.args.over.now _ c.args.over_chain.now
    c.requires.over_chain

pub lower_by_all-requires-clause-behind : goal.lower_by_all-requires-clause-behind
lower_by_all-requires-clause-behind c = c.requires.near.behind

pub lower_by_all-requires-2-clause-behind : goal.lower_by_all-requires-2-clause-behind
lower_by_all-requires-2-clause-behind c = c.requires.far.behind

pub returns-clause-row : goal.returns-clause-row
returns-clause-row c =
    let fits : FitsSigned w64 c.ending_value-row.result = search rules in
    let last_fits : FitsSigned w64 c.args.last = search rules in
    bounded c.args.net.now c.args.prices.now c.args.group.now c.args.reach.now c.args.long c.args.last c.args.numbers.now c.args.rows.now
    c.args.over.now c.args.chain.now c.args.over_chain.now
    c.args.near.now c.args.far.now c.args.item c.args.direct c.ending_value-row.result c.lower_by_direct.new.row c.lower_by_all.new.row
    c.lower_by_all-2.new.row c.settle.new.row c.requires.reach
    (rw (to_z-of_z w64 _ last_fits) at c.ending_value-row.ensures.closes) (rw (to_z-of_z w64 _ fits) at c.lower_by_direct.ensures)
    c.lower_by_all.ensures c.lower_by_all-2.ensures c.settle.ensures
    c.requires.chain c.requires.over_chain c.requires.near c.requires.far

pub returns-clause-falling : goal.returns-clause-falling
returns-clause-falling c =
    let fits : FitsSigned w64 c.ending_value-row.result = search rules in
    bounded-falls c.ending_value-row.result c.args.reach.now c.args.chain.now c.args.over_chain.now c.args.near.now c.args.far.now
    c.args.net.now c.args.prices.now c.args.long c.args.rows.now c.args.over.now
    c.args.item c.args.direct _ _ c.lower_by_direct.new.row c.lower_by_all.new.row c.lower_by_all-2.new.row
    c.settle.new.row c.ending_value-row.ensures.high
    (rw (to_z-of_z w64 _ fits) at c.lower_by_direct.ensures) c.lower_by_all.ensures c.lower_by_all-2.ensures c.settle.ensures

pub returns-clause-low : goal.returns-clause-low
returns-clause-low c =
    let fits : FitsSigned w64 c.ending_value-row.result = search rules in
    let few = c.fits.ensures.few in
    let item = c.requires.item in
    bounded-low c.ending_value-row.result c.args.reach.now c.args.chain.now c.args.over_chain.now c.args.near.now c.args.far.now
    c.args.net.now c.args.prices.now c.args.long c.args.rows.now c.args.over.now
    c.args.item c.args.direct _ _ c.lower_by_direct.new.row c.lower_by_all.new.row c.lower_by_all-2.new.row c.settle.new.row
    (omega arith) c.ending_value-row.ensures.low
    (rw (to_z-of_z w64 _ fits) at c.lower_by_direct.ensures) c.lower_by_all.ensures c.lower_by_all-2.ensures c.settle.ensures
