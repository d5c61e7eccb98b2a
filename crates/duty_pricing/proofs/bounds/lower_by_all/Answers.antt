use Rattle.std.proofs.Common.{◌≡◌, ℕ, length, subst, arith}
use Rattle.duty_network.proofs.Entries.{entry-get}
use Rattle.duty_pricing.specs.Behind.{IsLoweredByAll, IsLoweredByOne}
use Rattle.duty_pricing.proofs.Looking.{all-begun, all-more}
use Rattle.duty_pricing.proofs.bounds.lower_by_all.Goals as goal

pub loop-number-init : goal.loop-number-init
loop-number-init c = all-begun c.args.reach.now c.args.chain.now c.args.firsts.now c.args.item c.args.row.now

pub lower_by_one-requires-clause-order : goal.lower_by_one-requires-clause-order
lower_by_one-requires-clause-order c =
    let order = c.requires.behind c.loop-number.number c.loop-number-test.true in
    rw (entry-get c.args.firsts.now c.loop-number.number) order

pub loop-number-preserved : goal.loop-number-preserved
loop-number-preserved c =
    let P : ℕ → Type 0 = λ n. IsLoweredByOne c.args.reach.now c.args.chain.now c.args.item n c.loop-number.row c.lower_by_one.new.row in
    all-more c.args.reach.now c.args.chain.now c.args.firsts.now c.args.item c.loop-number.number c.args.row.now c.loop-number.row
    c.lower_by_one.new.row c.loop-number.invariant
    (subst P (entry-get c.args.firsts.now c.loop-number.number) c.lower_by_one.ensures)

pub returns : goal.returns
returns c =
    let past = c.loop-number-test.false in
    let most = c.loop-number.auto.number-end in
    let ended : c.loop-number.number ≡ length c.args.firsts.now = omega arith in
    let P : ℕ → Type 0 = λ n. IsLoweredByAll c.args.reach.now c.args.chain.now c.args.firsts.now c.args.item n
    c.args.row.now c.loop-number.row in
    subst P ended c.loop-number.invariant
