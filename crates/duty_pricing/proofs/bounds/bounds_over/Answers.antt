use Rattle.std.proofs.Common.{◌≡◌, ◌-◌, ◌+◌, ◌≤◌, ℕ, ℤ, List, ap, set, subst, sym, length, arith, rules, w64}
use Rattle.std.proofs.lemmas.Int.{to_z-of_z}
use Rattle.std.specs.Prelude.{FitsSigned}
use Rattle.plan_core.specs.declared.types.Piece.{Piece}
use Rattle.duty_network.specs.Followers.{AreNumbered}
use Rattle.duty_pricing.specs.Bounds.{AreOut, AreRows, IsBoundFrom, IsBoundRow, IsChain, IsTail, row_at}
use Rattle.duty_pricing.proofs.Bounding.{below-self, bounded-from, chain-from, chain-kept, chained, more-rows, out-chain, out-tail, placed, row-others, tail-kept, unbounded}
use Rattle.duty_pricing.proofs.Looking.{all-firsts, no-firsts}
use Rattle.duty_pricing.proofs.bounds.bounds_over.Goals as goal

pub follower-follower-requires : goal.follower-follower-requires
follower-follower-requires c =
    let more = c.loop-item-test.true in
    let within = c.loop-item.invariant.within in
    let count = c.requires.followers.count in
    omega arith

pub bound_row-row-requires-clause-direct : goal.bound_row-row-requires-clause-direct
bound_row-row-requires-clause-direct c =
    (c.requires.followers.each (c.loop-item.item - 1) c.follower-follower.result.now c.follower-follower.ensures).direct

pub bound_row-row-requires-clause-near : goal.bound_row-row-requires-clause-near
bound_row-row-requires-clause-near c =
    no-firsts c.args.net.now c.args.numbers.now (c.loop-item.item - 1) c.follower-follower.result.now.direct

pub bound_row-row-requires-clause-far : goal.bound_row-row-requires-clause-far
bound_row-row-requires-clause-far c =
    all-firsts c.args.net.now c.args.followers.now (c.loop-item.item - 1) c.follower-follower.result.now c.args.numbers.now
    c.as_slice.result.now c.requires.followers c.follower-follower.ensures
    c.requires.numbers c.as_slice.ensures.value

pub bound_row-row-requires-clause-rows : goal.bound_row-row-requires-clause-rows
bound_row-row-requires-clause-rows c =
    let n = length c.args.net.now.pieces in
    let one : c.loop-item.item ≡ (c.loop-item.item - 1) + 1 = (let more = c.loop-item-test.true in omega arith) in
    let P : ℕ → Type 0 = λ m. AreRows n m c.loop-item.rows.items in
    let Q : List (List ℤ) → Type 0 = λ l. AreRows n ((c.loop-item.item - 1) + 1) l in
    subst Q (sym c.as_slice-so_far.ensures.value) (subst P one c.loop-item.invariant.rows.are)

pub bound_row-row-requires-clause-over : goal.bound_row-row-requires-clause-over
bound_row-row-requires-clause-over c =
    let n = length c.args.net.now.pieces in
    let more = c.loop-item-test.true in
    let one : c.loop-item.item ≡ (c.loop-item.item - 1) + 1 = omega arith in
    let P : ℕ → Type 0 = λ m. AreRows n m c.loop-item.rows.items in
    let Q : List (List ℤ) → Type 0 = λ l. AreRows n ((c.loop-item.item - 1) + 1) l in
    subst Q (sym c.as_slice-so_far.ensures.value) (subst P one c.loop-item.invariant.rows.are)

pub bound_row-row-requires-clause-below : goal.bound_row-row-requires-clause-below
bound_row-row-requires-clause-below c =
    below-self c.as_slice-so_far.result.now

pub bound_row-row-requires-clause-chain : goal.bound_row-row-requires-clause-chain
bound_row-row-requires-clause-chain c =
    let d = c.args.net.now in
    let one : c.loop-item.item ≡ (c.loop-item.item - 1) + 1 = (let more = c.loop-item-test.true in omega arith) in
    let P : ℕ → Type 0 = λ m. IsChain d c.args.prices.now c.args.reach.now c.args.numbers.now c.loop-item.rows.items
    m c.loop-item.chain.items in
    let Q : List (List ℤ) → Type 0 =
    λ l. IsChain d c.args.prices.now c.args.reach.now c.args.numbers.now l ((c.loop-item.item - 1) + 1) c.loop-item.chain.items in
    let R : List (List ℤ) → Type 0 =
    λ l. IsChain d c.args.prices.now c.args.reach.now c.args.numbers.now c.as_slice-so_far.result.now ((c.loop-item.item - 1) + 1) l in
    subst R (sym c.as_slice-chained.ensures.value) (subst Q (sym c.as_slice-so_far.ensures.value) (subst P one c.loop-item.invariant.chain))

pub bound_row-row-requires-clause-over_chain : goal.bound_row-row-requires-clause-over_chain
bound_row-row-requires-clause-over_chain c =
    let d = c.args.net.now in
    let more = c.loop-item-test.true in
    let one : c.loop-item.item ≡ (c.loop-item.item - 1) + 1 = omega arith in
    let P : ℕ → Type 0 = λ m. IsChain d c.args.prices.now c.args.reach.now c.args.numbers.now c.loop-item.rows.items
    m c.loop-item.chain.items in
    let Q : List (List ℤ) → Type 0 =
    λ l. IsChain d c.args.prices.now c.args.reach.now c.args.numbers.now l ((c.loop-item.item - 1) + 1) c.loop-item.chain.items in
    let R : List (List ℤ) → Type 0 =
    λ l. IsChain d c.args.prices.now c.args.reach.now c.args.numbers.now c.as_slice-so_far.result.now ((c.loop-item.item - 1) + 1) l in
    subst R (sym c.as_slice-chained.ensures.value) (subst Q (sym c.as_slice-so_far.ensures.value) (subst P one c.loop-item.invariant.chain))

pub chain_row-least-requires-clause-numbers : goal.chain_row-least-requires-clause-numbers
chain_row-least-requires-clause-numbers c =
    let P : List ℕ → Type 0 = λ l. AreNumbered (length c.args.net.now.pieces) l in
    subst P (sym c.requires.numbers) c.requires.followers.points.each

pub chain_row-least-requires-clause-rows : goal.chain_row-least-requires-clause-rows
chain_row-least-requires-clause-rows c =
    let n = length c.args.net.now.pieces in
    let item = c.loop-item.item - 1 in
    let more = c.loop-item-test.true in
    let within = c.loop-item.invariant.within in
    let one : c.loop-item.item ≡ item + 1 = omega arith in
    let P : ℕ → Type 0 = λ m. AreRows n m c.loop-item.rows.items in
    let Q : List (List ℤ) → Type 0 = λ l. AreRows n item l in
    subst Q (sym c.as_slice-now.ensures.value)
    (more-rows n item c.loop-item.rows.items c.bound_row-row.result (subst P one c.loop-item.invariant.rows.are) (omega arith)
    c.bound_row-row.ensures.falling c.bound_row-row.ensures.low)

pub chain_row-least-requires-clause-tail : goal.chain_row-least-requires-clause-tail
chain_row-least-requires-clause-tail c =
    let d = c.args.net.now in
    let item = c.loop-item.item - 1 in
    let more = c.loop-item-test.true in
    let one : c.loop-item.item ≡ item + 1 = omega arith in
    let P : ℕ → Type 0 = λ m. IsTail d c.args.prices.now c.args.reach.now c.args.numbers.now c.loop-item.rows.items
    m c.loop-item.tail.items in
    let Q : List (List ℤ) → Type 0 =
    λ l. IsTail d c.args.prices.now c.args.reach.now c.args.numbers.now l (item + 1) c.loop-item.tail.items in
    subst Q (sym c.as_slice-now.ensures.value)
    (tail-kept d c.args.prices.now c.args.reach.now c.args.numbers.now c.loop-item.rows.items
    (set c.loop-item.rows.items item c.bound_row-row.result) (item + 1) c.loop-item.tail.items
    (subst P one c.loop-item.invariant.tail)
    (λ n order. row-others c.loop-item.rows.items item n c.bound_row-row.result (λ e. absurd (omega arith))))

pub loop-item-init : goal.loop-item-init
loop-item-init c =
    let d = c.args.net.now in
    let r = c.args.reach.now in
    let few = c.fits.ensures.few in
    let same : length c.pieces-count.result.now ≡ length d.pieces = ap (λ (l : List Piece). length l) c.pieces-count.ensures.pieces in
    let rows : AreOut (length d.pieces) c.in_ok-rows.rows.items =
    (let P : ℕ → Type 0 = λ n. AreOut n c.in_ok-rows.rows.items in subst P same c.in_ok-rows.ensures) in
    let chain : AreOut (length d.pieces) c.in_ok-chain.chain.items =
    (let P : ℕ → Type 0 = λ n. AreOut n c.in_ok-chain.chain.items in subst P same c.in_ok-chain.ensures) in
    let tail : AreOut (length d.pieces) c.in_ok-tail.tail.items =
    (let P : ℕ → Type 0 = λ n. AreOut n c.in_ok-tail.tail.items in subst P same c.in_ok-tail.ensures) in
    let A : ℕ → Type 0 = λ n. IsBoundFrom d c.args.prices.now c.args.group.now r 0 r.until n c.in_ok-rows.rows.items
    c.in_ok-rows.rows.items in
    let B : ℕ → Type 0 = λ n. IsChain d c.args.prices.now r c.args.numbers.now c.in_ok-rows.rows.items n c.in_ok-chain.chain.items in
    let C : ℕ → Type 0 = λ n. IsTail d c.args.prices.now r c.args.numbers.now c.in_ok-rows.rows.items n c.in_ok-tail.tail.items in
    record {
      within = (omega arith);
      rows = subst A (sym same)
          (unbounded d c.args.prices.now c.args.group.now r 0 r.until c.in_ok-rows.rows.items c.in_ok-rows.rows.items rows);
      chain = subst B (sym same)
          (out-chain d c.args.prices.now r c.args.numbers.now c.in_ok-rows.rows.items c.in_ok-chain.chain.items chain);
      tail = subst C (sym same)
          (out-tail d c.args.prices.now r c.args.numbers.now c.in_ok-rows.rows.items c.in_ok-tail.tail.items few tail);
    }

-- One piece more, from the last one back, for lists that have had a long pause: each pause counts as long (the limit is 0), so the
-- table goes on with its own rows. The row of the piece is put in its place (`placed`), the tail of its number is lowered by it, and
-- the chain keeps that tail (`chained`).
pub loop-item-preserved : goal.loop-item-preserved
loop-item-preserved c =
    let d = c.args.net.now in
    let r = c.args.reach.now in
    let item = c.loop-item.item - 1 in
    let rows = c.loop-item.rows.items in
    let row = c.bound_row-row.result in
    let until_fits : FitsSigned w64 r.until = search rules in
    let more = c.loop-item-test.true in
    let within = c.loop-item.invariant.within in
    let one : c.loop-item.item ≡ item + 1 = omega arith in
    let others : (n : ℕ) → item + 1 ≤ n → row_at (set rows item row) n ≡ row_at rows n =
    λ n order. row-others rows item n row (λ e. absurd (omega arith)) in
    let A : ℕ → Type 0 = λ n. IsBoundFrom d c.args.prices.now c.args.group.now r 0 r.until n rows rows in
    let B : ℕ → Type 0 = λ n. IsChain d c.args.prices.now r c.args.numbers.now rows n c.loop-item.chain.items in
    let bound : IsBoundRow d c.args.prices.now c.args.group.now r 0 r.until rows rows item row =
    (let Q : List (List ℤ) → Type 0 = λ l. IsBoundRow d c.args.prices.now c.args.group.now r 0 r.until l l item row in
    subst Q c.as_slice-so_far.ensures.value (rw (to_z-of_z w64 _ until_fits) at c.bound_row-row.ensures.row)) in
    let T : List (List ℤ) → Type 0 = λ l. IsTail d c.args.prices.now r c.args.numbers.now l item c.chain_row-least.new.tail.items in
    let tail = subst T c.as_slice-now.ensures.value c.chain_row-least.ensures.tail in
    record {
      within = (omega arith);
      rows = placed d c.args.prices.now c.args.group.now r 0 r.until item rows rows (set rows item row) row
          (subst A one c.loop-item.invariant.rows) (omega arith) bound c.bound_row-row.ensures.falling c.bound_row-row.ensures.low
          (λ n order. others n (omega arith));
      chain = chained d c.args.prices.now r c.args.numbers.now (set rows item row) c.loop-item.chain.items c.chain_row-least.new.tail.items
          item c.chain_row-least.result (omega arith)
          (chain-kept d c.args.prices.now r c.args.numbers.now rows (set rows item row) (item + 1) c.loop-item.chain.items
          (subst B one c.loop-item.invariant.chain) others) tail
          c.chain_row-least.ensures.row;
      tail = tail;
    }

pub returns-clause-rows : goal.returns-clause-rows
returns-clause-rows c =
    bounded-from c.args.net.now c.args.prices.now c.args.group.now c.args.reach.now 0 c.args.reach.now.until c.loop-item.item c.args.first
    c.loop-item.rows.items c.loop-item.rows.items
    c.loop-item.invariant.rows c.loop-item-test.false

pub returns-clause-chain : goal.returns-clause-chain
returns-clause-chain c =
    chain-from c.args.net.now c.args.prices.now c.args.reach.now c.args.numbers.now c.loop-item.rows.items c.loop-item.item c.args.first
    c.loop-item.chain.items c.loop-item.invariant.chain
    c.loop-item-test.false
