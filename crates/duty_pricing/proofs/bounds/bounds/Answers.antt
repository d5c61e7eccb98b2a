use Rattle.std.proofs.Common.{◌≡◌, ◌-◌, ◌+◌, ◌≤◌, ◌∙◌, ℕ, ℤ, List, ap, set, subst, sym, refl, length, arith, rules, w64}
use Rattle.std.proofs.lemmas.Int.{to_z-of_z}
use Rattle.std.specs.Prelude.{FitsSigned}
use Rattle.plan_core.specs.declared.types.Piece.{Piece}
use Rattle.duty_network.specs.Followers.{AreNumbered}
use Rattle.duty_pricing.specs.Bounds.{AreBelow, AreOut, AreRows, IsBoundFrom, IsBoundRow, IsChain, IsRaised, IsTail, row_at}
use Rattle.duty_pricing.proofs.Bounding.{bounded-from, chain-from, chain-kept, chained, more-rows, out-below, out-chain, out-tail, placed, raised-below, raised-falls, raised-low, raised-row, row-others, row-read, rows-from, tail-kept, unbounded}
use Rattle.duty_pricing.proofs.Looking.{far-firsts, near-firsts}
use Rattle.duty_pricing.proofs.bounds.bounds.Goals as goal

pub follower-follower-requires : goal.follower-follower-requires
follower-follower-requires c =
    let more = c.loop-item-test.true in
    let within = c.loop-item.invariant.within in
    let count = c.requires.followers.count in
    omega arith

pub bound_row-row-requires-clause-direct : goal.bound_row-row-requires-clause-direct
bound_row-row-requires-clause-direct c =
    (c.requires.followers.each (c.loop-item.item - 1) c.follower-follower.result.now c.follower-follower.ensures).direct

pub bound_row-row-requires-clause-near : goal.bound_row-row-requires-clause-near
bound_row-row-requires-clause-near c =
    near-firsts c.args.net.now c.args.followers.now (c.loop-item.item - 1) c.follower-follower.result.now c.args.numbers.now
    c.as_slice.result.now c.requires.followers c.follower-follower.ensures
    c.requires.numbers c.as_slice.ensures.value

pub bound_row-row-requires-clause-far : goal.bound_row-row-requires-clause-far
bound_row-row-requires-clause-far c =
    far-firsts c.args.net.now c.args.followers.now (c.loop-item.item - 1) c.follower-follower.result.now c.args.numbers.now
    c.as_slice-in-loop-item.result.now c.requires.followers c.follower-follower.ensures
    c.requires.numbers c.as_slice-in-loop-item.ensures.value

pub bound_row-row-requires-clause-rows : goal.bound_row-row-requires-clause-rows
bound_row-row-requires-clause-rows c =
    let n = length c.args.net.now.pieces in
    let one : c.loop-item.item ≡ (c.loop-item.item - 1) + 1 = (let more = c.loop-item-test.true in omega arith) in
    let P : ℕ → Type 0 = λ m. AreRows n m c.loop-item.rows.items in
    let Q : List (List ℤ) → Type 0 = λ l. AreRows n ((c.loop-item.item - 1) + 1) l in
    subst Q (sym c.as_slice-so_far.ensures.value) (subst P one c.loop-item.invariant.rows.are)

pub bound_row-row-requires-clause-over : goal.bound_row-row-requires-clause-over
bound_row-row-requires-clause-over c =
    let n = length c.args.net.now.pieces in
    let more = c.loop-item-test.true in
    let one : c.loop-item.item ≡ (c.loop-item.item - 1) + 1 = omega arith in
    let Q : List (List ℤ) → Type 0 = λ l. AreRows n ((c.loop-item.item - 1) + 1) l in
    subst Q (sym c.as_slice-above.ensures.value)
    (rows-from n c.args.first ((c.loop-item.item - 1) + 1) c.args.over.now.rows.items c.requires.over.are (omega arith))

pub bound_row-row-requires-clause-below : goal.bound_row-row-requires-clause-below
bound_row-row-requires-clause-below c =
    let P : List (List ℤ) → Type 0 = λ l. AreBelow c.as_slice-above.result.now l in
    let Q : List (List ℤ) → Type 0 = λ l. AreBelow l c.loop-item.rows.items in
    subst P (sym c.as_slice-so_far.ensures.value) (subst Q (sym c.as_slice-above.ensures.value) c.loop-item.invariant.below)

pub bound_row-row-requires-clause-chain : goal.bound_row-row-requires-clause-chain
bound_row-row-requires-clause-chain c =
    let d = c.args.net.now in
    let one : c.loop-item.item ≡ (c.loop-item.item - 1) + 1 = (let more = c.loop-item-test.true in omega arith) in
    let P : ℕ → Type 0 = λ m. IsChain d c.args.prices.now c.args.reach.now c.args.numbers.now c.loop-item.rows.items
    m c.loop-item.chain.items in
    let Q : List (List ℤ) → Type 0 =
    λ l. IsChain d c.args.prices.now c.args.reach.now c.args.numbers.now l ((c.loop-item.item - 1) + 1) c.loop-item.chain.items in
    let R : List (List ℤ) → Type 0 =
    λ l. IsChain d c.args.prices.now c.args.reach.now c.args.numbers.now c.as_slice-so_far.result.now ((c.loop-item.item - 1) + 1) l in
    subst R (sym c.as_slice-chained.ensures.value) (subst Q (sym c.as_slice-so_far.ensures.value) (subst P one c.loop-item.invariant.chain))

pub bound_row-row-requires-clause-over_chain : goal.bound_row-row-requires-clause-over_chain
bound_row-row-requires-clause-over_chain c =
    let d = c.args.net.now in
    let more = c.loop-item-test.true in
    let one : c.loop-item.item ≡ (c.loop-item.item - 1) + 1 = omega arith in
    let Q : List (List ℤ) → Type 0 =
    λ l. IsChain d c.args.prices.now c.args.reach.now c.args.numbers.now l ((c.loop-item.item - 1) + 1) c.args.over.now.chain.items in
    let R : List (List ℤ) → Type 0 =
    λ l. IsChain d c.args.prices.now c.args.reach.now c.args.numbers.now c.as_slice-above.result.now ((c.loop-item.item - 1) + 1) l in
    subst R (sym c.as_slice-above_chained.ensures.value) (subst Q (sym c.as_slice-above.ensures.value)
    (chain-from d c.args.prices.now c.args.reach.now c.args.numbers.now c.args.over.now.rows.items c.args.first ((c.loop-item.item - 1) + 1)
    c.args.over.now.chain.items c.requires.over_chain (omega arith)))

pub chain_row-least-requires-clause-numbers : goal.chain_row-least-requires-clause-numbers
chain_row-least-requires-clause-numbers c =
    let P : List ℕ → Type 0 = λ l. AreNumbered (length c.args.net.now.pieces) l in
    subst P (sym c.requires.numbers) c.requires.followers.points.each

pub chain_row-least-requires-clause-rows : goal.chain_row-least-requires-clause-rows
chain_row-least-requires-clause-rows c =
    let n = length c.args.net.now.pieces in
    let item = c.loop-item.item - 1 in
    let more = c.loop-item-test.true in
    let within = c.loop-item.invariant.within in
    let one : c.loop-item.item ≡ item + 1 = omega arith in
    let size = c.requires.over.are.count in
    let S1 : List ℤ → Type 0 = λ l. IsRaised c.bound_row-row.result c.raise.new.row l 16 in
    let raised = subst S1 (c.index.ensures ∙ row-read c.args.over.now.rows.items item c.index.result.now (omega arith)) c.raise.ensures in
    let P : ℕ → Type 0 = λ m. AreRows n m c.loop-item.rows.items in
    let Q : List (List ℤ) → Type 0 = λ l. AreRows n item l in
    subst Q (sym c.as_slice-now.ensures.value)
    (more-rows n item c.loop-item.rows.items c.raise.new.row (subst P one c.loop-item.invariant.rows.are) (omega arith)
    (raised-falls c.bound_row-row.result c.raise.new.row (row_at c.args.over.now.rows.items (c.loop-item.item - 1))
    c.bound_row-row.ensures.falling (c.requires.over.are.falling (c.loop-item.item - 1)) raised)
    (raised-low _ c.bound_row-row.result c.raise.new.row (row_at c.args.over.now.rows.items (c.loop-item.item - 1))
    c.bound_row-row.ensures.low raised))

pub chain_row-least-requires-clause-tail : goal.chain_row-least-requires-clause-tail
chain_row-least-requires-clause-tail c =
    let d = c.args.net.now in
    let item = c.loop-item.item - 1 in
    let more = c.loop-item-test.true in
    let one : c.loop-item.item ≡ item + 1 = omega arith in
    let P : ℕ → Type 0 = λ m. IsTail d c.args.prices.now c.args.reach.now c.args.numbers.now c.loop-item.rows.items
    m c.loop-item.tail.items in
    let Q : List (List ℤ) → Type 0 =
    λ l. IsTail d c.args.prices.now c.args.reach.now c.args.numbers.now l (item + 1) c.loop-item.tail.items in
    subst Q (sym c.as_slice-now.ensures.value)
    (tail-kept d c.args.prices.now c.args.reach.now c.args.numbers.now c.loop-item.rows.items
    (set c.loop-item.rows.items item c.raise.new.row) (item + 1) c.loop-item.tail.items
    (subst P one c.loop-item.invariant.tail)
    (λ n order. row-others c.loop-item.rows.items item n c.raise.new.row (λ e. absurd (omega arith))))

pub loop-item-init : goal.loop-item-init
loop-item-init c =
    let d = c.args.net.now in
    let r = c.args.reach.now in
    let few = c.fits.ensures.few in
    let last_fits : FitsSigned w64 c.args.last = search rules in
    let same : length c.pieces-count.result.now ≡ length d.pieces = ap (λ (l : List Piece). length l) c.pieces-count.ensures.pieces in
    let rows : AreOut (length d.pieces) c.in_ok-rows.rows.items =
    (let P : ℕ → Type 0 = λ n. AreOut n c.in_ok-rows.rows.items in subst P same c.in_ok-rows.ensures) in
    let chain : AreOut (length d.pieces) c.in_ok-chain.chain.items =
    (let P : ℕ → Type 0 = λ n. AreOut n c.in_ok-chain.chain.items in subst P same c.in_ok-chain.ensures) in
    let tail : AreOut (length d.pieces) c.in_ok-tail.tail.items =
    (let P : ℕ → Type 0 = λ n. AreOut n c.in_ok-tail.tail.items in subst P same c.in_ok-tail.ensures) in
    let A : ℕ → Type 0 = λ n. IsBoundFrom d c.args.prices.now c.args.group.now r 10800 c.args.last n c.in_ok-rows.rows.items
    c.args.over.now.rows.items in
    let B : ℕ → Type 0 = λ n. IsChain d c.args.prices.now r c.args.numbers.now c.in_ok-rows.rows.items n c.in_ok-chain.chain.items in
    let C : ℕ → Type 0 = λ n. IsTail d c.args.prices.now r c.args.numbers.now c.in_ok-rows.rows.items n c.in_ok-tail.tail.items in
    record {
      within = (omega arith);
      rows = rw (to_z-of_z w64 _ last_fits)
          (subst A (sym same) (unbounded d c.args.prices.now c.args.group.now r 10800 c.args.last c.in_ok-rows.rows.items
          c.args.over.now.rows.items rows));
      chain = subst B (sym same)
          (out-chain d c.args.prices.now r c.args.numbers.now c.in_ok-rows.rows.items c.in_ok-chain.chain.items chain);
      tail = subst C (sym same)
          (out-tail d c.args.prices.now r c.args.numbers.now c.in_ok-rows.rows.items c.in_ok-tail.tail.items few tail);
      below = out-below (length d.pieces) c.args.over.now.rows.items c.in_ok-rows.rows.items c.requires.over.are.count
          c.requires.over.are.falling rows;
    }

-- One piece more, from the last one back, for lists that have had no long pause. The row of the piece is a bound by its steps
-- (`bound_row`) and is raised to the row of lists with a long pause, which is a bound of it, too (`raised-row`); it is put in its
-- place (`placed`). Then the tail of the piece's number is lowered by it, and the chain keeps that tail (`chained`). What was said
-- of later pieces stays, since it speaks of later rows alone.
pub loop-item-preserved : goal.loop-item-preserved
loop-item-preserved c =
    let d = c.args.net.now in
    let r = c.args.reach.now in
    let item = c.loop-item.item - 1 in
    let rows = c.loop-item.rows.items in
    let row = c.raise.new.row in
    let last_fits : FitsSigned w64 c.args.last = search rules in
    let more = c.loop-item-test.true in
    let within = c.loop-item.invariant.within in
    let one : c.loop-item.item ≡ item + 1 = omega arith in
    let size = c.requires.over.are.count in
    let S1 : List ℤ → Type 0 = λ l. IsRaised c.bound_row-row.result row l 16 in
    let raised = subst S1 (c.index.ensures ∙ row-read c.args.over.now.rows.items item c.index.result.now (omega arith)) c.raise.ensures in
    let others : (n : ℕ) → item + 1 ≤ n → row_at (set rows item row) n ≡ row_at rows n =
    λ n order. row-others rows item n row (λ e. absurd (omega arith)) in
    let A : ℕ → Type 0 = λ n. IsBoundFrom d c.args.prices.now c.args.group.now r 10800 c.args.last n rows c.args.over.now.rows.items in
    let B : ℕ → Type 0 = λ n. IsChain d c.args.prices.now r c.args.numbers.now rows n c.loop-item.chain.items in
    let bound : IsBoundRow d c.args.prices.now c.args.group.now r 10800 c.args.last rows c.args.over.now.rows.items item row =
    (let Q : List (List ℤ) → Type 0 = λ l. IsBoundRow d c.args.prices.now c.args.group.now r 10800 c.args.last l c.as_slice-above.result.now
    item c.bound_row-row.result in
    let S : List (List ℤ) → Type 0 =
    λ l. IsBoundRow d c.args.prices.now c.args.group.now r 10800 c.args.last rows l item c.bound_row-row.result in
    raised-row d c.args.prices.now c.args.group.now r c.args.last rows c.args.over.now.rows.items item c.bound_row-row.result row
    (row_at c.args.over.now.rows.items item) c.requires.reach
    c.loop-item.invariant.below c.requires.in_time
    (subst S c.as_slice-above.ensures.value
    (subst Q c.as_slice-so_far.ensures.value (rw (to_z-of_z w64 _ last_fits) at c.bound_row-row.ensures.row)))
    (c.requires.over.bounds item (omega arith) (omega arith)) raised) in
    let T : List (List ℤ) → Type 0 = λ l. IsTail d c.args.prices.now r c.args.numbers.now l item c.chain_row-least.new.tail.items in
    let tail = subst T c.as_slice-now.ensures.value c.chain_row-least.ensures.tail in
    record {
      within = (omega arith);
      rows = rw (to_z-of_z w64 _ last_fits)
          (placed d c.args.prices.now c.args.group.now r 10800 c.args.last item rows c.args.over.now.rows.items c.args.over.now.rows.items
          row (subst A one (rw (to_z-of_z w64 _ last_fits) at c.loop-item.invariant.rows)) (omega arith) bound
          (raised-falls c.bound_row-row.result c.raise.new.row (row_at c.args.over.now.rows.items (c.loop-item.item - 1))
          c.bound_row-row.ensures.falling (c.requires.over.are.falling (c.loop-item.item - 1)) raised)
          (raised-low _ c.bound_row-row.result c.raise.new.row (row_at c.args.over.now.rows.items (c.loop-item.item - 1))
          c.bound_row-row.ensures.low raised) (λ n order. refl));
      chain = chained d c.args.prices.now r c.args.numbers.now (set rows item row) c.loop-item.chain.items c.chain_row-least.new.tail.items
          item c.chain_row-least.result (omega arith)
          (chain-kept d c.args.prices.now r c.args.numbers.now rows (set rows item row) (item + 1) c.loop-item.chain.items
          (subst B one c.loop-item.invariant.chain) others) tail
          c.chain_row-least.ensures.row;
      tail = tail;
      below = raised-below c.args.over.now.rows.items rows item c.bound_row-row.result row c.loop-item.invariant.below (let count =
          c.loop-item.invariant.rows.are.count in omega arith) raised;
    }

pub returns-clause-rows : goal.returns-clause-rows
returns-clause-rows c =
    let last_fits : FitsSigned w64 c.args.last = search rules in
    bounded-from c.args.net.now c.args.prices.now c.args.group.now c.args.reach.now 10800 c.args.last c.loop-item.item c.args.first
    c.loop-item.rows.items c.args.over.now.rows.items
    (rw (to_z-of_z w64 _ last_fits) at c.loop-item.invariant.rows) c.loop-item-test.false
