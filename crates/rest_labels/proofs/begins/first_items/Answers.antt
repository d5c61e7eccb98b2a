use Rattle.std.proofs.Common.{◌≡◌, ◌≤◌, ◌<◌, ℕ, true, false, length, refl, arith}
use Rattle.std.proofs.lemmas.Bool.Decides.{nat_tests}
use Rattle.std.specs.Prelude.{nat_lt}
use Rattle.rest_labels.proofs.Steps.{body-there}
use Rattle.rest_labels.proofs.begins.first_items.Goals as goal

pub loop-item-preserved : goal.loop-item-preserved
loop-item-preserved c =
    let k : ℕ = c.loop-item.item in
    let made = c.with_item-range.ensures in
    let first : ℕ = c.with_item-range.result.first in
    let end : ℕ = c.with_item-range.result.end in
    record {
      few = (let low = made.first in let was = c.loop-item.invariant.few in omega (arith, low, was));
      within = λ x y ys below inside is.
          let here : nat_lt x k ≡ false → (first ≤ y) × (y < end) = λ not.
          let same : k ≡ x = (grind (arith, nat_tests, below, not)) in made.within y ys (rw same inside) (rw same is) in
          let before : nat_lt x k ≡ true → (first ≤ y) × (y < end) = λ less.
          let under : x < k = grind (arith, nat_tests) in
          let (low, high) = c.loop-item.invariant.within x y ys under inside is in
          let less = made.first in
          let more = made.end in (omega (arith, low, less), omega (arith, high, more)) in
          elim (nat_lt x k) as (λ t. nat_lt x k ≡ t → (first ≤ y) × (y < end)) [ true ↦ before | false ↦ here ] refl;
    }

pub returns-clause-within : goal.returns-clause-within
returns-clause-within c = λ x y ys inside is.
    let there : x < length c.args.bodies.now = body-there c.args.bodies.now x y ys is in
    let all = c.loop-item-test.false in
    c.loop-item.invariant.within x y ys (omega (arith, there, all)) inside is
