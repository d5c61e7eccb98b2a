use Rattle.std.proofs.Common.{◌≡◌, ◌<◌, ◌≤◌, ◌≤ℤ◌, ℕ, length, ap, subst, arith, rules, w64, List}
use Rattle.std.proofs.lemmas.Int.{ints, to_z-of_z}
use Rattle.std.specs.Prelude.{FitsSigned, Some}
use Rattle.plan_core.specs.declared.types.Piece.{Piece}
use Rattle.duty_network.specs.Marks.{first_mark}
use Rattle.duty_network.proofs.Tied.{marking-stepwise}
use Rattle.duty_pricing.proofs.Lowering.{split}
use Rattle.duty_pricing.proofs.reach.latest_start.Goals as goal

pub loop-item-preserved : goal.loop-item-preserved
loop-item-preserved c =
    let d = c.args.net.now in
    let next = c.later_start-latest.result in
    let fits : FitsSigned w64 next = search rules in
    let kept = c.later_start-latest.ensures.kept in
    let low = c.loop-item.invariant.low in
    rw (to_z-of_z w64 _ fits)
    (record {
      low = omega (arith, ints);
      high = c.later_start-latest.ensures.high;
      so_far = λ item m before from up e. split (m.start.0 ≤ℤ next) item c.loop-item.item
          (λ same.
          let P : ℕ → Type 0 = λ n. c.args.first ≤ n in
          let R : ℕ → Type 0 = λ n. n < c.args.end in
          let Q : ℕ → Type 0 = λ n. first_mark d c.args.prices.now c.args.class c.args.crew.now n ≡ Some m in
          c.later_start-latest.ensures.own m (subst P same from) (subst R same up) (subst Q same e))
          (λ apart. let early = c.loop-item.invariant.so_far item m (omega arith) from up e in omega (arith, ints));
    })

pub returns-clause-latest : goal.returns-clause-latest
returns-clause-latest c = λ item m from up e.
    let (below, last) = (marking-stepwise c.args.net.now c.args.prices.now c.args.class c.args.crew.now).starts item m e in
    let same = ap (λ (l : List Piece). length l) c.pieces.ensures.pieces in
    let end = c.loop-item-test.false in
    c.loop-item.invariant.so_far item m (omega arith) from up e
