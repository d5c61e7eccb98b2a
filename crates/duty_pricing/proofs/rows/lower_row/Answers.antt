use Rattle.std.proofs.Common.{◌≡◌, ◌≤◌, ◌<◌, ◌-◌, ◌-ℤ◌, subst, arith, rules, pos, get_or, w64}
use Rattle.std.proofs.lemmas.Int.{to_z-of_z}
use Rattle.std.specs.Prelude.{FitsSigned, ℕ, ℤ}
use Rattle.cover_core.specs.Plans.{number_at}
use Rattle.duty_pricing.specs.Bounds.{IsLowered, IsRowLowered}
use Rattle.duty_pricing.proofs.Lowering.{number-get, row-begun, row-more}
use Rattle.duty_pricing.proofs.rows.lower_row.Goals as goal

pub less-value-requires-clause-rest_low : goal.less-value-requires-clause-rest_low
less-value-requires-clause-rest_low c =
    let next = c.args.next.now in
    let at = c.loop-place.place - c.args.shift in
    let fits : FitsSigned w64 (get_or next at (pos 0)) = search rules in
    let small : at < 16 = (let end = c.loop-place-test.true in let width = c.requires.width in omega arith) in
    rw (to_z-of_z w64 _ fits, number-get next at) (c.requires.low at small)

pub less-value-requires-clause-rest_high : goal.less-value-requires-clause-rest_high
less-value-requires-clause-rest_high c =
    let next = c.args.next.now in
    let at = c.loop-place.place - c.args.shift in
    let fits : FitsSigned w64 (get_or next at (pos 0)) = search rules in
    rw (to_z-of_z w64 _ fits, number-get next at) (c.requires.high at)

pub loop-place-init : goal.loop-place-init
loop-place-init c =
    let none : c.args.shift ≤ c.args.shift = omega arith in
    record { from = none; so_far = row-begun c.args.row.now c.args.next.now c.args.shift c.args.shift _ none }

pub loop-place-preserved : goal.loop-place-preserved
loop-place-preserved c =
    let next = c.args.next.now in
    let at = c.loop-place.place - c.args.shift in
    let fits : FitsSigned w64 (get_or next at (pos 0)) = search rules in
    let value_fits : FitsSigned w64 c.less-value.result = search rules in
    let price_fits : FitsSigned w64 c.args.price = search rules in
    let value : c.less-value.result ≡ number_at next at -ℤ c.args.price =
    (rw (to_z-of_z w64 _ fits, number-get next at, to_z-of_z w64 _ price_fits) at c.less-value.ensures) in
    let P : ℤ → Type 0 = λ z. IsLowered c.loop-place.row c.lower_at.new.row c.loop-place.place z in
    let lowered : IsLowered c.loop-place.row c.lower_at.new.row c.loop-place.place c.less-value.result =
    rw (to_z-of_z w64 _ value_fits) at c.lower_at.ensures in
    rw (to_z-of_z w64 _ price_fits)
    (record {
      from = (let from = c.loop-place.invariant.from in omega arith);
      so_far = row-more c.args.row.now c.loop-place.row c.lower_at.new.row next c.args.shift c.loop-place.place c.args.price
          c.loop-place.invariant.from
          (rw (to_z-of_z w64 _ price_fits) at c.loop-place.invariant.so_far) (subst P value lowered);
    })

pub returns : goal.returns
returns c =
    let price_fits : FitsSigned w64 c.args.price = search rules in
    let ended : c.loop-place.place ≡ c.args.width =
    (let end = c.loop-place-test.false in let most = c.loop-place.auto.place-end c.requires.order in omega arith) in
    let P : ℕ → Type 0 = λ n. IsRowLowered c.args.row.now c.loop-place.row c.args.next.now c.args.shift n c.args.price in
    subst P ended (rw (to_z-of_z w64 _ price_fits) at c.loop-place.invariant.so_far)
