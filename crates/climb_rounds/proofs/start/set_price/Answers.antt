use Rattle.std.proofs.Common.{ℤ, pos, neg_ℤ, ◌≤ℤ◌, List, sym, subst, arith, to_z, of_z, w64}
use Rattle.std.proofs.lemmas.Int.{ints}
use Rattle.plan_core.specs.declared.Price.{Price}
use Rattle.cover_core.specs.FirstLeast.{AllWithin}
use Rattle.cover_core.proofs.Values.{IsWithin}
use Rattle.plan_dive.proofs.Readies.{within_set}
use Rattle.climb_rounds.proofs.start.set_price.Goals as goal

pub returns-clause-moderate : goal.returns-clause-moderate
returns-clause-moderate c =
    let z : ℤ = to_z w64 (of_z w64 c.kept_in-price.result) in
    let x : Price = record { 0 = z } in
    let l = c.kept_in-price.ensures.low in
    let h = c.kept_in-price.ensures.high in
    let sl = c.span_at.ensures.low in
    let sh = c.span_at.ensures.high in
    let low : neg_ℤ (pos 10000000000000) ≤ℤ z = omega (arith, ints) in
    let high : z ≤ℤ pos 10000000000000 = omega (arith, ints) in
    let within : IsWithin 10000000000000 x.0 = record { low = low; high = high } in
    let P : List Price → Type 0 = λ l. AllWithin 10000000000000 l in
    subst P (sym c.set.ensures) (within_set 10000000000000 c.args.prices.now c.args.item x c.requires.moderate within)
